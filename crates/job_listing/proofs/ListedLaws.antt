-- What the sent words of a job, in buffers that suffice for every job, say of its listing. Assumes nothing.
use Prim.Native.Nat.{ℕ, ◌*◌, ◌≤◌}
use mathlib.Core.Path.{◌≡◌, refl, sym, ap, ◌∙◌}
use mathlib.Core.Bool.{Bool, true, false, cond}
use mathlib.Core.List.{List}
use native.Mathlib.Omega.{arith}
use lib.ListN.{length, take, drop}
use lib.Seq.{take_all, take_at}
use lib.Dec.{ltb}
use borrow.Author.Tests.{le-ltb}
use Rattle.job.specs.Refusal.{JobAnswer}
use Rattle.std.specs.Prelude.{Option, Some, None, Ok, Err, ok_or}
use Rattle.base.specs.Lists.{over}
use Rattle.job.specs.Submission.{Submission}
use Rattle.job.specs.Job.{job_of}
use Rattle.job.specs.declared.Refused.{Refused}
use Rattle.listing.specs.Text.{text_of}
use Rattle.listing.specs.Writing.{writing_of, bytes_written}
use Rattle.listing.proofs.TextLaws.{text_length}
use Rattle.placement.specs.Placement.{batches}
use Rattle.transmission.specs.Sending.{sendings_of, placement_of}
use Rattle.transmission.specs.Transmission.{word_count, transmission_of}
use Rattle.transmission.specs.Report.{answered, report_of}
use Rattle.transmission.specs.Report as report
use Rattle.transmission.specs.declared.SendError.TheVariants as error
use Rattle.transmission.proofs.Sendings.{accepted_sendings, sendings_limits}
use Rattle.transmission.proofs.TransmissionLaws.{transmission_length}
use Rattle.job_listing.specs.Listed.{Listed, error_of, listing_text, written_into, listed_of, bytes_listed}
use Rattle.job_listing.specs.declared.ListError.TheVariants.{Job, NoRoom}
use Rattle.transmission.specs.declared.SendError.{SendError}
use Rattle.transmission.specs.declared.Sent.{Sent}

-- ---- writing words as text

abbrev pub as_listed : Option ℕ → Listed
as_listed o = ok_or o NoRoom

pub written_is : (ws : List ℕ) (room : ℕ) → as_listed (writing_of ws room) ≡ written_into room (text_of ws)
written_is ws room = rw (text_length 0 ws) (go (ltb room (9 * length ws)))
  where
    go : (b : Bool) → as_listed (cond b None (Some (9 * length ws))) ≡ cond b (Err NoRoom) (Ok (9 * length ws))
    go true = refl
    go false = refl

-- what is written of the text
pub front_written : (ws : List ℕ) (room : ℕ) → take (bytes_written (writing_of ws room)) (text_of ws) ≡ bytes_listed (as_listed (writing_of ws room)) (text_of ws)
front_written ws room = go (ltb room (9 * length ws))
  where
    go : (b : Bool) → take (bytes_written (cond b None (Some (9 * length ws)))) (text_of ws) ≡ bytes_listed (as_listed (cond b None (Some (9 * length ws)))) (text_of ws)
    go true = refl
    go false = take_all (9 * length ws) (text_of ws) (omega (arith, text_length 0 ws))

-- ---- a job's answer, where its report is known

pub record Sends (s : Submission) (m : ℕ) : Type 0 where
  pub answer : (room : ℕ) → listed_of s room ≡ written_into room (listing_text s)
  pub size : m ≡ length (transmission_of (sendings_of s))
  pub fits : m ≤ 5118

sent_ok : {x y : Sent} → ◌≡◌ {A = report.Report} (Ok x) (Ok y) → x ≡ y
sent_ok e = cc

module _ (s : Submission) where
  enough : (n : ℕ) → job_of s ≡ Ok n → (ltb 5118 (word_count (placement_of (sendings_of s))) ≡ false) × (ltb 48 (length (sendings_of s)) ≡ false)
  enough n e =
      let a = accepted_sendings s n e in
      let few = (sendings_limits a).most in
      (le-ltb 5118 (word_count (placement_of (sendings_of s))) (omega arith), le-ltb 48 (length (sendings_of s)) a.most)

  sent_by : (a : JobAnswer) → job_of s ≡ a → (b m : ℕ) → answered a (sendings_of s) 5118 48 ≡ report.sent b m → Sends s m
  unfolding listed_of
  sent_by (Ok n) e b m q =
      let h = enough n e in
      let r : report.sent (batches (placement_of (sendings_of s))) (word_count (placement_of (sendings_of s))) ≡ report.sent b m = rw (h.0, h.1) at q in
      let m_is : word_count (placement_of (sendings_of s)) ≡ m = ap (λ (x : Sent). x.words) (sent_ok r) in
      record { answer = λ room. rw e; size = sym m_is ∙ sym (transmission_length _ _); fits = omega (arith, (sendings_limits (accepted_sendings s n e)).most) }
  sent_by (Err r) e b m q = let z : ◌≡◌ {A = ℕ} 0 1 = cc in absurd (omega arith)

  declined_by : (a : JobAnswer) → job_of s ≡ a → (w : Refused) → answered a (sendings_of s) 5118 48 ≡ Err (error.Job w)
      → (room : ℕ) → listed_of s room ≡ Err (Job w)
  unfolding listed_of
  declined_by (Ok n) e w q room =
      let h = enough n e in
      let r : report.sent (batches (placement_of (sendings_of s))) (word_count (placement_of (sendings_of s))) ≡ Err (error.Job w) = rw (h.0, h.1) at q in
      let z : ◌≡◌ {A = ℕ} 0 1 = cc in
      absurd (omega arith)
  declined_by (Err r) e w q room =
      let same : r ≡ w = cc in
      rw (e, same)

  not_short : (a : JobAnswer) → job_of s ≡ a → answered a (sendings_of s) 5118 48 ≡ Err error.NoRoom → ⊥
  not_short (Ok n) e q =
      let h = enough n e in
      let r : report.sent (batches (placement_of (sendings_of s))) (word_count (placement_of (sendings_of s))) ≡ Err error.NoRoom = rw (h.0, h.1) at q in
      let z : ◌≡◌ {A = ℕ} 0 1 = cc in
      omega arith
  not_short (Err r) e q = let z : ◌≡◌ {A = ℕ} 0 1 = cc in omega arith

  -- where the job is sent, the answer is that of writing its transmission, which stands over the front of the words
  pub sent : (b m : ℕ) → report.sent b m ≡ report_of s 5118 48 → Sends s m
  unfolding report_of
  sent b m q = sent_by (job_of s) refl b m (sym q)

  pub declined : (w : Refused) → Err (error.Job w) ≡ report_of s 5118 48 → (room : ℕ) → listed_of s room ≡ Err (Job w)
  unfolding report_of
  declined w q = declined_by (job_of s) refl w (sym q)

  pub roomy : Err error.NoRoom ≡ report_of s 5118 48 → ⊥
  unfolding report_of
  roomy q = not_short (job_of s) refl (sym q)

  -- and where it is not, the job's refusal
  pub unsent : (e : SendError) → Err e ≡ report_of s 5118 48 → (room : ℕ) → Err (error_of e) ≡ listed_of s room
  unsent (error.Job w) q room = sym (declined w q room)
  unsent error.NoRoom q room = absurd (roomy q)

-- the words that were sent, out of the slice that they stand in
pub front : (s : Submission) (w : List ℕ) (m : ℕ) → m ≡ length (transmission_of (sendings_of s)) → take m (over w (transmission_of (sendings_of s))) ≡ transmission_of (sendings_of s)
front s w m e = take_at (transmission_of (sendings_of s)) (drop (length (transmission_of (sendings_of s))) w) m (sym e)
