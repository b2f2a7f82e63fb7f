-- What it means that `send` reports a job as sent. Assumes nothing.
use mathlib.Core.Path.{◌≡◌, refl, sym, ap}
use mathlib.Core.Bool.{Bool, true, false, cond, ◌||◌}
use mathlib.Core.List.{List}
use Prim.Native.Nat.{ℕ, ◌≤◌}
use native.Mathlib.Omega.{arith}
use lib.ListN.{length}
use lib.Dec.{ltb}
use borrow.Author.Tests.{ltb-false}
use Rattle.job.specs.Refusal.{JobAnswer}
use Rattle.std.specs.Prelude.{Ok, Err}
use Rattle.job.specs.Submission.{Submission}
use Rattle.job.specs.Job.{job_of}
use Rattle.placement.specs.Placement.{batches}
use Rattle.transmission.specs.Sending.{Sending, sendings_of, placement_of}
use Rattle.transmission.specs.Transmission.{word_count}
use Rattle.transmission.specs.Report.{sent, batches_of, words_of, answered, report_of}
use Rattle.transmission.specs.declared.SendError.TheVariants.{NoRoom}

-- the job is accepted, b and m are the batches and words of its sendings, and both slices have room
pub record Reported (job : JobAnswer) (xs : List Sending) (words slots b m : ℕ) : Type 0 where
  pub pages : ℕ
  pub accepted : job ≡ Ok pages
  pub batches_are : b ≡ batches (placement_of xs)
  pub words_are : m ≡ word_count (placement_of xs)
  pub word_room : word_count (placement_of xs) ≤ words
  pub slot_room : length xs ≤ slots

both_fit : (t u : Bool) {b m : ℕ} (b' m' : ℕ) → cond (t || u) (Err NoRoom) (sent b' m') ≡ sent b m → (t ≡ false) × (u ≡ false) × (b ≡ b') × (m ≡ m')
both_fit true u b' m' e = let z : ◌≡◌ {A = ℕ} 0 1 = cc in absurd (omega arith)
both_fit false true b' m' e = let z : ◌≡◌ {A = ℕ} 0 1 = cc in absurd (omega arith)
both_fit false false b' m' e = (refl, refl, sym (ap batches_of e), sym (ap words_of e))

by_answer : (job : JobAnswer) (xs : List Sending) (words slots : ℕ) {b m : ℕ} → answered job xs words slots ≡ sent b m → Reported job xs words slots b m
by_answer (Ok n) xs words slots e =
    let h = both_fit (ltb words (word_count (placement_of xs))) (ltb slots (length xs)) (batches (placement_of xs)) (word_count (placement_of xs)) e in
    record {
      pages = n;
      accepted = refl;
      batches_are = h.2;
      words_are = h.3;
      word_room = ltb-false words (word_count (placement_of xs)) h.0;
      slot_room = ltb-false slots (length xs) h.1;
    }
by_answer (Err r) xs words slots e = let z : ◌≡◌ {A = ℕ} 0 1 = cc in absurd (omega arith)

pub reported : (s : Submission) (words slots : ℕ) {b m : ℕ} → report_of s words slots ≡ sent b m → Reported (job_of s) (sendings_of s) words slots b m
unfolding report_of
reported s words slots e = by_answer (job_of s) (sendings_of s) words slots e
