-- What sending computes before it writes: the placement's frames and counts, and the plan. Assumes nothing.
use Prim.Native.Nat.{ℕ, ◌+◌, ◌*◌, ◌%◌, ◌≤◌, ◌<◌}
use mathlib.Core.Path.{◌≡◌, sym, ap, ◌∙◌}
use mathlib.Core.Bool.{true}
use mathlib.Core.List.{List, ◌++◌}
use native.Mathlib.Omega.{arith}
use lib.ListN.{length, get_or, take, drop, replicate, length-map, length-replicate, get_or-append}
use lib.Seq.{take_at, length-take-le}
use borrow.Author.Tests.{lt-ltb, le-ltb}
use Rattle.std.specs.Prelude.{Ok, Err, Some}
use Rattle.base.specs.Lists.{over}
use Rattle.base.proofs.ListLaws.{over_length}
use Rattle.job.specs.Submission.{Submission}
use Rattle.job.specs.Job.{job_of}
use Rattle.job.proofs.Accepted.{accepted_job}
use Rattle.placement.specs.Placement.{is_sendable, batches, slot_of, slots, batches_in, slots_in}
use Rattle.placement.proofs.Placed.{slots_length, slots_at}
use Rattle.placement.proofs.Sendable.{of_sendable}
use Rattle.placement.proofs.Placing.{batches_in_lem, slots_in_lem}
use Rattle.transmission.specs.Sending.{Sending, sendings_of, frames_of, counts_of, placement_of}
use Rattle.transmission.specs.Transmission.{codewords_of, transmission_of}
use Rattle.transmission.specs.Report.{sent, sent_into}
use Rattle.transmission.specs.Writing.{Planned}
use Rattle.transmission.specs.declared.SendError.TheVariants.{NoRoom}
use Rattle.transmission.proofs.Sendings.{pages_are, sendings_count, sendable, accepted_sendings, sendings_limits}
use Rattle.transmission.proofs.TransmissionLaws.{transmission_length}

-- what is known when the pages are placed, before a slice is tested: each page's number of groups and slot, and the number of batches
pub record Prepared (s : Submission) (n : ℕ) (groups places : List ℕ) (b : ℕ) : Type 0 where
  pub accepted : job_of s ≡ Ok n
  pub total : b ≡ batches (placement_of (sendings_of s))
  pub counted : groups ≡ counts_of (sendings_of s)
  pub placed : (i : ℕ) → i < length (sendings_of s) → get_or places i 0 ≡ slot_of (placement_of (sendings_of s)) i
  pub front : take n places ≡ slots (placement_of (sendings_of s))
  pub long : n ≤ length places

-- ---- the sendings' frames and counts can be sent, and there is room for them: placing them answers their batches and writes their slots

module _ (s : Submission) (n : ℕ) (ok : job_of s ≡ Ok n) {frames groups : List ℕ} (f : frames ≡ frames_of (sendings_of s)) (g : groups ≡ counts_of (sendings_of s)) where
  all_sendable : is_sendable frames groups ≡ true
  all_sendable = rw (f, g) (of_sendable (sendable (accepted_sendings s n ok)))

  few : length frames ≤ 48
  few = rw f (omega (arith, length-map (sendings_of s) (λ (x : Sending). x.identity % 8), sendings_count s n ok, (accepted_job s n ok).most))

  -- there is a placement
  pub placed_is : batches_in frames groups 48 ≡ Some (batches (placement_of (sendings_of s)))
  placed_is = rw (batches_in_lem frames groups 48 all_sendable few, f, g)

  pub prepared : {b : ℕ} {places : List ℕ} → Some b ≡ batches_in frames groups 48 → places ≡ over (replicate 48 0) (slots_in frames groups 48) → Prepared s n groups places b
  prepared {b} {places} p q =
      let xs = sendings_of s in
      let new = slots (placement_of xs) in
      let all : places ≡ over (replicate 48 0) new = rw (slots_in_lem frames groups 48 all_sendable few, f, g) at q in
      let size : length new ≡ n = slots_length (placement_of xs) ∙ pages_are xs ∙ sendings_count s n ok in
      let most = (accepted_job s n ok).most in
      let answer : Some b ≡ Some (batches (placement_of xs)) = p ∙ placed_is in
      let total : b ≡ batches (placement_of xs) = cc in
      let same = sendings_count s n ok in
      record {
        accepted = ok;
        total = total;
        counted = g;
        placed = λ i h. rw all (get_or-append new _ 0 i (omega arith) ∙ slots_at (placement_of xs) i (omega (arith, pages_are xs)));
        front = rw all (take_at new _ n size);
        long = omega (arith, ap length all, over_length (replicate 48 0) new (omega arith), length-replicate {A = ℕ} 48 0);
      }

-- ---- what is reported, and what is written

module _ {s : Submission} {n : ℕ} {groups places : List ℕ} {b : ℕ} (r : Prepared s n groups places b) where
  pub few_batches : b ≤ 300
  few_batches = rw r.total (sendings_limits (accepted_sendings s n r.accepted)).most

  pub plan : {room : ℕ} → room ≡ 18 + 17 * b → Planned (sendings_of s) groups places room
  plan e = record { counted = r.counted; placed = r.placed; exact = e ∙ ap (λ (x : ℕ). 18 + 17 * x) r.total }

  -- too little room for the words, or for the slots, or enough for both
  pub short_words : (w k : ℕ) → w < 18 + 17 * b → Err NoRoom ≡ sent_into (sendings_of s) w k
  short_words w k h = rw (← r.total, lt-ltb w (18 + 17 * b) h)

  pub short_slots : (w k : ℕ) → 18 + 17 * b ≤ w → k < n → Err NoRoom ≡ sent_into (sendings_of s) w k
  short_slots w k h l = rw (← r.total, le-ltb w (18 + 17 * b) h, sendings_count s n r.accepted, lt-ltb k n l)

  pub enough : (w k : ℕ) → 18 + 17 * b ≤ w → n ≤ k → sent b (18 + 17 * b) ≡ sent_into (sendings_of s) w k
  enough w k h l = rw (← r.total, le-ltb w (18 + 17 * b) h, sendings_count s n r.accepted, le-ltb k n l)

  -- the words written, with what stands behind them
  pub words_over : (old : List ℕ) {new : List ℕ} → new ≡ transmission_of (sendings_of s) → new ++ drop (18 + 17 * b) old ≡ over old (transmission_of (sendings_of s))
  words_over old e =
      let size : length (transmission_of (sendings_of s)) ≡ 18 + 17 * b = rw r.total (transmission_length (codewords_of (sendings_of s)) (placement_of (sendings_of s))) in
      rw (e, size)

  -- the slots copied, with what stands behind them
  pub slots_over : (old : List ℕ) {m : ℕ} → m ≡ n → {new : List ℕ} → new ≡ take m places → new ++ drop m old ≡ over old (slots (placement_of (sendings_of s)))
  slots_over old all e =
      let size : length (slots (placement_of (sendings_of s))) ≡ n = ap length (sym r.front) ∙ length-take-le n places r.long in
      rw (e, all, r.front, size)
