-- Placing into a lent slice, by whether the job is placed. Assumes nothing.
use mathlib.Core.Path.{◌≡◌, refl, sym, ap, ap₂, ◌∙◌}
use mathlib.Core.Bool.{Bool, true, false}
use mathlib.Core.List.{List, ◌++◌}
use Prim.Native.Nat.{ℕ, ◌≤◌, ◌<◌}
use lib.ListN.{length, drop}
use borrow.Author.Tests.{le-leb, lt-leb}
use Rattle.std.specs.Prelude.{Option, Some, None}
use Rattle.base.specs.Lists.{over}
use Rattle.base.proofs.Bools.{and_both, and_false}
use Rattle.placement.specs.Placement.{job_of, is_sendable, batches, slots, is_placed, batches_in, slots_in}
use Rattle.placement.proofs.Placed.{slots_length}

module _ (frames words : List ℕ) (room : ℕ) (e : is_sendable frames words ≡ true) (h : length frames ≤ room) where
  is_placed_lem : is_placed frames words room ≡ true
  is_placed_lem = and_both e (le-leb (length frames) room h)

  pub batches_in_lem : batches_in frames words room ≡ Some (batches (job_of frames words))
  batches_in_lem = rw is_placed_lem

  pub slots_in_lem : slots_in frames words room ≡ slots (job_of frames words)
  slots_in_lem = rw is_placed_lem

-- ---- what the code answers, and what it leaves in the slice

module _ (frames words old : List ℕ) where
  -- the number of batches, and the slice
  abbrev pub Answer : Option ℕ → List ℕ → Type 0
  Answer r new = (r ≡ batches_in frames words (length old)) × (new ≡ over old (slots_in frames words (length old)))

  declined : is_placed frames words (length old) ≡ false → Answer None old
  declined e = rw e (refl, refl)

  pub no_room : length old < length frames → Answer None old
  no_room h = declined (rw (lt-leb (length frames) (length old) h) (and_false (is_sendable frames words)))

  module _ {sendable : Bool} (e : sendable ≡ is_sendable frames words) where
    pub unsendable : sendable ≡ false → Answer None old
    unsendable f = let never : is_sendable frames words ≡ false = sym e ∙ f in declined (rw never)

    pub placed_in : sendable ≡ true → length frames ≤ length old → {b : ℕ} {new : List ℕ} → b ≡ batches (job_of frames words) → new ≡ slots (job_of frames words)
        → Answer (Some b) (new ++ drop (length frames) old)
    placed_in f h p q =
        let t : is_sendable frames words ≡ true = sym e ∙ f in (
          ap Some p ∙ sym (batches_in_lem frames words (length old) t h),
          rw (slots_in_lem frames words (length old) t h) (ap₂ (λ (x : List ℕ) (n : ℕ). x ++ drop n old) q (sym (slots_length (job_of frames words)))),
        )
