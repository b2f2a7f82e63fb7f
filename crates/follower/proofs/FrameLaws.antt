-- No page of an identity opens in the slots of other frames. Assumes nothing.
use mathlib.Core.Path.{◌≡◌, sym, ◌∙◌}
use mathlib.Core.Logic.{⊎_elim}
use Prim.Native.Nat.{ℕ, zero, suc, ◌+◌, ◌-◌, ◌%◌, ◌≤◌, ◌<◌}
use native.Mathlib.Omega.{arith}
use Rattle.base.proofs.SearchLaws.{le_or_lt}
use Rattle.placement.specs.Placement.{frame_of}
use Rattle.follower.specs.Following.{own_from}
use Rattle.follower.specs.Progress.{InFrame}
use Rattle.follower.proofs.SlotLaws.{other_frame, none_on, own_end}

-- with d of them before slot r
past : (i : ℕ) (word : ℕ → ℕ) (n r d s : ℕ) → s + d ≡ r → ((k : ℕ) → s ≤ k → k < r → frame_of k ≡ i % 8 → ⊥)
    → own_from i word s (n - s) ≡ own_from i word r (n - r)
past i word n r zero s e others = let z : s ≡ r = omega arith in rw z
past i word n r (suc d) s e others =
    ⊎_elim
    (λ (h : n ≤ s). own_end word s n h i ∙ sym (own_end word r n (omega arith) i))
    (λ (h : s < n).
    none_on word s n h i (other_frame i word s (others s (omega arith) (omega arith)))
    ∙ past i word n r d (s + 1) (omega arith) (λ k a b. others k (omega arith) b))
    (le_or_lt n s)

pub skipped : (i : ℕ) (word : ℕ → ℕ) (n s r : ℕ) → InFrame (i % 8) s r → own_from i word s (n - s) ≡ own_from i word r (n - r)
skipped i word n s r in_frame = past i word n r (r - s) s (omega (arith, in_frame.on)) in_frame.others
