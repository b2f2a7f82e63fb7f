-- Laws of `leading`. A loop that counts the leading elements that pass has for its invariant that what is counted, and what
-- there is from there on, make the whole. Assumes nothing.
use Prim.Native.Nat.{ℕ, zero, suc, ◌+◌, ◌≤◌, ◌<◌, min}
use mathlib.Core.Path.{◌≡◌, refl}
use mathlib.Core.List.{List, [], ◌∷◌}
use mathlib.Core.Bool.{Bool, true, false, cond}
use mathlib.Core.Logic.{⊎_elim}
use native.Mathlib.Numerals.{add-one}
use native.Mathlib.Omega.{arith}
use lib.ListN.{length, get_or, take, drop, drop_of_length-le}
use lib.Seq.{drop-cons}
use Rattle.std.specs.List.{prefix_len}
use Rattle.base.specs.Leading.{leading}
use Rattle.base.proofs.Bools.{either}

-- what the library counts
pub leading_prefix : (p : ℕ → Bool) (s : List ℕ) → prefix_len p s ≡ leading p s
leading_prefix p [] = refl
leading_prefix p (b ∷ s) = ⊎_elim (λ e. rw e (omega (arith, leading_prefix p s))) (λ e. rw e) (either (p b))

module _ (p : ℕ → Bool) (s : List ℕ) (i : ℕ) where
  -- one more passes
  pub leading_more : i < length s → p (get_or s i 0) ≡ true → leading p (drop i s) ≡ suc (leading p (drop (i + 1) s))
  leading_more h e = rw (add-one, drop-cons s i 0, e)

  -- the first that does not
  pub leading_stop : i < length s → p (get_or s i 0) ≡ false → leading p (drop i s) ≡ 0
  leading_stop h e = rw (drop-cons s i 0, e)

  -- none is left
  pub leading_end : length s ≤ i → leading p (drop i s) ≡ 0
  leading_end h = rw drop_of_length-le

pub leading_le : (p : ℕ → Bool) (s : List ℕ) → leading p s ≤ length s
leading_le p [] = omega arith
leading_le p (b ∷ s) = ⊎_elim (λ e. rw e (let h = leading_le p s in omega arith)) (λ e. rw e (omega arith)) (either (p b))

-- those that pass, and the one behind them
pub leading_each : (p : ℕ → Bool) (s : List ℕ) (i : ℕ) → i < leading p s → p (get_or s i 0) ≡ true
leading_each p [] i h = absurd (omega arith)
leading_each p (b ∷ s) zero h = ⊎_elim (λ (e : p b ≡ true). e) (λ (e : p b ≡ false). let g = rw e at h in absurd (omega arith)) (either (p b))
leading_each p (b ∷ s) (suc i) h =
    ⊎_elim (λ (e : p b ≡ true). let g = rw e at h in leading_each p s i (omega arith)) (λ (e : p b ≡ false). let g = rw e at h in absurd (omega arith)) (either (p b))

pub leading_first : (p : ℕ → Bool) (s : List ℕ) → leading p s < length s → p (get_or s (leading p s) 0) ≡ false
leading_first p [] h = absurd (omega arith)
leading_first p (b ∷ s) h = ⊎_elim (λ (e : p b ≡ true). let g = rw e at h in rw e (leading_first p s (omega arith))) (λ (e : p b ≡ false). rw e e) (either (p b))

-- behind some that pass
pub leading_behind : (p : ℕ → Bool) (s : List ℕ) (k : ℕ) → k ≤ leading p s → leading p s ≡ k + leading p (drop k s)
leading_behind p s zero h = omega arith
leading_behind p [] (suc k) h = absurd (omega arith)
leading_behind p (b ∷ s) (suc k) h =
    ⊎_elim (λ (e : p b ≡ true). let g = rw e at h in rw e (omega (arith, leading_behind p s k (omega arith)))) (λ (e : p b ≡ false). let g = rw e at h in absurd (omega arith)) (either (p b))

-- in the first m elements
pub leading_take : (p : ℕ → Bool) (s : List ℕ) (m : ℕ) → leading p (take m s) ≡ min m (leading p s)
leading_take p s zero = omega arith
leading_take p [] (suc m) = omega arith
leading_take p (b ∷ s) (suc m) = ⊎_elim (λ e. rw e (omega (arith, leading_take p s m))) (λ e. rw e (omega arith)) (either (p b))

-- where all pass, the first does, and all others
pub leading_cons : (p : ℕ → Bool) (b : ℕ) (s : List ℕ) → length (b ∷ s) ≤ leading p (b ∷ s) → (p b ≡ true) × (length s ≤ leading p s)
leading_cons p b s h = go (p b) refl h
  where
    go : (t : Bool) → p b ≡ t → suc (length s) ≤ cond t (suc (leading p s)) 0 → (p b ≡ true) × (length s ≤ leading p s)
    go true e h = (e, omega arith)
    go false e h = absurd (omega arith)
