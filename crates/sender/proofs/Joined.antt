-- Numbers whose bits are joined, as a loop joins them, and what they tell of the pages. Assumes nothing.
use Prim.Native.Nat.{ℕ, ◌+◌, ◌^◌, ◌≤◌, ◌<◌}
use mathlib.Core.Path.{◌≡◌, refl}
use mathlib.Core.Bool.{Bool, true, false, ◌||◌}
use mathlib.Core.Logic.{⊎_elim}
use native.Mathlib.Omega.{arith}
use lib.Bits.{bit_or, or_lt, or_add_and, and_le_l, and_le_r}
use lib.Dec.{ltb}
use lib.Pow.{pow_pos}
use borrow.Author.Count.{below_more}
use borrow.Author.Tests.{le-ltb, ltb-true, ltb-false}
use Rattle.base.specs.Search.{least}
use Rattle.base.proofs.Bools.{or_true}
use Rattle.base.proofs.SearchLaws.{least_is}
use Rattle.sender.specs.Pages.{Joined}
use Rattle.sender.proofs.Search.{or_false, or_right, found_none}

-- neither number is over both joined
or_left : (a b : ℕ) → a ≤ bit_or a b
or_left a b = let e = or_add_and a b in let l = and_le_r a b in omega arith

or_both : (a b : ℕ) → b ≤ bit_or a b
or_both a b = let e = or_add_and a b in let l = and_le_l a b in omega arith

module _ (f : ℕ → ℕ) where
  pub joined_none : Joined f 0 0
  joined_none = record { each_below = λ k l i m. absurd (omega arith); all_below = λ k g. pow_pos k }

  pub joined_more : (n r v : ℕ) → Joined f n r → v ≡ f n → Joined f (n + 1) (bit_or r v)
  joined_more n r v h e =
      record {
        each_below = λ k l. below_more (λ i. f i < 2 ^ k) n (h.each_below k (omega (arith, or_left r v))) (omega (arith, or_both r v));
        all_below = λ k g. or_lt k r v (h.all_below k (λ i l. g i (omega arith))) (omega (arith, g n (omega arith)));
      }

-- only the first n numbers count
pub joined_same : (f g : ℕ → ℕ) (n r : ℕ) → ((i : ℕ) → i < n → g i ≡ f i) → Joined f n r → Joined g n r
joined_same f g n r e h =
    record {
      each_below = λ k l i m. omega (arith, e i m, h.each_below k l i m);
      all_below = λ k b. h.all_below k (λ i m. omega (arith, e i m, b i m));
    }

-- one of n pages is wrong exactly when the joined numbers tell it
module _ (f g : ℕ → ℕ) (n r s : ℕ) (p : Joined f n r) (q : Joined (λ i. g i + 63) n s) where
  abbrev wrong : ℕ → Bool
  wrong i = ltb 7 (f i) || ltb 4032 (g i)

  frames_fit : r ≤ 7 → (i : ℕ) → i < n → f i ≤ 7
  frames_fit l i m = omega (arith, p.each_below 3 (omega arith) i m)

  ends_fit : s ≤ 4095 → (i : ℕ) → i < n → g i ≤ 4032
  ends_fit l i m = omega (arith, q.each_below 12 (omega arith) i m)

  tells : (c : Bool) → ltb (least wrong n) n ≡ c → ltb 7 r || ltb 4095 s ≡ c
  tells true e = go (ltb 7 r) refl (ltb 4095 s) refl
    where
      go : (a : Bool) → ltb 7 r ≡ a → (b : Bool) → ltb 4095 s ≡ b → ltb 7 r || ltb 4095 s ≡ true
      go true u b v = rw u refl
      go false u true v = or_right (ltb 7 r) v
      go false u false v =
          let l = ltb-true (least wrong n) n e in
          absurd (⊎_elim
          (λ (t : ltb 7 (f (least wrong n)) ≡ true). omega (arith, ltb-true 7 (f (least wrong n)) t, frames_fit (ltb-false 7 r u) (least wrong n) l))
          (λ (t : ltb 4032 (g (least wrong n)) ≡ true). omega (arith, ltb-true 4032 (g (least wrong n)) t, ends_fit (ltb-false 4095 s v) (least wrong n) l))
          (or_true _ _ ((least_is wrong n).here l)))
  tells false e =
      let t : (k : ℕ) → k < n → (ltb 7 (f k) ≡ false) × (ltb 4032 (g k) ≡ false) = λ k l. or_false _ _ (found_none wrong n e k l) in
      let x : r < 2 ^ 3 = p.all_below 3 (λ k l. omega (arith, ltb-false 7 (f k) (t k l).0)) in
      let y : s < 2 ^ 12 = q.all_below 12 (λ k l. omega (arith, ltb-false 4032 (g k) (t k l).1)) in
      rw (le-ltb 7 r (omega arith), le-ltb 4095 s (omega arith)) refl

  pub joined_tells : ltb 7 r || ltb 4095 s ≡ ltb (least wrong n) n
  joined_tells = tells (ltb (least wrong n) n) refl
