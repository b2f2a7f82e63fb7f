-- Laws of sums of ones: how many numbers below n pass a test. Assumes nothing.
use mathlib.Core.Path.{◌≡◌, refl, sym, ap, ◌∙◌}
use mathlib.Core.Bool.{Bool, true, false, cond, ◌&&◌, and_comm}
use Prim.Native.Nat.{ℕ, ◌≤◌, ◌<◌}
use native.Mathlib.Omega.{arith}
use lib.Dec.{eqb}
use borrow.Author.Tests.{eq-eqb, ne_eqb, eqb-true}
use Rattle.base.specs.Search.{sum}
use Rattle.base.proofs.Bools.{both_ways}
use Rattle.base.proofs.SearchLaws.{sum_cong, sum_at, sum_zeros}

abbrev pub one : Bool → ℕ
one b = cond b 1 0

pub one_le : (b : Bool) → one b ≤ 1
one_le true = omega arith
one_le false = omega arith

-- a test that passes where another does
pub one_most : (a b : Bool) → (a ≡ true → b ≡ true) → one a ≤ one b
one_most true b h = rw (h refl) (omega arith)
one_most false b h = omega arith

pub eqb_swap : (a b : ℕ) → eqb a b ≡ eqb b a
eqb_swap a b = both_ways (eqb a b) (eqb b a) (λ e. eq-eqb b a (sym (eqb-true a b e))) (λ e. eq-eqb a b (sym (eqb-true b a e)))

-- ---- how many numbers below n are a

module _ (a n : ℕ) where
  pub one_of : a < n → sum (λ k. one (eqb a k)) n ≡ 1
  one_of h =
      let at = sum_at (λ k. 0) (λ k. one (eqb a k)) n a h (λ k l other. ap one (ne_eqb a k (λ e. other (sym e)))) in
      let here : one (eqb a a) ≡ 1 = ap one (eq-eqb a a refl) in
      omega (arith, at, here, sum_zeros n)

  pub none_of : n ≤ a → sum (λ k. one (eqb a k)) n ≡ 0
  none_of h = sum_cong (λ k. one (eqb a k)) (λ k. 0) n (λ k l. ap one (ne_eqb a k (λ e. omega arith))) ∙ sum_zeros n

-- where a test passes besides
pub and_one_of : (b : Bool) (a n : ℕ) → a < n → sum (λ k. one (b && eqb a k)) n ≡ one b
and_one_of true a n h = one_of a n h
and_one_of false a n h = sum_zeros n

pub one_of_and : (a n : ℕ) (b : Bool) → a < n → sum (λ k. one (eqb a k && b)) n ≡ one b
one_of_and a n b h = sum_cong (λ k. one (eqb a k && b)) (λ k. one (b && eqb a k)) n (λ k l. ap one (and_comm (eqb a k) b)) ∙ and_one_of b a n h
