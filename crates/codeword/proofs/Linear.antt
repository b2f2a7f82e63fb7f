-- The code is linear: the remainder, the parity and so the syndrome of the sum of two words is the sum of theirs.
-- Assumes nothing.
use mathlib.Core.Path.{◌≡◌, refl, sym, ap, ap₂, ◌∙◌}
use mathlib.Core.Logic.{◌⊎◌, ⊎_elim}
use Prim.Native.Nat.{ℕ, zero, suc, ◌+◌, ◌*◌, ◌/◌, ◌%◌, ◌^◌, ◌<◌}
use native.Mathlib.Nat.{mod-lt, mod-mod, div-add-mod', pow-suc}
use native.Mathlib.Omega.{arith}
use lib.Bits.{bit_xor, xor_zero_r, xor_shr, xor_mod, xor_block}
use lib.Count.{ones_in}
use lib.Dec.{lit<}
use Rattle.codeword.specs.Code.{divisor, reduce, remainder, weight}
use Rattle.codeword.proofs.Syndrome.{syndrome}
use Rattle.codeword.proofs.XorLaws.{two, odd_sum, xor_odd, xor_swap}

-- ---- the remainder

module _ (q : ℕ) (h : q < 2048) where
  lead : (q / 1024 ≡ 0) ⊎ (q / 1024 ≡ 1)
  lead = two (q / 1024) (omega arith)

  reduce_top : bit_xor (q / 1024) (q / 1024 * divisor / 1024) ≡ 0
  reduce_top =
      ⊎_elim (λ e. ap (λ (t : ℕ). bit_xor t (t * divisor / 1024)) e) (λ e. ap (λ (t : ℕ). bit_xor t (t * divisor / 1024)) e) lead

  reduce_lt : reduce q < 1024
  unfolding reduce
  reduce_lt = omega (arith, xor_shr q (q / 1024 * divisor) 10 ∙ reduce_top)

pub remainder_lt : (k p : ℕ) → remainder k p < 1024
unfolding remainder
remainder_lt zero p = lit< tt
remainder_lt (suc k) p = reduce_lt (remainder k (p / 2) * 2 + p % 2) (omega (arith, remainder_lt k (p / 2)))

-- the divisor times a sum of two coefficients
times_xor : (a b : ℕ) → a < 2048 → b < 2048 → bit_xor (a / 1024) (b / 1024) * divisor ≡ bit_xor (a / 1024 * divisor) (b / 1024 * divisor)
times_xor a b ha hb =
    ⊎_elim
    (λ e. ⊎_elim (λ f. each e f refl) (λ f. each e f refl) (lead b hb))
    (λ e. ⊎_elim (λ f. each e f refl) (λ f. each e f refl) (lead b hb))
    (lead a ha)
  where
    each : {s t : ℕ} → a / 1024 ≡ s → b / 1024 ≡ t → bit_xor s t * divisor ≡ bit_xor (s * divisor) (t * divisor)
        → bit_xor (a / 1024) (b / 1024) * divisor ≡ bit_xor (a / 1024 * divisor) (b / 1024 * divisor)
    each e f g =
        ap₂ (λ (s t : ℕ). bit_xor s t * divisor) e f ∙ g ∙ sym (ap₂ (λ (s t : ℕ). bit_xor (s * divisor) (t * divisor)) e f)

reduce_xor : (a b : ℕ) → a < 2048 → b < 2048 → reduce (bit_xor a b) ≡ bit_xor (reduce a) (reduce b)
unfolding reduce
reduce_xor a b ha hb =
    ap (λ (t : ℕ). bit_xor (bit_xor a b) (t * divisor)) (xor_shr a b 10)
    ∙ ap (bit_xor (bit_xor a b)) (times_xor a b ha hb)
    ∙ xor_swap a b (a / 1024 * divisor) (b / 1024 * divisor)

-- the remainder of a sum is the sum of the remainders
pub remainder_xor : (k p q : ℕ) → remainder k (bit_xor p q) ≡ bit_xor (remainder k p) (remainder k q)
unfolding remainder
remainder_xor zero p q = refl
remainder_xor (suc k) p q =
    ap reduce
    (ap₂ (λ (x y : ℕ). x * 2 + y) (ap (remainder k) (xor_shr p q 1) ∙ remainder_xor k (p / 2) (q / 2)) (xor_mod p q 1)
    ∙ sym (xor_block 1 (remainder k (p / 2)) (remainder k (q / 2)) (p % 2) (q % 2) (mod-lt p (lit< tt)) (mod-lt q (lit< tt))))
    ∙ reduce_xor (remainder k (p / 2) * 2 + p % 2) (remainder k (q / 2) * 2 + q % 2)
    (omega (arith, remainder_lt k (p / 2))) (omega (arith, remainder_lt k (q / 2)))

-- a polynomial of degree at most 9 is its own remainder
pub remainder_small : (k p : ℕ) → p < 2 ^ k → p < 1024 → remainder k p ≡ p
unfolding remainder reduce
remainder_small zero p h g = omega arith
remainder_small (suc k) p h g =
    let none : p / 1024 ≡ 0 = omega arith in
    ap reduce
    (ap (λ (x : ℕ). x * 2 + p % 2) (remainder_small k (p / 2) (omega (arith, pow-suc 2 k)) (omega arith)) ∙ div-add-mod' p 2)
    ∙ ap (λ (t : ℕ). bit_xor p (t * divisor)) none
    ∙ xor_zero_r p

-- ---- the parity

ones_xor : (k a b : ℕ) → ones_in k (bit_xor a b) % 2 ≡ (ones_in k a + ones_in k b) % 2
unfolding ones_in
ones_xor zero a b = refl
ones_xor (suc k) a b =
    ap (λ (x : ℕ). (bit_xor a b % 2 + ones_in k x) % 2) (xor_shr a b 1)
    ∙ odd_sum (bit_xor a b % 2) (a + b) (ones_in k (bit_xor (a / 2) (b / 2))) (ones_in k (a / 2) + ones_in k (b / 2))
    (mod-mod (bit_xor a b) 2 ∙ xor_odd a b) (ones_xor k (a / 2) (b / 2))
    ∙ omega arith

-- the parity of a sum is the sum of the parities
pub parity_xor : (a b : ℕ) → weight (bit_xor a b) % 2 ≡ bit_xor (weight a % 2) (weight b % 2)
unfolding weight
parity_xor a b = ones_xor 32 a b ∙ sym (xor_odd (ones_in 32 a) (ones_in 32 b)) ∙ xor_mod (ones_in 32 a) (ones_in 32 b) 1

-- ---- the syndrome

pub syndrome_xor : (a b : ℕ) → syndrome (bit_xor a b) ≡ bit_xor (syndrome a) (syndrome b)
unfolding syndrome
syndrome_xor a b =
    ap₂ (λ (x y : ℕ). x * 2 + y) (ap (remainder 31) (xor_shr a b 1) ∙ remainder_xor 31 (a / 2) (b / 2)) (parity_xor a b)
    ∙ sym
    (xor_block 1 (remainder 31 (a / 2)) (remainder 31 (b / 2)) (weight a % 2) (weight b % 2) (mod-lt (weight a) (lit< tt)) (mod-lt (weight b) (lit< tt)))
