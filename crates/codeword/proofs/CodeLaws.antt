-- Laws of codewords: each obeys the code, and a word obeys it exactly where its syndrome is 0.
-- Assumes nothing.
use mathlib.Core.Path.{◌≡◌, refl, sym, ap, ◌∙◌, subst}
use mathlib.Core.Bool.{Bool, true, false}
use Prim.Native.Nat.{ℕ, zero, suc, ◌+◌, ◌*◌, ◌/◌, ◌%◌, ◌^◌, ◌≤◌, ◌<◌}
use native.Mathlib.Nat.{pow-suc}
use native.Mathlib.Omega.{arith}
use lib.Bits.{bit_xor, xor_self, xor_shifted}
use lib.Count.{ones_in, ones, ones_step}
use lib.Dec.{T, eqb, eqb→eq, eqb_refl, lit<}
use borrow.Author.Tests.{eq-eqb, ne_eqb}
use Rattle.codeword.specs.Code.{reduce, remainder, weight, with_parity, codeword, obeys, sync, idle}
use Rattle.codeword.specs.CorrectionTheorem.{Obeying}
use Rattle.codeword.proofs.Linear.{remainder_lt, remainder_xor, remainder_small}
use Rattle.codeword.proofs.Syndrome.{syndrome}
use Rattle.codeword.proofs.XorLaws.{xor_zero_eq}

-- a digit above the number's own is not set
ones_more : (k n : ℕ) → n < 2 ^ k → ones_in (suc k) n ≡ ones_in k n
unfolding ones_in
ones_more zero n h = omega arith
ones_more (suc k) n h = ap (λ (x : ℕ). n % 2 + x) (ones_more k (n / 2) (omega (arith, pow-suc 2 k)))

ones_in_lem : (k n : ℕ) → n < 2 ^ k → ones n ≡ ones_in k n
unfolding ones ones_in
ones_in_lem zero n h = let none : n ≡ 0 = omega arith in ap ones none
ones_in_lem (suc k) n h = ones_step n ∙ ap (λ (x : ℕ). n % 2 + x) (ones_in_lem k (n / 2) (omega (arith, pow-suc 2 k)))

-- `count_ones` counts a word's ones
pub weight_ones : (w : ℕ) → w < 2 ^ 32 → ones w ≡ weight w
unfolding weight
weight_ones w h = ones_in_lem 32 w h

-- a word has at most 32 ones
ones_few : (k n : ℕ) → ones_in k n ≤ k
unfolding ones_in
ones_few zero n = omega arith
ones_few (suc k) n = omega (arith, ones_few k (n / 2))

pub weight_few : (w : ℕ) → weight w ≤ 32
unfolding weight
weight_few = ones_few 32

-- a number without ones is 0
ones_none : (k n : ℕ) → n < 2 ^ k → ones_in k n ≡ 0 → n ≡ 0
unfolding ones_in
ones_none zero n h e = omega arith
ones_none (suc k) n h e = omega (arith, ones_none k (n / 2) (omega (arith, pow-suc 2 k)) (omega arith))

pub weight_none : (w : ℕ) → w < 2 ^ 32 → weight w ≡ 0 → w ≡ 0
unfolding weight
weight_none w = ones_none 32 w

-- a number of one bit is its own number of ones
pub weight_bit : (o : ℕ) → o < 2 → weight o ≡ o
unfolding weight ones_in
weight_bit zero h = refl
weight_bit (suc zero) h = refl
weight_bit (suc (suc o)) h = absurd (omega arith)

-- bit 32, and the ones before it
pub weight_last : (w : ℕ) → w < 2 ^ 32 → weight w ≡ w % 2 + weight (w / 2)
unfolding weight ones_in
weight_last w h = ap (λ (x : ℕ). w % 2 + x) (sym (ones_more 31 (w / 2) (omega arith)))

-- the remainder of 21 information bits and ten more
parts : (m r : ℕ) → r < 1024 → remainder 31 (m * 1024 + r) ≡ bit_xor (remainder 31 (m * 1024)) r
parts m r h =
    ap (remainder 31) (sym (xor_shifted m 10 r h))
    ∙ remainder_xor 31 (m * 1024) r
    ∙ ap (bit_xor (remainder 31 (m * 1024))) (remainder_small 31 r (omega arith) h)

module _ (m : ℕ) (h : m < 2 ^ 21) where
  first31 : ℕ
  first31 = m * 1024 + remainder 31 (m * 1024)

  first31_lt : first31 < 2 ^ 31
  unfolding first31
  first31_lt = omega (arith, remainder_lt 31 (m * 1024))

  pub codeword_lt : codeword m < 2 ^ 32
  unfolding codeword with_parity first31
  codeword_lt = omega (arith, first31_lt)

  halved : codeword m / 2 ≡ first31
  unfolding codeword with_parity first31
  halved = omega arith

  last : codeword m % 2 ≡ weight first31 % 2
  unfolding codeword with_parity first31
  last = omega arith

  -- a codeword has its information bits in front
  pub codeword_front : codeword m / 2048 ≡ m
  unfolding codeword with_parity
  codeword_front = omega (arith, remainder_lt 31 (m * 1024))

  -- a codeword obeys the code
  pub codeword_obeys : T (obeys (codeword m))
  unfolding obeys
  codeword_obeys = subst (λ (x : ℕ). T (eqb (codeword m) (codeword x))) (sym codeword_front) (eqb_refl (codeword m))

  codeword_remainder : remainder 31 (codeword m / 2) ≡ 0
  unfolding first31
  codeword_remainder =
      ap (remainder 31) halved
      ∙ parts m (remainder 31 (m * 1024)) (remainder_lt 31 (m * 1024))
      ∙ xor_self (remainder 31 (m * 1024))

  codeword_even : weight (codeword m) % 2 ≡ 0
  codeword_even = omega (arith, weight_last (codeword m) codeword_lt, ap weight halved, last)

  codeword_syndrome : syndrome (codeword m) ≡ 0
  unfolding syndrome
  codeword_syndrome = omega (arith, codeword_remainder, codeword_even)

module _ (w : ℕ) (h : w < 2 ^ 32) where
  -- what obeys the code has the syndrome 0
  pub obeys_syndrome : T (obeys w) → syndrome w ≡ 0
  unfolding obeys
  obeys_syndrome t = ap syndrome (eqb→eq w (codeword (w / 2048)) t) ∙ codeword_syndrome (w / 2048) (omega arith)

  -- what has the syndrome 0 obeys the code
  pub syndrome_obeys : syndrome w ≡ 0 → T (obeys w)
  unfolding obeys syndrome codeword with_parity
  syndrome_obeys e =
      let none : remainder 31 (w / 2) ≡ 0 = omega arith in
      let even : weight w % 2 ≡ 0 = omega arith in
      let split : w / 2048 * 1024 + w / 2 % 1024 ≡ w / 2 = omega arith in
      let check : remainder 31 (w / 2048 * 1024) ≡ w / 2 % 1024 =
      xor_zero_eq (remainder 31 (w / 2048 * 1024)) (w / 2 % 1024)
      (sym (parts (w / 2048) (w / 2 % 1024) (omega arith)) ∙ ap (remainder 31) split ∙ none) in
      let front : w / 2048 * 1024 + remainder 31 (w / 2048 * 1024) ≡ w / 2 = ap (λ (x : ℕ). w / 2048 * 1024 + x) check ∙ split in
      let same : codeword (w / 2048) ≡ w =
      ap (λ (x : ℕ). x * 2 + weight x % 2) front ∙ omega (arith, weight_last w h) in
      subst (λ (x : ℕ). T (eqb w x)) (sym same) (eqb_refl w)

  obeys_is : obeys w ≡ eqb (syndrome w) 0
  obeys_is = by (obeys w) refl
    where
      by : (b : Bool) → obeys w ≡ b → b ≡ eqb (syndrome w) 0
      by true e = sym (eq-eqb (syndrome w) 0 (obeys_syndrome (subst T (sym e) tt)))
      by false e = sym (ne_eqb (syndrome w) 0 (λ z. subst T e (syndrome_obeys z)))

-- in terms of what is left of the first 31 bits after the division, and of the parity
module _ (w r : ℕ) (h : w < 2 ^ 32) (q : r ≡ remainder 31 (w / 2)) where
  pub obeys_not : (r ≡ 0 → ⊥) → eqb r 0 ≡ obeys w
  unfolding syndrome
  obeys_not n = ne_eqb r 0 n ∙ sym (obeys_is w h ∙ ne_eqb (syndrome w) 0 (λ z. n (omega arith)))

  pub obeys_even : (p : ℕ) → r ≡ 0 → p ≡ weight w % 2 → eqb p 0 ≡ obeys w
  unfolding syndrome
  obeys_even p z e = let same : p ≡ syndrome w = omega arith in ap (λ (x : ℕ). eqb x 0) same ∙ sym (obeys_is w h)

-- the codeword of any 21 bits, sync and idle obey the code
pub codeword_obeying : (m : ℕ) → m < 2 ^ 21 → Obeying (codeword m)
codeword_obeying m h = record { fits = codeword_lt m h; obeying = codeword_obeys m h }

pub sync_obeying : Obeying sync
unfolding obeys codeword with_parity remainder reduce weight ones_in
sync_obeying = record { fits = lit< tt; obeying = tt }

pub idle_obeying : Obeying idle
unfolding obeys codeword with_parity remainder reduce weight ones_in
idle_obeying = record { fits = lit< tt; obeying = tt }
