-- Packing: a text's characters behind one another, and its groups off the front. Assumes nothing.
use mathlib.Core.Path.{◌≡◌, refl, sym, ap, ◌∙◌}
use mathlib.Core.List.{List}
use Prim.Native.Nat.{ℕ, ◌+◌, ◌-◌, ◌*◌, ◌/◌, ◌%◌, ◌^◌, ◌≤◌, ◌<◌}
use native.Mathlib.Nat.{add-mul, mul_comm, mul-le-mul_right}
use native.Mathlib.Omega.{arith}
use lib.ListN.{get_or}
use lib.Pow.{pow-add, shl_exact, shr-shr, high, low}
use Rattle.text.specs.Coding.{width_of, fill_of, value_of, bit_of, bits_from, turned_of, group_of}
use Rattle.text.specs.Packing.{Waiting}
use Rattle.text.specs.declared.Coding.{Coding}
use Rattle.text.specs.declared.Coding.TheVariants.{Numeric, Alphanumeric}
use Rattle.text.proofs.BitLaws.{cut_bit, bits_add, bits_same, bits_small}
use Rattle.text.proofs.GroupLaws.{bit_small, char_bit}
use Rattle.text.proofs.WidthLaws.{width_small}

-- ---- two digits

-- what stands above the low n bits doesn't matter
pub turned_cut : (n x : ℕ) → turned_of n (x % 2 ^ n) ≡ turned_of n x
unfolding turned_of
turned_cut n x = bits_same (λ p. x % 2 ^ n / 2 ^ p % 2) (λ p. x / 2 ^ p % 2) 0 0 n 0 (λ p h. cut_bit x n (0 + p) (omega arith))

-- n bits of a number and m above them
turned_add : (n m x : ℕ) → turned_of (n + m) x ≡ turned_of n x * 2 ^ m + turned_of m (x / 2 ^ n)
unfolding turned_of
turned_add n m x =
    bits_add (λ p. x / 2 ^ p % 2) 0 n m
    ∙ ap (λ (y : ℕ). bits_from (λ p. x / 2 ^ p % 2) 0 n 0 * 2 ^ m + y)
    (bits_same (λ p. x / 2 ^ p % 2) (λ p. x / 2 ^ n / 2 ^ p % 2) (0 + n) 0 m 0
    (λ p h. let e : 0 + n + p ≡ n + (0 + p) = omega arith in rw e (ap (λ (y : ℕ). y % 2) (sym (shr-shr x n (0 + p))))))

pub turned_small : (n x : ℕ) → turned_of n x < 2 ^ n
unfolding turned_of
turned_small n x = bits_small (λ p. x / 2 ^ p % 2) (λ p. omega arith) 0 n

-- the seven bits of a byte by its two digits, each turned round
pub turned_pair : (h l : ℕ) → l ≤ 15 → turned_of 7 (h * 16 + l) ≡ turned_of 4 l * 8 + turned_of 4 h / 2
turned_pair h l s =
    let lower : (h * 16 + l) % 2 ^ 4 ≡ l = omega arith in
    let upper : (h * 16 + l) / 2 ^ 4 ≡ h = omega arith in
    let whole : turned_of 7 (h * 16 + l) ≡ turned_of 4 (h * 16 + l) * 2 ^ 3 + turned_of 3 ((h * 16 + l) / 2 ^ 4) = turned_add 4 3 (h * 16 + l) in
    let halved : turned_of 4 h ≡ turned_of 3 h * 2 ^ 1 + turned_of 1 (h / 2 ^ 3) = turned_add 3 1 h in
    omega (
      arith,
      sym (turned_cut 4 (h * 16 + l)) ∙ ap (turned_of 4) lower,
      ap (turned_of 3) upper,
      turned_small 1 (h / 2 ^ 3),
    )

-- ---- characters behind bits, and groups off their front

-- the bits of character k, the first on top
char_turned : (c : Coding) (bytes : List ℕ) (k at : ℕ) → k * width_of c ≡ at → bits_from (bit_of c bytes) at (width_of c) 0 ≡ turned_of (width_of c) (value_of c (get_or bytes k (fill_of c)))
unfolding turned_of
char_turned c bytes k at e =
    let w = width_of c in
    let v = value_of c (get_or bytes k (fill_of c)) in
    bits_same (bit_of c bytes) (λ p. v / 2 ^ p % 2) at 0 w 0
    (λ p h. let i : at + p ≡ w * k + (0 + p) = omega (arith, mul_comm k w) in rw i (char_bit c bytes k (0 + p) (omega arith)))

pub next_near : (c : Coding) (n k : ℕ) → k * width_of c ≡ n → k ≤ n / 4
next_near Numeric n k e = omega arith
next_near Alphanumeric n k e = omega arith

-- fewer than 20 bits have room for a character behind them
module _ (c : Coding) (window have : ℕ) (few : have < 20) (fits : window < 2 ^ have) where
  pub shifted : window * 2 ^ width_of c % 2 ^ 64 ≡ window * 2 ^ width_of c
  shifted = shl_exact have (width_of c) 64 fits (omega (arith, width_small c))

  pub appended : (x : ℕ) → window * 2 ^ width_of c + turned_of (width_of c) x < 2 ^ (have + width_of c)
  appended x = omega (arith, turned_small (width_of c) x, pow-add 2 have (width_of c), add-mul window 1 (2 ^ width_of c), mul-le-mul_right (2 ^ width_of c) fits)

-- 1 shifted left
pub one_shifted : (n : ℕ) → n ≤ 6 → 1 * 2 ^ n % 2 ^ 64 ≡ 2 ^ n
one_shifted n h = shl_exact {a = 1} 1 n 64 (omega arith) (omega arith) ∙ omega arith

module _ (c : Coding) (bytes : List ℕ) where
  pub waiting_none : Waiting c bytes 0 0 0 0
  unfolding bits_from
  waiting_none = record { bits = refl; seam = omega arith }

  pub waiting_small : (at window have next : ℕ) → Waiting c bytes at window have next → window < 2 ^ have
  waiting_small at window have next h = rw h.bits (bits_small (bit_of c bytes) (bit_small c bytes) at have)

  -- one more character
  pub waiting_more : (at window have next : ℕ) {v : ℕ} → Waiting c bytes at window have next → v ≡ turned_of (width_of c) (value_of c (get_or bytes next (fill_of c)))
      → Waiting c bytes at (window * 2 ^ width_of c + v) (have + width_of c) (next + 1)
  waiting_more at window have next h e = record {
    bits = rw (h.bits, e) (sym (bits_add (bit_of c bytes) at have (width_of c) ∙ ap (λ (x : ℕ). bits_from (bit_of c bytes) at have 0 * 2 ^ width_of c + x) (char_turned c bytes next (at + have) h.seam)));
    seam = omega (arith, add-mul next 1 (width_of c), h.seam);
  }

  module _ (g window have next : ℕ) (enough : 20 ≤ have) (h : Waiting c bytes (20 * g) window have next) where
    parts : window ≡ group_of c bytes g * 2 ^ (have - 20) + bits_from (bit_of c bytes) (20 * g + 20) (have - 20) 0
    unfolding group_of
    parts = let e : have ≡ 20 + (have - 20) = omega arith in h.bits ∙ ap (λ (n : ℕ). bits_from (bit_of c bytes) (20 * g) n 0) e ∙ bits_add (bit_of c bytes) (20 * g) 20 (have - 20)

    left : bits_from (bit_of c bytes) (20 * g + 20) (have - 20) 0 < 2 ^ (have - 20)
    left = bits_small (bit_of c bytes) (bit_small c bytes) (20 * g + 20) (have - 20)

    -- the group at the front
    pub waiting_group : window / 2 ^ (have - 20) ≡ group_of c bytes g
    waiting_group = ap (λ (x : ℕ). x / 2 ^ (have - 20)) parts ∙ high (group_of c bytes g) (have - 20) left

    -- what waits behind it
    pub waiting_rest : Waiting c bytes (20 * (g + 1)) (window % 2 ^ (have - 20)) (have - 20) next
    waiting_rest = record {
      bits = let e : 20 * (g + 1) ≡ 20 * g + 20 = omega arith in rw e (ap (λ (x : ℕ). x % 2 ^ (have - 20)) parts ∙ low (group_of c bytes g) (have - 20) left);
      seam = omega (arith, h.seam);
    }
