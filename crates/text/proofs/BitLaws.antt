-- Laws of numbers given by their bits, the first the least significant (`from_low`) or the most significant (`bits_from`). Assumes nothing.
use Prim.Native.Nat.{ℕ, zero, suc, ◌+◌, ◌-◌, ◌*◌, ◌/◌, ◌%◌, ◌^◌, ◌≤◌, ◌<◌}
use mathlib.Core.Path.{◌≡◌, refl, ap, sym, ◌∙◌}
use native.Mathlib.Nat.{add-mul, mul_assoc, mul_comm, mul-le-mul_right, pow-suc, pow-succ'}
use native.Mathlib.Omega.{arith}
use lib.Pow.{pow-add, high, mod-pow-add}
use Rattle.text.specs.Coding.{bits_from, turned_of}
use Rattle.text.specs.Heard.{from_low}

-- ---- the first bit the least significant

pub low_same : (f g : ℕ → ℕ) (n : ℕ) → ((b : ℕ) → b < n → f b ≡ g b) → from_low f n ≡ from_low g n
unfolding from_low
low_same f g zero h = refl
low_same f g (suc n) h = rw (h n (omega arith), low_same f g n (λ b l. h b (omega arith)))

-- the low n bits of a number
pub low_bits : (v n : ℕ) → from_low (λ b. v / 2 ^ b % 2) n ≡ v % 2 ^ n
unfolding from_low
low_bits v zero = omega arith
low_bits v (suc n) =
    let e : suc n ≡ 1 + n = omega arith in
    ap (λ (x : ℕ). v / 2 ^ n % 2 * 2 ^ n + x) (low_bits v n) ∙ sym (ap (λ (m : ℕ). v % 2 ^ m) e ∙ mod-pow-add v 1 n)

-- n bits, and m behind them
low_add : (bit : ℕ → ℕ) (n m : ℕ) → from_low bit (n + m) ≡ from_low (λ b. bit (n + b)) m * 2 ^ n + from_low bit n
unfolding from_low
low_add bit n zero = let e : n + 0 ≡ n = omega arith in rw e (omega arith)
low_add bit n (suc m) =
    let e : n + suc m ≡ suc (n + m) = omega arith in
    let x = from_low (λ b. bit (n + b)) m in
    let d : (bit (n + m) * 2 ^ m + x) * 2 ^ n ≡ bit (n + m) * 2 ^ (n + m) + x * 2 ^ n
    = add-mul (bit (n + m) * 2 ^ m) x (2 ^ n) ∙ ap (λ (y : ℕ). y + x * 2 ^ n) (mul_assoc (bit (n + m)) (2 ^ m) (2 ^ n) ∙ ap (λ (y : ℕ). bit (n + m) * y) (mul_comm (2 ^ m) (2 ^ n) ∙ sym (pow-add 2 n m))) in
    let h = low_add bit n m in
    rw e (omega arith)

low_first : (bit : ℕ → ℕ) → ((p : ℕ) → bit p ≤ 1) → (m : ℕ) → from_low bit (suc m) % 2 ≡ bit 0
unfolding from_low
low_first bit small zero = omega (arith, small 0)
low_first bit small (suc m) =
    let d : bit (suc m) * 2 ^ suc m ≡ bit (suc m) * 2 ^ m * 2 = rw (pow-suc 2 m) (sym (mul_assoc (bit (suc m)) (2 ^ m) 2)) in
    let h = low_first bit small m in
    omega arith

module _ (bit : ℕ → ℕ) (small : (p : ℕ) → bit p ≤ 1) where
  pub low_lt : (n : ℕ) → from_low bit n < 2 ^ n
  unfolding from_low
  low_lt zero = omega arith
  low_lt (suc n) = omega (arith, low_lt n, mul-le-mul_right (2 ^ n) (small n), pow-suc 2 n)

  -- bit p of the number
  pub low_bit : (n p : ℕ) → p < n → from_low bit n / 2 ^ p % 2 ≡ bit p
  low_bit n p h =
      let m = n - (p + 1) in
      let e : n ≡ p + suc m = omega arith in
      let z : p + 0 ≡ p = omega arith in
      ap (λ (x : ℕ). x / 2 ^ p % 2) (ap (from_low bit) e ∙ low_add bit p (suc m))
      ∙ ap (λ (x : ℕ). x % 2) (high (from_low (λ b. bit (p + b)) (suc m)) p (low_lt p))
      ∙ low_first (λ b. bit (p + b)) (λ b. small (p + b)) m
      ∙ ap bit z

-- what stands above the low n bits doesn't matter to one of them
pub cut_bit : (v n p : ℕ) → p < n → v % 2 ^ n / 2 ^ p % 2 ≡ v / 2 ^ p % 2
cut_bit v n p h = ap (λ (x : ℕ). x / 2 ^ p % 2) (sym (low_bits v n)) ∙ low_bit (λ b. v / 2 ^ b % 2) (λ b. omega arith) n p h

-- ---- the first bit the most significant

-- the same number by the bits from the last
pub bits_low : (bit : ℕ → ℕ) (at n acc : ℕ) → bits_from bit at n acc ≡ acc * 2 ^ n + from_low (λ b. bit (at + (n - (b + 1)))) n
unfolding bits_from from_low
bits_low bit at zero acc = omega arith
bits_low bit at (suc n) acc =
    let e : at + (suc n - (n + 1)) ≡ at = omega arith in
    let r = low_same (λ b. bit (at + 1 + (n - (b + 1)))) (λ b. bit (at + (suc n - (b + 1)))) n (λ b h. let i : at + 1 + (n - (b + 1)) ≡ at + (suc n - (b + 1)) = omega arith in ap bit i) in
    let d = add-mul (acc * 2) (bit at) (2 ^ n) in
    let f : acc * 2 * 2 ^ n ≡ acc * 2 ^ suc n = rw (pow-succ' 2 n) (mul_assoc acc 2 (2 ^ n)) in
    rw e (bits_low bit (at + 1) n (acc * 2 + bit at) ∙ omega arith)

pub bits_back : (bit : ℕ → ℕ) (at n : ℕ) → bits_from bit at n 0 ≡ from_low (λ b. bit (at + (n - (b + 1)))) n
bits_back bit at n = bits_low bit at n 0 ∙ omega arith

-- those of a number, the first the most significant, are its n low bits
pub bits_of : (bit : ℕ → ℕ) (at n v : ℕ) → ((b : ℕ) → b < n → bit (at + (n - (b + 1))) ≡ v / 2 ^ b % 2) → bits_from bit at n 0 ≡ v % 2 ^ n
bits_of bit at n v same = bits_back bit at n ∙ low_same (λ b. bit (at + (n - (b + 1)))) (λ b. v / 2 ^ b % 2) n same ∙ low_bits v n

-- what stands before them
pub bits_behind : (bit : ℕ → ℕ) (at n acc : ℕ) → bits_from bit at n acc ≡ acc * 2 ^ n + bits_from bit at n 0
bits_behind bit at n acc = omega (arith, bits_low bit at n acc, bits_low bit at n 0)

-- n bits, and m behind them
pub bits_split : (bit : ℕ → ℕ) (at n m acc : ℕ) → bits_from bit at (n + m) acc ≡ bits_from bit (at + n) m (bits_from bit at n acc)
unfolding bits_from
bits_split bit at zero m acc = let e : 0 + m ≡ m = omega arith in let z : at + 0 ≡ at = omega arith in rw (e, z)
bits_split bit at (suc n) m acc =
    let e : suc n + m ≡ suc (n + m) = omega arith in
    let i : at + 1 + n ≡ at + suc n = omega arith in
    rw e (bits_split bit (at + 1) n m (acc * 2 + bit at) ∙ ap (λ (x : ℕ). bits_from bit x m (bits_from bit (at + 1) n (acc * 2 + bit at))) i)

pub bits_add : (bit : ℕ → ℕ) (at n m : ℕ) → bits_from bit at (n + m) 0 ≡ bits_from bit at n 0 * 2 ^ m + bits_from bit (at + n) m 0
bits_add bit at n m = bits_split bit at n m 0 ∙ bits_behind bit (at + n) m (bits_from bit at n 0)

pub bits_same : (f g : ℕ → ℕ) (i j n acc : ℕ) → ((p : ℕ) → p < n → f (i + p) ≡ g (j + p)) → bits_from f i n acc ≡ bits_from g j n acc
unfolding bits_from
bits_same f g i j zero acc h = refl
bits_same f g i j (suc n) acc h =
    let a : i + 0 ≡ i = omega arith in
    let b : j + 0 ≡ j = omega arith in
    let e : f i ≡ g j = rw (a, b) at (h 0 (omega arith)) in
    rw e (bits_same f g (i + 1) (j + 1) n (acc * 2 + g j)
    (λ p l. let a : i + 1 + p ≡ i + (p + 1) = omega arith in let b : j + 1 + p ≡ j + (p + 1) = omega arith in rw (a, b) (h (p + 1) (omega arith))))

pub bits_small : (bit : ℕ → ℕ) → ((p : ℕ) → bit p ≤ 1) → (at n : ℕ) → bits_from bit at n 0 < 2 ^ n
bits_small bit small at n = omega (arith, bits_back bit at n, low_lt (λ b. bit (at + (n - (b + 1)))) (λ b. small (at + (n - (b + 1)))) n)

-- bits turned round
pub turned_low : (n x : ℕ) → turned_of n x ≡ from_low (λ b. x / 2 ^ (n - (b + 1)) % 2) n
unfolding turned_of
turned_low n x = bits_low (λ p. x / 2 ^ p % 2) 0 n 0 ∙ omega (arith, low_same (λ b. x / 2 ^ (0 + (n - (b + 1))) % 2) (λ b. x / 2 ^ (n - (b + 1)) % 2) n (λ b h. let e : 0 + (n - (b + 1)) ≡ n - (b + 1) = omega arith in rw e))
