-- The bits of a recording. Assumes nothing.
use mathlib.Core.Path.{◌≡◌, refl, sym, ap, ap₂, ◌∙◌}
use mathlib.Core.List.{List}
use Prim.Native.Nat.{ℕ, ◌+◌, ◌-◌, ◌*◌, ◌/◌, ◌%◌, ◌^◌, ◌<◌, ◌≤◌}
use native.Mathlib.Nat.{add-mul, mul_assoc}
use native.Mathlib.Omega.{arith}
use lib.ListN.{get_or}
use lib.Pow.{pow-add, high, low, shl_lt}
use Rattle.text.specs.Coding.{bits_from}
use Rattle.text.proofs.BitLaws.{bits_of, bits_add, bits_small}
use Rattle.receiver.specs.Bits.{bit_at, word_from}

-- the number that n bits from position p on write
abbrev bits_at : List ℕ → ℕ → ℕ → ℕ
bits_at s p n = bits_from (bit_at s) p n 0

-- a bit is 0 or 1
pub bit_small : (s : List ℕ) (p : ℕ) → bit_at s p ≤ 1
unfolding bit_at
bit_small s p = omega arith

module _ (s : List ℕ) where
  -- n bits fit, and may be taken in two parts
  under : (p n : ℕ) → bits_at s p n < 2 ^ n
  under = bits_small (bit_at s) (bit_small s)

  both : (p n m : ℕ) → bits_at s p (n + m) ≡ bits_at s p n * 2 ^ m + bits_at s (p + n) m
  both = bits_add (bit_at s)

  -- a word fits 32 bits
  pub word_small : (p : ℕ) → word_from s p < 2 ^ 32
  word_small p = under p 32

  -- one position on: the first bit goes, and the next comes
  pub word_next : (p : ℕ) → word_from s p % 0x8000_0000 * 2 + bit_at s (p + 32) ≡ word_from s (p + 1)
  unfolding bits_from
  word_next p =
      let rest : word_from s p % 2 ^ 31 ≡ bits_at s (p + 1) 31 = ap (λ (w : ℕ). w % 2 ^ 31) (both p 1 31) ∙ low (bits_at s p 1) 31 (under (p + 1) 31) in
      let last : bit_at s (p + 32) ≡ bit_at s (p + 1 + 31) = ap (bit_at s) (omega arith) in
      ap₂ (λ (w b : ℕ). w * 2 + b) rest last ∙ sym (both (p + 1) 31 1 ∙ omega arith)

  -- a byte has its eight bits
  byte_bits : (p i : ℕ) {b : ℕ} → p ≡ 8 * i → (b < 256) × (b ≡ get_or s i 0) → bits_at s p 8 ≡ b
  unfolding bit_at
  byte_bits p i {b} e h =
      let same : (k : ℕ) → k < 8 → bit_at s (p + (8 - (k + 1))) ≡ b / 2 ^ k % 2 =
      λ k l.
      let at : (p + (8 - (k + 1))) / 8 ≡ i = omega arith in
      let up : 7 - (p + (8 - (k + 1))) % 8 ≡ k = omega arith in
      rw (at, up, h.1) in
      bits_of (bit_at s) p 8 b same ∙ omega arith

  -- four bytes are a word
  pub four_bits : (i : ℕ) {a b c d : ℕ} → (a < 256) × (a ≡ get_or s i 0) → (b < 256) × (b ≡ get_or s (i + 1) 0) → (c < 256) × (c ≡ get_or s (i + 2) 0)
      → (d < 256) × (d ≡ get_or s (i + 3) 0) → ((a * 256 + b) * 256 + c) * 256 + d ≡ word_from s (8 * i)
  four_bits i a b c d =
      let p = 8 * i in
      omega (
        arith,
        byte_bits p i refl a,
        byte_bits (p + 8) (i + 1) (omega arith) b,
        byte_bits (p + 16) (i + 2) (omega arith) c,
        byte_bits (p + 24) (i + 3) (omega arith) d,
        both p 8 8,
        both p 16 8,
        both p 24 8,
      )

  -- a word that begins inside a byte: the first four bytes moved up, and the top of the fifth behind them
  pub five_bits : (p : ℕ) {front fifth : ℕ} → front ≡ word_from s (8 * (p / 8)) → (fifth < 256) × (fifth ≡ get_or s (p / 8 + 4) 0)
      → front * 2 ^ (p % 8) % 2 ^ 32 + fifth / 2 ^ (8 - p % 8) ≡ word_from s p
  five_bits p {front} {fifth} e h =
      let i = p / 8 in
      let up = p % 8 in
      let n = 32 - up in
      let gone = bits_at s (8 * i) up in
      let kept = bits_at s p n in
      let come = bits_at s (8 * i + 32) up in
      let at : 8 * i + up ≡ p = omega arith in
      let behind : p + n ≡ 8 * i + 32 = omega arith in
      let word : n + up ≡ 32 = omega arith in
      let word' : up + n ≡ 32 = omega arith in
      let byte : up + (8 - up) ≡ 8 = omega arith in
      let front_is : front ≡ gone * 2 ^ n + kept = e ∙ ap (bits_at s (8 * i)) (sym word') ∙ both (8 * i) up n ∙ ap (λ (q : ℕ). gone * 2 ^ n + bits_at s q n) at in
      let moved_is : front * 2 ^ up ≡ gone * 2 ^ 32 + kept * 2 ^ up
      = ap (λ (w : ℕ). w * 2 ^ up) front_is
      ∙ add-mul (gone * 2 ^ n) kept (2 ^ up)
      ∙ ap (λ (w : ℕ). w + kept * 2 ^ up) (mul_assoc gone (2 ^ n) (2 ^ up) ∙ ap (λ (w : ℕ). gone * w) (sym (pow-add 2 n up) ∙ ap (λ (m : ℕ). 2 ^ m) word)) in
      let small : kept * 2 ^ up < 2 ^ 32 = rw word at (shl_lt n up (under p n)) in
      let moved : front * 2 ^ up % 2 ^ 32 ≡ kept * 2 ^ up = ap (λ (w : ℕ). w % 2 ^ 32) moved_is ∙ low gone 32 small in
      let fifth_is : fifth ≡ come * 2 ^ (8 - up) + bits_at s (8 * i + 32 + up) (8 - up)
      = sym (byte_bits (8 * i + 32) (i + 4) (omega arith) h) ∙ ap (bits_at s (8 * i + 32)) (sym byte) ∙ both (8 * i + 32) up (8 - up) in
      let top : fifth / 2 ^ (8 - up) ≡ come = ap (λ (w : ℕ). w / 2 ^ (8 - up)) fifth_is ∙ high come (8 - up) (under (8 * i + 32 + up) (8 - up)) in
      ap₂ ◌+◌ moved top ∙ sym (ap (bits_at s p) (sym word) ∙ both p n up ∙ ap (λ (q : ℕ). kept * 2 ^ up + bits_at s q up) behind)

  -- one that begins with a byte
  pub whole_bits : (p : ℕ) {front : ℕ} → front ≡ word_from s (8 * (p / 8)) → p % 8 ≡ 0 → front ≡ word_from s p
  whole_bits p e h = let at : 8 * (p / 8) ≡ p = omega arith in e ∙ ap (word_from s) at
