-- Laws of a text's groups: each is 20 bits of the text, and the bits of a character are its value. Assumes nothing.
use Prim.Native.Nat.{ℕ, ◌+◌, ◌-◌, ◌*◌, ◌/◌, ◌%◌, ◌^◌, ◌≤◌, ◌<◌}
use mathlib.Core.Path.{◌≡◌, ap, ◌∙◌}
use mathlib.Core.Bool.{true, false}
use mathlib.Core.List.{List}
use mathlib.Core.Logic.{⊎_elim}
use native.Mathlib.Omega.{arith}
use lib.Dec.{ltb}
use lib.ListN.{length, get_or, get_or-eq_default}
use borrow.Author.Tests.{ltb-true, ltb-false}
use Rattle.base.proofs.Bools.{either}
use Rattle.base.proofs.ListLaws.{tab-length, tab-at}
use Rattle.text.specs.Coding.{width_of, fill_of, value_of, bit_of, group_of, groups_of, groups_in}
use Rattle.text.specs.Heard.{from_low}
use Rattle.text.specs.declared.Coding.{Coding}
use Rattle.text.specs.declared.Coding.TheVariants.{Numeric, Alphanumeric}
use Rattle.text.proofs.BitLaws.{low_same, low_bits, low_lt, low_bit, bits_low}

pub bit_small : (c : Coding) (bytes : List ℕ) (p : ℕ) → bit_of c bytes p ≤ 1
unfolding bit_of
bit_small c bytes p = omega arith

-- the bits of a group from the last
abbrev pub back : Coding → List ℕ → ℕ → ℕ → ℕ
back c bytes g b = bit_of c bytes (20 * g + (20 - (b + 1)))

pub group_low : (c : Coding) (bytes : List ℕ) (g : ℕ) → group_of c bytes g ≡ from_low (back c bytes g) 20
unfolding group_of
group_low c bytes g = bits_low (bit_of c bytes) (20 * g) 20 0 ∙ omega arith

-- bit j of a group, the first on top, is bit 20 g + j of the text
pub group_bit : (c : Coding) (bytes : List ℕ) (g j : ℕ) → j < 20 → group_of c bytes g / 2 ^ (19 - j) % 2 ≡ bit_of c bytes (20 * g + j)
group_bit c bytes g j h =
    let e : 20 * g + (20 - (19 - j + 1)) ≡ 20 * g + j = omega arith in
    ap (λ (x : ℕ). x / 2 ^ (19 - j) % 2) (group_low c bytes g)
    ∙ low_bit (back c bytes g) (λ b. bit_small c bytes (20 * g + (20 - (b + 1)))) 20 (19 - j) (omega arith)
    ∙ ap (bit_of c bytes) e

pub group_small : (c : Coding) (bytes : List ℕ) (g : ℕ) → group_of c bytes g < 2 ^ 20
group_small c bytes g = rw group_low (low_lt (back c bytes g) (λ b. bit_small c bytes (20 * g + (20 - (b + 1)))) 20)

pub char_bit : (c : Coding) (bytes : List ℕ) (i b : ℕ) → b < width_of c → bit_of c bytes (width_of c * i + b) ≡ value_of c (get_or bytes i (fill_of c)) / 2 ^ b % 2
unfolding bit_of
char_bit Numeric bytes i b h =
    let q : (4 * i + b) / 4 ≡ i = omega arith in
    let r : (4 * i + b) % 4 ≡ b = omega arith in
    rw (q, r)
char_bit Alphanumeric bytes i b h =
    let q : (7 * i + b) / 7 ≡ i = omega arith in
    let r : (7 * i + b) % 7 ≡ b = omega arith in
    rw (q, r)

-- the bits of character i, the first the least significant, are its value
pub char_bits : (c : Coding) (bytes : List ℕ) (i : ℕ) → from_low (λ b. bit_of c bytes (width_of c * i + b)) (width_of c) ≡ value_of c (get_or bytes i (fill_of c)) % 2 ^ width_of c
char_bits c bytes i =
    let v = value_of c (get_or bytes i (fill_of c)) in
    low_same (λ b. bit_of c bytes (width_of c * i + b)) (λ b. v / 2 ^ b % 2) (width_of c) (char_bit c bytes i) ∙ low_bits v (width_of c)

-- ---- all groups of a text

module _ (c : Coding) (bytes : List ℕ) where
  pub groups_length : length (groups_in c bytes) ≡ groups_of c (length bytes)
  unfolding groups_in
  groups_length = tab-length (group_of c bytes) (groups_of c (length bytes))

  pub groups_at : (i : ℕ) → i < groups_of c (length bytes) → get_or (groups_in c bytes) i 0 ≡ group_of c bytes i
  unfolding groups_in
  groups_at i h = tab-at (group_of c bytes) (groups_of c (length bytes)) i 0 h

  pub groups_small : (i : ℕ) → get_or (groups_in c bytes) i 0 < 2 ^ 20
  groups_small i =
      let n = groups_of c (length bytes) in
      ⊎_elim
      (λ (h : ltb i n ≡ true). rw (groups_at i (ltb-true i n h)) (group_small c bytes i))
      (λ (h : ltb i n ≡ false). rw (get_or-eq_default (groups_in c bytes) 0 {n = i} (omega (arith, groups_length, ltb-false i n h))) (omega arith))
      (either (ltb i n))
