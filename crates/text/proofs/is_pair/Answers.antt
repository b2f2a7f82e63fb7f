-- `text::is_pair` meets its contract: one test of both values says whether both bytes are digits. Assumes nothing.
use mathlib.Core.Path.{◌≡◌, sym, ◌∙◌}
use mathlib.Core.Bool.{Bool, true, false}
use mathlib.Core.Logic.{⊎_elim}
use native.Mathlib.Omega.{arith}
use Prim.Native.Nat.{ℕ, ◌+◌, ◌*◌, ◌≤◌, ◌<◌}
use lib.Bits.{bit_or, or_lt, or_add_and, and_le_l, and_le_r}
use Rattle.base.specs.Hex.{is_hex, hex_of, digit_value}
use Rattle.text.specs.Coding.{char_ok, pair_ok}
use Rattle.text.specs.declared.Coding.{Coding}
use Rattle.base.proofs.Bools.{either}
use Rattle.base.proofs.HexLaws.{hex_small, value_some}
use Rattle.text.proofs.is_pair.Goals.{Else-high-low-ge16}
use Rattle.text.proofs.is_pair.Goals as goal

-- a pair of digits, by one test of their values
both : (v w : ℕ) → bit_or v w < 16 → (v < 16) × (w < 16)
both v w h = (omega (arith, or_add_and v w, and_le_r v w), omega (arith, or_add_and v w, and_le_l v w))

digit : (b : ℕ) {v : ℕ} → v ≡ digit_value b → v < 16 → (is_hex b ≡ true) × (v ≡ hex_of b)
digit b e h = let p = value_some b (λ z. omega arith) in (p.0, e ∙ p.1)

small : (b : ℕ) {v : ℕ} → v ≡ digit_value b → is_hex b ≡ true → v < 16
unfolding digit_value
small b e h = let z : digit_value b ≡ hex_of b = rw h in omega (arith, hex_small b)

-- whether two bytes write a character, as the code finds it
module _ (c : Coding) (x y : ℕ) {v w : ℕ} (ev : v ≡ digit_value x) (ew : w ≡ digit_value y) where
  no_pair : 16 ≤ bit_or v w → pair_ok c x y ≡ false
  no_pair h =
      ⊎_elim
      (λ (e : is_hex x ≡ true).
      ⊎_elim
      (λ (f : is_hex y ≡ true). absurd (omega (arith, or_lt 4 v w (small x ev e) (small y ew f))))
      (λ (f : is_hex y ≡ false). rw (f, e))
      (either (is_hex y)))
      (λ (e : is_hex x ≡ false). rw e)
      (either (is_hex x))

  module _ (h : bit_or v w < 16) where
    pair_char : char_ok c (v * 16 + w) ≡ char_ok c (hex_of x * 16 + hex_of y)
    pair_char = rw ((digit x ev (both v w h).0).1, (digit y ew (both v w h).1).1)

    one_pair : {r : Bool} → r ≡ char_ok c (v * 16 + w) → r ≡ pair_ok c x y
    one_pair e = rw ((digit x ev (both v w h).0).0, (digit y ew (both v w h).1).0) (e ∙ pair_char)

pub returns-then-high-low-ge16 : goal.returns-then-high-low-ge16
returns-then-high-low-ge16 c = sym (no_pair c.args.c _ _ c.digit_value-high.ensures c.digit_value-low.ensures c.if-high-low-ge16.true)

below : (c : Else-high-low-ge16) → (c.digit_value-high.result < 16) × (c.digit_value-low.result < 16)
below c = both c.digit_value-high.result c.digit_value-low.result c.if-high-low-ge16.false

pub overflow_mul-high : goal.overflow_mul-high
overflow_mul-high c = omega (arith, (below (goal.at.overflow_mul-high c).Else-high-low-ge16).0)

pub overflow_add-high : goal.overflow_add-high
overflow_add-high c = omega (arith, (below (goal.at.overflow_add-high c).Else-high-low-ge16).0, (below (goal.at.overflow_add-high c).Else-high-low-ge16).1)

pub returns : goal.returns
returns c = one_pair c.args.c _ _ c.digit_value-high.ensures c.digit_value-low.ensures c.if-high-low-ge16.false c.is_char.ensures
