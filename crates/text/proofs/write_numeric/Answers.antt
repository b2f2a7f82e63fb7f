use mathlib.Core.Path.{◌≡◌, ap, ◌∙◌}
use Prim.Native.Nat.{ℕ, ◌*◌, ◌/◌, ◌%◌}
use native.Mathlib.Omega.{arith}
use lib.ListN.{length-set}
use Rattle.base.specs.Hex.{digit_of}
use Rattle.text.specs.Heard.{char_heard}
use Rattle.text.specs.declared.Coding.TheVariants.{Numeric}
use Rattle.text.proofs.HeardLaws.{heard_fits}
use Rattle.text.proofs.PairLaws.{written_none, written_more, written_all}
use Rattle.text.proofs.write_numeric.Goals as goal

pub loop-i-init : goal.loop-i-init
loop-i-init c =
    let a = c.args in
    (omega (arith, c.numeric_length-n.ensures, heard_fits Numeric a.groups.now), written_none Numeric a.groups.now a.digits.now)

pub bounds-digits-i-in-loop-i : goal.bounds-digits-i-in-loop-i
bounds-digits-i-in-loop-i c = let l = c.loop-i in omega (arith, length-set l.digits (2 * l.i) c.hex_digit.result)

pub loop-i-preserved : goal.loop-i-preserved
loop-i-preserved c =
    let a = c.args in
    let gs = a.groups.now in
    let l = c.loop-i in
    let b = c.from-b.result in
    let here : b ≡ char_heard Numeric gs l.i = c.from-b.ensures ∙ c.numeric_char.ensures in
    let high : b / 16 % 16 ≡ b / 16 = omega arith in (
      l.invariant.0,
      written_more Numeric gs a.digits.now l.i l.invariant.1 (omega arith) (omega arith)
          (c.hex_digit.ensures ∙ ap digit_of (high ∙ ap (λ (v : ℕ). v / 16) here)) (c.hex_digit-in-loop-i.ensures ∙ ap (λ (v : ℕ). digit_of (v % 16)) here),
    )

pub shape_of-digits : goal.shape_of-digits
shape_of-digits c = c.loop-i.invariant.1.size

pub returns : goal.returns
returns c =
    let a = c.args in
    let l = c.loop-i in
    let whole = written_all Numeric a.groups.now a.digits.now l.i l.invariant.1 (omega (arith, c.numeric_length-n.ensures)) in record { value = omega (arith, whole.0); digits_after = whole.1 }
