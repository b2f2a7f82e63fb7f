-- `text::bits_digit` meets its contract. Assumes nothing.
use mathlib.Core.Path.{◌≡◌, ap, ◌∙◌}
use Prim.Native.Nat.{ℕ, ◌%◌}
use native.Mathlib.Omega.{arith}
use Rattle.base.specs.Hex.{digit_of}
use Rattle.text.specs.Coding.{turned_of}
use Rattle.text.proofs.PackLaws.{turned_small}
use Rattle.text.proofs.bits_digit.Goals as goal

pub returns : goal.returns
returns c =
    let v = turned_of 4 (c.args.bits % 16) in
    let low : v % 16 ≡ v = omega (arith, turned_small 4 (c.args.bits % 16)) in
    c.hex_digit.ensures ∙ ap (λ (x : ℕ). digit_of (x % 16)) (c.from.ensures ∙ c.turned_bits.ensures) ∙ ap digit_of low
