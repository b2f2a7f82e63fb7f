-- `text::turned_digit` meets its contract. Assumes nothing.
use mathlib.Core.Path.{◌≡◌, ap, ◌∙◌}
use Prim.Native.Nat.{ℕ, ◌%◌}
use native.Mathlib.Omega.{arith}
use Rattle.base.specs.Hex.{hex_of}
use Rattle.base.proofs.HexLaws.{hex_small}
use Rattle.text.specs.Coding.{turned_of}
use Rattle.text.proofs.turned_digit.Goals as goal

pub returns : goal.returns
returns c =
    let b = c.args.b in
    let low : hex_of b % 16 ≡ hex_of b = omega (arith, hex_small b) in
    c.from.ensures
    ∙ c.turned_bits.ensures
    ∙ ap (λ (v : ℕ). turned_of 4 (v % 16)) (c.from-value.ensures ∙ c.hex_value.ensures)
    ∙ ap (turned_of 4) low
