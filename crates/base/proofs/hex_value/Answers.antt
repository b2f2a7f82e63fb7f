-- `base::hex_value` meets its contract. Assumes nothing.
use mathlib.Core.Path.{ap, ◌∙◌}
use Prim.Native.Nat.{ℕ, ◌%◌}
use Rattle.base.proofs.HexLaws.{value_low}
use Rattle.base.proofs.hex_value.Goals as goal

pub returns : goal.returns
returns c = ap (λ (v : ℕ). v % 16) c.digit_value.ensures ∙ value_low c.args.b
