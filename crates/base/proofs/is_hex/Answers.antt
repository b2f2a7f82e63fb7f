-- `base::is_hex` meets its contract. Assumes nothing.
use mathlib.Core.Path.{ap, ◌∙◌}
use Prim.Native.Nat.{ℕ}
use lib.Dec.{ltb}
use Rattle.base.proofs.HexLaws.{value_hex}
use Rattle.base.proofs.is_hex.Goals as goal

pub returns : goal.returns
returns c = ap (λ (v : ℕ). ltb v 16) c.digit_value.ensures ∙ value_hex c.args.b
