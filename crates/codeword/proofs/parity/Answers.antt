-- `codeword::parity` meets its contract. Assumes nothing.
use mathlib.Core.Path.{ap}
use Prim.Native.Nat.{ℕ, ◌%◌}
use native.Mathlib.Omega.{arith}
use Rattle.codeword.proofs.CodeLaws.{weight_ones}
use Rattle.codeword.proofs.parity.Goals as goal

pub returns : goal.returns
returns c = ap (λ (x : ℕ). x % 2) (weight_ones c.args.word (omega arith))
