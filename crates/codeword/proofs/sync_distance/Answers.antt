-- `codeword::sync_distance` meets its contract. Assumes nothing.
use native.Mathlib.Omega.{arith}
use lib.Bits.{bit_xor, xor_lt}
use lib.Dec.{lit<}
use Rattle.codeword.specs.Code.{sync}
use Rattle.codeword.specs.Nearest.{distance}
use Rattle.codeword.proofs.CodeLaws.{weight_ones}
use Rattle.codeword.proofs.sync_distance.Goals as goal

pub returns : goal.returns
unfolding distance
returns c = let w = c.args.word in weight_ones (bit_xor w sync) (xor_lt 32 w sync (omega arith) (lit< tt))
