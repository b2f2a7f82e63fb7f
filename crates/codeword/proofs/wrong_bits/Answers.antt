-- `codeword::wrong_bits` meets its contract. Assumes nothing.
use mathlib.Core.Path.{refl}
use Rattle.codeword.specs.Places.{right_places, wrong_bits}
use Rattle.codeword.proofs.wrong_bits.Goals as goal

pub returns : goal.returns
unfolding right_places wrong_bits
returns c = refl
