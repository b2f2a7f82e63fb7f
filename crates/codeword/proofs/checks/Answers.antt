-- `codeword::checks` meets its contract. Assumes nothing.
use mathlib.Core.Path.{refl}
use Rattle.codeword.specs.Places.{checks}
use Rattle.codeword.proofs.checks.Goals as goal

pub returns : goal.returns
unfolding checks
returns c = rw c.from-p.ensures refl
