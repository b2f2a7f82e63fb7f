-- `program::Printed::labelled` meets its contract. Assumes nothing.
use Rattle.std.proofs.Common.{append_assoc, arith}
use Rattle.program.specs.CoverageText.{labelled}
use Rattle.program.proofs.printed.Printed.labelled.Goals as goal

pub returns : goal.returns
unfolding labelled
returns c = grind (arith, append_assoc)
