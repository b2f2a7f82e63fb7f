-- `program::Printed::refused` meets its contract. Assumes nothing.
use Rattle.std.proofs.Common.{append_assoc, arith, length-append}
use Rattle.program.specs.CoverageText.{refused_part}
use Rattle.program.proofs.CoverageLaws.{labelled_short}
use Rattle.program.proofs.printed.Printed.refused.Goals as goal

pub labelled-requires-2 : goal.labelled-requires-2
labelled-requires-2 c = grind (arith, length-append, labelled_short)

pub labelled-requires-3 : goal.labelled-requires-3
labelled-requires-3 c = grind (arith, length-append, labelled_short)

pub returns : goal.returns
unfolding refused_part
returns c = grind (arith, append_assoc)
