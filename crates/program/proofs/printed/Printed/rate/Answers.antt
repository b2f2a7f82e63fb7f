-- `program::Printed::rate` meets its contract. Assumes nothing.
use Rattle.std.proofs.Common.{append_assoc, arith, length-append}
use Rattle.program.specs.CoverageText.{rate_part}
use Rattle.program.proofs.CoverageLaws.{labelled_short}
use Rattle.program.proofs.printed.Printed.rate.Goals as goal

pub labelled-requires-2 : goal.labelled-requires-2
labelled-requires-2 c = grind (arith, length-append, labelled_short)

pub text-requires : goal.text-requires
text-requires c = grind (arith, length-append, labelled_short)

pub returns : goal.returns
unfolding rate_part
returns c = grind (arith, append_assoc)
