-- `program::Printed::listings` meets its contract. Assumes nothing.
use Rattle.std.proofs.Common.{append_assoc, arith, length-append}
use Rattle.program.specs.CoverageText.{listings_line}
use Rattle.program.proofs.CoverageLaws.{labelled_short, refused_short}
use Rattle.program.proofs.printed.Printed.listings.Goals as goal

pub refused-requires : goal.refused-requires
refused-requires c = grind (arith, length-append, labelled_short)

pub text-requires : goal.text-requires
text-requires c = grind (arith, length-append, labelled_short, refused_short)

pub returns : goal.returns
unfolding listings_line
returns c = grind (arith, append_assoc)
