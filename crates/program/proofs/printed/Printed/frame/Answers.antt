-- `program::Printed::frame` meets its contract. Assumes nothing.
use Rattle.std.proofs.Common.{append_assoc, arith, length-append}
use Rattle.program.proofs.CoverageLaws.{labelled_short, read_short, lost_short, frame_is}
use Rattle.program.proofs.printed.Printed.frame.Goals as goal

pub read-requires : goal.read-requires
read-requires c = grind (arith, length-append, labelled_short)

pub lost-requires : goal.lost-requires
lost-requires c = grind (arith, length-append, labelled_short, read_short)

pub rate-requires : goal.rate-requires
rate-requires c = grind (arith, length-append, labelled_short, read_short, lost_short)

pub returns : goal.returns
returns c = grind (arith, append_assoc, frame_is c.args.c.now c.args.frame c.requires.frame_bound c.rate_of.ensures)
