-- `program::Printed::sync` meets its contract. Assumes nothing.
use Rattle.std.proofs.Common.{append_assoc, arith, length-append}
use Rattle.program.proofs.CoverageLaws.{read_short, sync_is}
use Rattle.program.proofs.printed.Printed.sync.Goals as goal

pub rate-requires : goal.rate-requires
rate-requires c = grind (arith, length-append, read_short)

pub returns : goal.returns
returns c = grind (arith, append_assoc, sync_is c.args.c.now c.rate_of.ensures)
