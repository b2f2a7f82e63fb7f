-- `reader::unless_lost` meets its contract. Assumes nothing.
use native.Mathlib.Omega.{arith}
use Rattle.reader.proofs.ChangeLaws.{lost}
use Rattle.reader.proofs.unless_lost.Goals as goal

pub returns : goal.returns
returns c = lost c.args.symbol c.args.changed (omega arith)
