-- `job::is_data` meets its contract. Assumes nothing.
use mathlib.Core.Path.{sym}
use native.Mathlib.Omega.{arith}
use Rattle.job.proofs.Message.{is_data_lem, no_data, over_data}
use Rattle.job.proofs.is_data.Goals as goal

pub returns-in-6 : goal.returns-in-6
returns-in-6 c = sym (is_data_lem c.args.kind (omega arith) (omega arith))

pub returns-in_default : goal.returns-in_default
returns-in_default c = sym (no_data c.args.kind (omega arith))

pub returns-in_default-2 : goal.returns-in_default-2
returns-in_default-2 c = sym (over_data c.args.kind (omega arith))
