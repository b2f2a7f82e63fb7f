-- `receiver::Totals::add` meets its contract. Assumes nothing.
use native.Mathlib.Omega.{arith}
use Rattle.receiver.proofs.Totals.add.Goals as goal

pub overflow_add-result-6 : goal.overflow_add-result-6
overflow_add-result-6 c =
    let pre = c.requires in
    omega (arith, pre.first.syncs, pre.second.syncs, pre.few)

pub overflow_add-result-7 : goal.overflow_add-result-7
overflow_add-result-7 c =
    let pre = c.requires in
    omega (arith, pre.first.bytes, pre.second.bytes, pre.few)
