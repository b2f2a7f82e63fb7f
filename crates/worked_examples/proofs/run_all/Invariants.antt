-- `worked_examples::run_all` is safe and ends. Assumes nothing.
use Rattle.std.proofs.Common.{◌+◌, ◌-◌, ◌≤◌, length}
use Rattle.worked_examples.proofs.run_all.Given as goal

abbrev pub invariant-loop-at : goal.invariant-loop-at
invariant-loop-at r l = l.at ≤ length l.input + 1

abbrev pub decreases-loop-at : goal.decreases-loop-at
decreases-loop-at r l = length l.input + 1 - l.at
