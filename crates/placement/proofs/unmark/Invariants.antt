-- `placement::unmark` meets its contract. The invariant: the marks so far are one less, and the others are as they came. Assumes nothing.
use Rattle.std.proofs.Common.{◌≡◌, map, pred, ◌++◌, take, drop}
use Rattle.placement.proofs.unmark.Given as goal

abbrev pub invariant-loop-mark : goal.invariant-loop-mark
invariant-loop-mark l = l.marks ≡ map pred (take l.mark-index l.initial.marks) ++ drop l.mark-index l.initial.marks
