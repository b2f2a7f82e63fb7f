-- `job::is_digits` meets its contract. Assumes nothing.
use mathlib.Core.Path.{sym}
use Rattle.job.specs.Line.{is_digits}
use Rattle.job.proofs.is_digits.Goals as goal

pub returns-then-not-is_empty : goal.returns-then-not-is_empty
unfolding is_digits
returns-then-not-is_empty c = rw c.hex_run.ensures (simp (sym c.if-not-is_empty.ensures))

pub returns-else-not-is_empty : goal.returns-else-not-is_empty
unfolding is_digits
returns-else-not-is_empty c = simp (sym c.if-not-is_empty.ensures, c.if-not-is_empty.false)
