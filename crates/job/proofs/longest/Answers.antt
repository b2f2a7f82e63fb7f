-- `job::longest` meets its contract. Assumes nothing.
use borrow.Author.Tests.{le-leb, lt-leb, ne_eqb}
use native.Mathlib.Omega.{arith}
use Rattle.job.specs.Line.{longest_of}
use Rattle.job.proofs.longest.Goals as goal

pub returns-in-4 : goal.returns-in-4
unfolding longest_of
returns-in-4 c = rw c.in-4.is

pub returns-in-0-to-3 : goal.returns-in-0-to-3
unfolding longest_of
returns-in-0-to-3 c = simp (le-leb c.args.kind 3 (omega arith))

pub returns-in_default : goal.returns-in_default
unfolding longest_of
returns-in_default c = let k = c.args.kind in simp (lt-leb k 3 (omega arith), ne_eqb k 4 (λ e. omega arith))
