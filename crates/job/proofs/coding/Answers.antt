-- `job::coding` meets its contract. Assumes nothing.
use native.Mathlib.Omega.{arith}
use borrow.Author.Tests.{ne_eqb}
use Rattle.job.specs.Line.{coding_of}
use Rattle.job.proofs.coding.Goals as goal

pub returns-in-4 : goal.returns-in-4
unfolding coding_of
returns-in-4 c = rw c.in-4.is

pub returns-in_default : goal.returns-in_default
unfolding coding_of
returns-in_default c = simp (ne_eqb c.args.kind 4 (λ e. omega arith))
