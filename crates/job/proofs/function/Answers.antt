-- `job::function` meets its contract. Assumes nothing.
use native.Mathlib.Omega.{arith}
use borrow.Author.Tests.{ne_eqb}
use Rattle.job.specs.Line.{function_of, kind_sent}
use Rattle.job.proofs.function.Goals as goal

pub returns-in-4 : goal.returns-in-4
unfolding function_of kind_sent
returns-in-4 c = rw c.in-4.is

pub returns-in-5 : goal.returns-in-5
unfolding function_of kind_sent
returns-in-5 c = rw c.in-5.is

pub returns-in-6 : goal.returns-in-6
unfolding function_of kind_sent
returns-in-6 c = rw c.in-6.is

pub returns-in-7 : goal.returns-in-7
unfolding function_of kind_sent
returns-in-7 c = rw c.in-7.is

pub returns-in-9 : goal.returns-in-9
unfolding function_of kind_sent
returns-in-9 c = rw c.in-9.is

pub returns-in_default : goal.returns-in_default
unfolding function_of kind_sent
returns-in_default c = let k = c.args.kind in simp (ne_eqb k 4 (λ e. omega arith), ne_eqb k 5 (λ e. omega arith), ne_eqb k 6 (λ e. omega arith), ne_eqb k 7 (λ e. omega arith), ne_eqb k 9 (λ e. omega arith))
