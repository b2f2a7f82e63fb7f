-- `job::spaced_length` meets its contract. Assumes nothing.
use mathlib.Core.Path.{sym, ap}
use native.Mathlib.Omega.{arith}
use borrow.Author.Tests.{eqb-true, eqb-false}
use lib.ListN.{length}
use Rattle.job.proofs.PrintLaws.{spaced_none, spaced_some}
use Rattle.job.proofs.spaced_length.Goals as goal

pub returns-then-is_empty : goal.returns-then-is_empty
returns-then-is_empty c = sym (ap length (spaced_none c.args.digits.now (eqb-true _ 0 (sym c.if-is_empty.ensures))))

pub returns-else-is_empty : goal.returns-else-is_empty
returns-else-is_empty c = let ds = c.args.digits.now in omega (arith, ap length (spaced_some ds (let some = eqb-false (length ds) 0 (sym c.if-is_empty.ensures) in omega arith)))
