-- `job::print_text` meets its contract. Assumes nothing.
use mathlib.Core.Path.{sym, ap}
use Prim.Native.Nat.{suc, ◌≤◌}
use native.Mathlib.Omega.{arith}
use borrow.Author.Tests.{eqb-true, eqb-false}
use lib.ListN.{length}
use Rattle.job.proofs.PrintLaws.{spaced_none, spaced_some}
use Rattle.job.proofs.print_text.Goals.{Else-is_empty}
use Rattle.job.proofs.print_text.Goals as goal

-- where there are digits, there is room for the space and for them
room : (c : Else-is_empty) → suc (length c.args.digits.now) ≤ length c.args.out.now
room c =
    let a = c.args in
    omega (arith, c.requires, ap length (spaced_some a.digits.now (let some = eqb-false (length a.digits.now) 0 (sym c.if-is_empty.ensures) in omega arith)))

pub returns-then-is_empty : goal.returns-then-is_empty
returns-then-is_empty c = rw (spaced_none c.args.digits.now (eqb-true _ 0 (sym c.if-is_empty.ensures)))

pub bounds-out-0 : goal.bounds-out-0
bounds-out-0 c = let r = room (goal.at.bounds-out-0 c).Else-is_empty in omega arith
