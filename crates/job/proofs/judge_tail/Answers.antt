-- `job::judge_tail` meets its contract. Assumes nothing.
use mathlib.Core.Path.{◌≡◌}
use mathlib.Core.List.{[]}
use native.Mathlib.Omega.{arith}
use lib.ListN.{length, get_or, drop_of_length-le}
use borrow.Author.Tests.{eq-eqb, ne_eqb}
use Rattle.job.specs.Line.{tail_formed}
use Rattle.base.proofs.ListLaws.{to_end}
use Rattle.job.proofs.Laws.{empty_run}
use Rattle.job.proofs.judge_tail.Goals as goal

pub judge_page-requires : goal.judge_page-requires
judge_page-requires c = λ _. let a = c.args in empty_run a.t.now a.page.kind (omega arith)

pub returns-in-empty : goal.returns-in-empty
unfolding tail_formed
returns-in-empty c =
    let none : c.args.t.now ≡ [] = drop_of_length-le c.args.t.now {i = 0} (omega arith) in
    rw (c.judge_page.ensures, none)

pub returns-in-32 : goal.returns-in-32
unfolding tail_formed
returns-in-32 c =
    rw (c.judge_digits.ensures, to_end 1 c.args.t.now)
    (simp (ne_eqb (length c.args.t.now) 0 (λ e. omega arith), eq-eqb (get_or c.args.t.now 0 0) 32 (omega arith)))

pub returns-in_default : goal.returns-in_default
unfolding tail_formed
returns-in_default c = simp (ne_eqb (length c.args.t.now) 0 (λ e. omega arith), ne_eqb (get_or c.args.t.now 0 0) 32 (λ e. omega arith))
