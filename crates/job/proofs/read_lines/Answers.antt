use Prim.Native.Nat.{ℕ, ◌≤◌}
use mathlib.Core.Path.{◌≡◌, sym, ◌∙◌}
use native.Mathlib.Omega.{arith}
use Rattle.base.proofs.LinesLaws.{end_after}
use Rattle.job.specs.Submission.{with_book}
use Rattle.job.specs.Pages.{pages_of}
use Rattle.job.proofs.Laws.{judge_unended, judge_line}
use Rattle.job.proofs.Keeping.{keeping_none, keeping_more, keeping_all, answer_refused}
use Rattle.job.proofs.read_lines.Goals.{After-line_end-end}
use Rattle.job.proofs.read_lines.Goals as goal

-- where the line ends
ended : (c : After-line_end-end) → c.loop-k.at ≤ c.line_end-end.result
ended c = rw c.line_end-end.ensures (end_after c.args.job.now c.loop-k.at)

pub loop-k-init : goal.loop-k-init
loop-k-init c = rw c.no_pages-pages.ensures (let a = c.args in keeping_none a.book.now a.job.now)

pub returns-then-job-at : goal.returns-then-job-at
returns-then-job-at c =
    let a = c.args in
    keeping_all a.book.now a.job.now c.loop-k.at c.loop-k.k c.loop-k.invariant (omega arith)

pub returns-then-job-end : goal.returns-then-job-end
returns-then-job-end c =
    let a = c.args in
    let b = a.book.now in
    let job = a.job.now in
    c.declined.ensures
    ∙ answer_refused _ (pages_of (with_book job b)) (c.loop-k.invariant.answer ∙ judge_unended b job c.loop-k.at c.loop-k.k (omega arith) (omega arith) (omega arith))

pub slice_bounds-read_line-count : goal.slice_bounds-read_line-count
slice_bounds-read_line-count c = omega (arith, ended (goal.at.slice_bounds-read_line-count c).After-line_end-end)

pub slice_bounds-read_line-start : goal.slice_bounds-read_line-start
slice_bounds-read_line-start c = omega (arith, ended (goal.at.slice_bounds-read_line-start c).After-line_end-end)

pub returns-in-Err : goal.returns-in-Err
returns-in-Err c =
    let a = c.args in
    let b = a.book.now in
    let job = a.job.now in
    c.declined-in-Err.ensures
    ∙ answer_refused _ (pages_of (with_book job b)) (c.loop-k.invariant.answer ∙ judge_line b job c.loop-k.at c.loop-k.k c.line_end-end.ensures (omega arith) (omega arith)
    (sym c.in-Err.is ∙ c.read_line.ensures))

pub loop-k-preserved : goal.loop-k-preserved
loop-k-preserved c =
    let a = c.args in
    let b = a.book.now in
    let job = a.job.now in
    keeping_more b job c.loop-k.at c.loop-k.k c.loop-k.invariant c.line_end-end.ensures (omega arith) (omega arith)
    (sym c.read_line.ensures ∙ c.in-Ok.is)

pub returns : goal.returns
returns c =
    let a = c.args in
    let all : ◌≡◌ {A = ℕ} 48 c.loop-k.k = omega arith in
    rw all (keeping_all a.book.now a.job.now c.loop-k.at c.loop-k.k c.loop-k.invariant (omega arith))
