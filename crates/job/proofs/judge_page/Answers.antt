-- `job::judge_page` meets its contract: at each `return` the tests that led there decide `page_of`. Assumes nothing.
use mathlib.Core.Path.{sym, ◌∙◌}
use native.Mathlib.Omega.{arith}
use borrow.Author.Tests.{le-ltb}
use Rattle.job.specs.Line.{page_of}
use Rattle.job.proofs.judge_page.Goals as goal

pub returns-then-is_reserved : goal.returns-then-is_reserved
unfolding page_of
returns-then-is_reserved c =
    let a = c.args in
    simp (le-ltb 0x1FFFFF a.page.identity (omega arith), sym c.is_reserved.ensures ∙ c.if-is_reserved.true)

pub returns : goal.returns
unfolding page_of
returns c =
    let a = c.args in
    rw c.judge_kind.ensures (simp (le-ltb 0x1FFFFF a.page.identity (omega arith), sym c.is_reserved.ensures ∙ c.if-is_reserved.false))
