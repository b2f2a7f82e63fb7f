-- `coverage::is_over` meets its contract: test by test. Assumes nothing.
use mathlib.Core.Path.{sym, ◌∙◌}
use borrow.Author.Tests.{lt-ltb, le-ltb}
use Rattle.coverage.specs.Report.{is_over}
use Rattle.coverage.proofs.is_over.Goals as goal

pub returns-then-c-gt1000 : goal.returns-then-c-gt1000
unfolding is_over
returns-then-c-gt1000 c = rw (lt-ltb 1000 c.args.c.listings c.if-c-gt1000.true)

pub returns-then-any_over : goal.returns-then-any_over
unfolding is_over
returns-then-any_over c = rw (le-ltb 1000 c.args.c.listings c.if-c-gt1000.false, sym c.any_over.ensures ∙ c.if-any_over.true)

pub returns-then-any_over-2 : goal.returns-then-any_over-2
unfolding is_over
returns-then-any_over-2 c =
    rw (
      le-ltb 1000 c.args.c.listings c.if-c-gt1000.false,
      sym c.any_over.ensures ∙ c.if-any_over.false,
      sym c.any_over-2.ensures ∙ c.if-any_over-2.true,
    )

pub returns-then-any_over-3 : goal.returns-then-any_over-3
unfolding is_over
returns-then-any_over-3 c =
    rw (
      le-ltb 1000 c.args.c.listings c.if-c-gt1000.false,
      sym c.any_over.ensures ∙ c.if-any_over.false,
      sym c.any_over-2.ensures ∙ c.if-any_over-2.false,
      sym c.any_over-3.ensures ∙ c.if-any_over-3.true,
    )

pub returns : goal.returns
unfolding is_over
returns c =
    rw (
      le-ltb 1000 c.args.c.listings c.if-c-gt1000.false,
      sym c.any_over.ensures ∙ c.if-any_over.false,
      sym c.any_over-2.ensures ∙ c.if-any_over-2.false,
      sym c.any_over-3.ensures ∙ c.if-any_over-3.false,
    )
    c.any_over-4.ensures
