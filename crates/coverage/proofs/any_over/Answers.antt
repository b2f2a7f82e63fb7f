-- `coverage::any_over` meets its contract. Assumes nothing.
use mathlib.Core.Path.{◌∙◌}
use borrow.Author.Rules.{rules}
use borrow.Author.Tests.{tests}
use lib.Dec.{ltb}
use Rattle.std.proofs.lemmas.Iterator.{YieldsList-from_slice}
use Rattle.std.proofs.lemmas.Iterator.Search.{any_from_yields_List}
use Rattle.coverage.proofs.ReportLaws.{some_over}
use Rattle.coverage.proofs.any_over.Goals as goal

pub returns : goal.returns
returns c =
    any_from_yields_List (λ x. ltb c.args.limit x) _ _ _ c.any.ensures.ran (YieldsList-from_slice c.args.counts.now cc) (λ x b q k. search (rules, tests))
    ∙ some_over c.args.limit c.args.counts.now
