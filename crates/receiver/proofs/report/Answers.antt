-- `receiver::report` meets its contract. Assumes nothing.
use mathlib.Core.Path.{◌≡◌, refl, ◌∙◌}
use Rattle.std.specs.Result.{result_unwrap_or}
use Rattle.std.specs.declared.result.Result.{Result}
use Rattle.std.specs.declared.result.Result.TheVariants.{Ok, Err}
use Rattle.reader.specs.Lines.{lines_heard}
use Rattle.receiver.specs.Answers.{nothing, totals_of, totals_received}
use Rattle.receiver.specs.declared.Refusal.{Refusal}
use Rattle.receiver.specs.declared.Totals.{Totals}
use Rattle.receiver.proofs.report.Goals as goal

or_nothing : (r : Result Totals Refusal) → result_unwrap_or r (totals_of 0 nothing) ≡ totals_received r
or_nothing (Ok t) = refl
or_nothing (Err why) = refl

pub returns : goal.returns
unfolding lines_heard
returns c = c.unwrap_or.ensures ∙ or_nothing c.args.r
