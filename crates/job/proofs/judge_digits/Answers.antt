-- `job::judge_digits` meets its contract. Assumes nothing.
use mathlib.Core.Path.{sym, ◌∙◌}
use Rattle.base.proofs.Bools.{true_false}
use Rattle.job.specs.Line.{text_formed}
use Rattle.job.proofs.judge_digits.Goals as goal

pub returns-then-not-is_data : goal.returns-then-not-is_data
unfolding text_formed
returns-then-not-is_data c = rw (c.judge_pairs.ensures, sym c.is_data.ensures ∙ c.if-not-is_data.true)

pub returns-then-not-is_digits : goal.returns-then-not-is_digits
unfolding text_formed
returns-then-not-is_digits c = rw (sym c.is_data.ensures ∙ c.if-not-is_data.false, sym c.is_digits.ensures ∙ c.if-not-is_digits.true)

pub judge_page-requires : goal.judge_page-requires
judge_page-requires c = λ e. absurd (true_false (sym c.is_data.ensures ∙ c.if-not-is_data.false) e)

pub returns : goal.returns
unfolding text_formed
returns c = rw (c.judge_page.ensures, sym c.is_data.ensures ∙ c.if-not-is_data.false, sym c.is_digits.ensures ∙ c.if-not-is_digits.false)
