-- `reader::judge_words` meets its contract. Assumes nothing.
use mathlib.Core.Path.{◌∙◌}
use native.Mathlib.Omega.{arith}
use Rattle.reader.proofs.AnswerLaws.{words_none, words_part, words_few}
use Rattle.reader.proofs.judge_words.Goals as goal

pub returns-then-n-eq0 : goal.returns-then-n-eq0
returns-then-n-eq0 c = words_none c.args.words.now c.if-n-eq0.true

pub returns-then-n-ne0 : goal.returns-then-n-ne0
returns-then-n-ne0 c = words_part c.args.words.now c.if-n-eq0.false c.if-n-ne0.true

pub returns : goal.returns
returns c = c.judge_batches.ensures ∙ words_few c.args.words.now c.if-n-eq0.false c.if-n-ne0.false (omega arith)
