-- `reader::read_stretch` meets its contract. Assumes nothing.
use mathlib.Core.Path.{sym, ◌∙◌}
use Rattle.reader.proofs.AnswerLaws.{readable}
use Rattle.reader.proofs.read_stretch.Goals as goal

pub read_sound-requires : goal.read_sound-requires
read_sound-requires c = readable.of_words c.args.words.now (sym c.judge_words.ensures ∙ c.in_ok-judge_words.was)
