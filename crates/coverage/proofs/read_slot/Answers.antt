-- `coverage::read_slot` meets its contract: a refused word leaves at once as lost. Assumes nothing.
use mathlib.Core.Path.{sym, ◌∙◌}
use Rattle.coverage.proofs.SlotLaws.{slot_refused, slot_corrected}
use Rattle.coverage.proofs.read_slot.Goals as goal

pub returns-in_default : goal.returns-in_default
returns-in_default c = slot_refused c.args.word (sym c.in_default.is ∙ c.correct.ensures)

pub returns : goal.returns
returns c = slot_corrected c.args.word _ (sym c.in-Some.is ∙ c.correct.ensures) _ _ c.codeword_meaning-says.ensures c.class_by-class.ensures
