-- `sender::step` meets its contract. Assumes nothing.
use mathlib.Core.Path.{sym, ◌∙◌}
use Rattle.sender.proofs.Slot.{gives_refusal, gives_preamble, gives_done, gives_sync, gives_slot}
use Rattle.sender.proofs.step.Goals as goal

pub returns-then-declines : goal.returns-then-declines
returns-then-declines c = gives_refusal c.args.s.now (sym c.declines.ensures ∙ c.if-declines.true)

pub returns-then-s-ne0 : goal.returns-then-s-ne0
returns-then-s-ne0 c = gives_preamble c.args.s.now (sym c.declines.ensures ∙ c.if-declines.false) c.if-s-ne0.true

pub returns-then-is_finished : goal.returns-then-is_finished
returns-then-is_finished c =
    gives_done c.args.s.now (sym c.declines.ensures ∙ c.if-declines.false) c.if-s-ne0.false (sym c.sync_due.ensures ∙ c.if-sync_due.true) (sym c.is_finished.ensures ∙ c.if-is_finished.true)

pub returns-then-sync_due : goal.returns-then-sync_due
returns-then-sync_due c =
    gives_sync c.args.s.now (sym c.declines.ensures ∙ c.if-declines.false) c.if-s-ne0.false (sym c.sync_due.ensures ∙ c.if-sync_due.true) (sym c.is_finished.ensures ∙ c.if-is_finished.false) c.word.ensures

pub returns-then-s-ne0-2 : goal.returns-then-s-ne0-2
returns-then-s-ne0-2 c =
    gives_slot c.args.s.now (sym c.declines.ensures ∙ c.if-declines.false) c.if-s-ne0.false (sym c.sync_due.ensures ∙ c.if-sync_due.false) c.next_codeword.ensures

pub returns : goal.returns
returns c =
    gives_slot c.args.s.now (sym c.declines.ensures ∙ c.if-declines.false) c.if-s-ne0.false (sym c.sync_due.ensures ∙ c.if-sync_due.false) c.open_slot.ensures
