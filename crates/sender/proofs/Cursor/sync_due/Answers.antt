-- `sender::Cursor::sync_due` meets its contract. Assumes nothing.
use mathlib.Core.Path.{◌∙◌}
use borrow.Author.Tests.{ne_eqb}
use Rattle.sender.specs.Step.{sync_due}
use Rattle.sender.proofs.Search.{set_flag, clear_flag}
use Rattle.sender.proofs.Cursor.sync_due.Goals as goal

pub returns-then-self-eq0 : goal.returns-then-self-eq0
unfolding sync_due
returns-then-self-eq0 c = simp (clear_flag _ c.if-self-eq0.true)

pub returns-else-self-eq0 : goal.returns-else-self-eq0
unfolding sync_due
returns-else-self-eq0 c = ne_eqb _ 0 c.if-self-eq0.false ∙ simp (set_flag _ c.if-self-eq0.false)
