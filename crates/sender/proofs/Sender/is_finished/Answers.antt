-- `sender::Sender::is_finished` meets its contract. Assumes nothing.
use mathlib.Core.Path.{refl, sym, ap, ◌∙◌}
use mathlib.Core.Bool.{not}
use native.Mathlib.Omega.{arith}
use borrow.Author.Tests.{eqb-false, ne_eqb}
use Rattle.std.proofs.lemmas.Bool.{eqb-true}
use Rattle.base.proofs.Bools.{true_false}
use Rattle.sender.specs.Step.{finished}
use Rattle.sender.proofs.Search.{set_flag, clear_flag, none_zero}
use Rattle.sender.proofs.Slot.{sound_count, runs_on, runs_not}
use Rattle.sender.proofs.Sender.is_finished.Goals.{then-self-eq0, else-self-eq0}
use Rattle.sender.proofs.Sender.is_finished.Goals as goal

pub shared_ref_as_front-contains : goal.shared_ref_as_front-contains
shared_ref_as_front-contains c = let s = c.args.self.now in sound_count s.pages s.cursor c.requires

pub returns-then-self-eq0-2 : goal.returns-then-self-eq0-2
unfolding finished
returns-then-self-eq0-2 c =
    let s = c.args.self.now in
    elim c.if-self-eq0.branch [
      | then-self-eq0 w ↦
          ap not c.contains.ensures.value
          ∙ none_zero s.pages.count s.sent (omega (arith, sound_count s.pages s.cursor c.requires))
          ∙ runs_not s.pages s.sent s.cursor s.pages.count refl (eqb-true _ 0 (sym w.value-is ∙ c.if-self-eq0-2.true))
          ∙ simp (clear_flag _ w.if-self-eq0.true)
      | else-self-eq0 w ↦ absurd (true_false c.if-self-eq0-2.true (w.value-is ∙ ne_eqb _ 0 w.if-self-eq0.false))
    ]

pub returns-else-self-eq0-2 : goal.returns-else-self-eq0-2
unfolding finished
returns-else-self-eq0-2 c =
    let s = c.args.self.now in
    elim c.if-self-eq0.branch [
      | then-self-eq0 w ↦
          c.if-self-eq0-2.false
          ∙ runs_on s.pages s.sent s.cursor c.requires (eqb-false _ 0 (sym w.value-is ∙ c.if-self-eq0-2.false))
          ∙ simp (clear_flag _ w.if-self-eq0.true)
      | else-self-eq0 w ↦ c.if-self-eq0-2.false ∙ simp (set_flag _ w.if-self-eq0.false)
    ]
