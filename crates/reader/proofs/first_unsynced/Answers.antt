use mathlib.Core.Path.{refl, sym, ap, ◌∙◌}
use mathlib.Core.Bool.{not}
use native.Mathlib.Omega.{arith}
use borrow.Author.Count.{below_none, below_more}
use Rattle.reader.proofs.AnswerLaws.{stops, none_unsynced}
use Rattle.reader.proofs.first_unsynced.Goals as goal

pub loop-q-init : goal.loop-q-init
loop-q-init c = below_none _

pub returns-then-not-is_sync : goal.returns-then-not-is_sync
returns-then-not-is_sync c = stops c.args.words.now c.loop-q.q (omega arith) c.loop-q.invariant (ap not (sym c.is_sync.ensures ∙ c.if-not-is_sync.true))

pub loop-q-preserved : goal.loop-q-preserved
loop-q-preserved c = below_more _ _ c.loop-q.invariant (ap not (sym c.is_sync.ensures ∙ c.if-not-is_sync.false))

pub returns : goal.returns
returns c = none_unsynced c.args.words.now _ refl (λ k h. c.loop-q.invariant k (omega arith))
