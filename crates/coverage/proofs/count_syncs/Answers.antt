use mathlib.Core.Path.{◌≡◌, sym, ap, ◌∙◌}
use mathlib.Core.List.{List}
use Prim.Native.Nat.{ℕ, ◌/◌, ◌<◌}
use native.Mathlib.Omega.{arith}
use lib.ListN.{length}
use Rattle.base.specs.Lists.{tab}
use Rattle.codeword.proofs.NearestLaws.{changed_few}
use Rattle.reader.specs.Reading.{sync_word}
use Rattle.reader.proofs.Laws.{sync_same}
use Rattle.coverage.specs.Tally.{tally, sync_place}
use Rattle.coverage.specs.Progress.{UpTo}
use Rattle.coverage.proofs.TallyLaws.{tally_length, counted_none, counted_few, counted_next}
use Rattle.coverage.proofs.count_syncs.Goals.{After-sync_distance-at}
use Rattle.coverage.proofs.count_syncs.Goals as goal

module _ (c : After-sync_distance-at) where
  abbrev lent : List ℕ
  lent = c.args.words.now

  -- the place of this batch's sync word
  placed : c.sync_distance-at.result ≡ sync_place lent c.loop-q.q
  placed = c.sync_distance-at.ensures ∙ sync_same lent c.requires.readable c.loop-q.q (omega arith)

  inside : c.sync_distance-at.result < 3
  inside = omega (arith, placed, changed_few (sync_word lent c.loop-q.q))

  counted : UpTo 3 c.loop-q.q c.loop-q.sync
  counted = counted_few 3 (sync_place lent) c.loop-q.q c.loop-q.invariant.1

pub loop-q-init : goal.loop-q-init
loop-q-init c = (omega arith, counted_none 3 (sync_place c.args.words.now) c.requires.sync_value)

pub overflow_cast-at : goal.overflow_cast-at
overflow_cast-at c = omega (arith, inside (goal.at.overflow_cast-at c).After-sync_distance-at)

pub offset_bounds-sync-at : goal.offset_bounds-sync-at
offset_bounds-sync-at c = omega (arith, inside (goal.at.offset_bounds-sync-at c).After-sync_distance-at)

pub bounds-sync-at : goal.bounds-sync-at
bounds-sync-at c = omega (arith, inside (goal.at.bounds-sync-at c).After-sync_distance-at, (counted (goal.at.bounds-sync-at c).After-sync_distance-at).size)

pub overflow_add-sync : goal.overflow_add-sync
overflow_add-sync c = omega (arith, (counted (goal.at.overflow_add-sync c).After-sync_distance-at).each c.sync_distance-at.result)

pub bounds-sync-at-in-loop-q : goal.bounds-sync-at-in-loop-q
bounds-sync-at-in-loop-q c = omega (arith, inside (goal.at.bounds-sync-at-in-loop-q c).After-sync_distance-at, (counted (goal.at.bounds-sync-at-in-loop-q c).After-sync_distance-at).size)

pub loop-q-preserved : goal.loop-q-preserved
loop-q-preserved c =
    let l = c.loop-q in
    (omega arith, counted_next 3 (sync_place (lent (goal.at.loop-q-preserved c).After-sync_distance-at)) l.q l.invariant.1 (placed (goal.at.loop-q-preserved c).After-sync_distance-at) (omega (arith, changed_few (sync_word (lent (goal.at.loop-q-preserved c).After-sync_distance-at) l.q))))

pub shape_of-sync : goal.shape_of-sync
shape_of-sync c = ap length c.loop-q.invariant.1 ∙ tally_length 3 _ ∙ sym (ap length c.requires.sync_value)

pub returns : goal.returns
returns c =
    let words = c.args.words.now in
    let all : c.loop-q.q ≡ length words / 17 = omega arith in
    c.loop-q.invariant.1 ∙ ap (λ (n : ℕ). tally 3 (tab (sync_place words) n)) all
