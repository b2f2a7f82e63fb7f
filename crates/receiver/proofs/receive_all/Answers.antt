use mathlib.Core.Path.{refl}
use Prim.Native.Nat.{◌≤◌}
use native.Mathlib.Omega.{arith}
use lib.ListN.{length}
use borrow.Author.Rules.{rules}
use Rattle.reader.specs.Lines.{lines_heard}
use Rattle.receiver.proofs.StretchLaws.{hunt_inside}
use Rattle.receiver.proofs.SoFar.{so_far_none, so_far_on, so_far_behind, so_far_end, so_far_lines, so_far_counted, so_far_inside, so_far_ahead, so_far_addable, so_far_next}
use Rattle.receiver.proofs.receive_all.Goals.{Else-b-eq0}
use Rattle.receiver.proofs.receive_all.Goals as goal

-- a stretch is found
some : (c : Else-b-eq0) → 1 ≤ c.count_batches-b.result
some c = omega arith

pub loop-t-init : goal.loop-t-init
unfolding lines_heard
loop-t-init c =
    let a = c.args in
    let here = so_far_none a.bits.now a.lines.now in
    (refl, refl, here, so_far_counted a.bits.now a.lines.now 0 _ here)

pub hunt-q-requires : goal.hunt-q-requires
hunt-q-requires c = (c.requires.0, c.loop-t.invariant.2.inside)

pub count_batches-b-requires : goal.count_batches-b-requires
count_batches-b-requires c = (c.requires.0, omega (arith, c.hunt-q.ensures, hunt_inside c.args.bits.now c.loop-t.p c.loop-t.invariant.2.inside))

pub returns-then-b-eq0 : goal.returns-then-b-eq0
returns-then-b-eq0 c =
    let a = c.args in record {
      value = so_far_end a.bits.now a.lines.now c.loop-t.p c.loop-t.t c.loop-t.invariant.2 c.hunt-q.result c.count_batches-b.result c.hunt-q.ensures c.count_batches-b.ensures c.if-b-eq0.true (length a.lines.now) c.requires.0 c.requires.2;
      lines_after = so_far_lines a.bits.now a.lines.now c.loop-t.p c.loop-t.t c.loop-t.invariant.2 c.hunt-q.result c.count_batches-b.result c.hunt-q.ensures c.count_batches-b.ensures c.if-b-eq0.true;
    }

pub overflow_add-t : goal.overflow_add-t
overflow_add-t c =
    let a = c.args in
    omega (arith, c.requires.0, c.loop-t.invariant.2.few, so_far_behind a.bits.now a.lines.now c.loop-t.p c.loop-t.t c.loop-t.invariant.2 c.hunt-q.result c.count_batches-b.result c.hunt-q.ensures c.count_batches-b.ensures)

pub slice_bounds-read_stretch-count : goal.slice_bounds-read_stretch-count
slice_bounds-read_stretch-count c =
    let a = c.args in
    so_far_inside a.bits.now a.lines.now c.loop-t.p c.loop-t.t c.loop-t.invariant.2 c.hunt-q.result c.count_batches-b.result c.hunt-q.ensures c.count_batches-b.ensures (omega arith) (omega arith) c.requires.2

pub slice_bounds-read_stretch-start : goal.slice_bounds-read_stretch-start
slice_bounds-read_stretch-start c =
    let a = c.args in
    so_far_inside a.bits.now a.lines.now c.loop-t.p c.loop-t.t c.loop-t.invariant.2 c.hunt-q.result c.count_batches-b.result c.hunt-q.ensures c.count_batches-b.ensures (omega arith) (omega arith) c.requires.2

pub read_stretch-more-requires : goal.read_stretch-more-requires
read_stretch-more-requires c =
    let a = c.args in
    so_far_ahead a.bits.now a.lines.now c.loop-t.p c.loop-t.t c.loop-t.invariant.2 c.hunt-q.result c.count_batches-b.result c.hunt-q.ensures c.count_batches-b.ensures (omega arith) (omega arith) c.requires.2 (length c.loop-t.words) (omega (arith, c.loop-t.invariant.0, c.requires.1)) c.requires.0

pub add-t-requires : goal.add-t-requires
add-t-requires c =
    let a = c.args in
    so_far_addable a.bits.now a.lines.now c.loop-t.p c.loop-t.t c.loop-t.invariant.2 c.hunt-q.result c.count_batches-b.result c.hunt-q.ensures c.count_batches-b.ensures (some (goal.at.add-t-requires c).Else-b-eq0) (omega arith) c.requires.2 c.read_stretch-more.ensures.value

pub overflow_mul-p : goal.overflow_mul-p
overflow_mul-p c =
    let a = c.args in
    omega (arith, c.requires.0, so_far_behind a.bits.now a.lines.now c.loop-t.p c.loop-t.t c.loop-t.invariant.2 c.hunt-q.result c.count_batches-b.result c.hunt-q.ensures c.count_batches-b.ensures)

pub overflow_add-p : goal.overflow_add-p
overflow_add-p c =
    let a = c.args in
    omega (arith, c.requires.0, so_far_behind a.bits.now a.lines.now c.loop-t.p c.loop-t.t c.loop-t.invariant.2 c.hunt-q.result c.count_batches-b.result c.hunt-q.ensures c.count_batches-b.ensures)

pub loop-t-smaller : goal.loop-t-smaller
loop-t-smaller c =
    let a = c.args in
    omega (arith, some (goal.at.loop-t-smaller c).Else-b-eq0, so_far_on a.bits.now a.lines.now c.loop-t.p c.loop-t.t c.loop-t.invariant.2 c.hunt-q.result c.count_batches-b.result c.hunt-q.ensures c.count_batches-b.ensures, so_far_behind a.bits.now a.lines.now c.loop-t.p c.loop-t.t c.loop-t.invariant.2 c.hunt-q.result c.count_batches-b.result c.hunt-q.ensures c.count_batches-b.ensures)

pub loop-t-preserved : goal.loop-t-preserved
loop-t-preserved c =
    let a = c.args in
    let next = so_far_next a.bits.now a.lines.now c.loop-t.p c.loop-t.t c.loop-t.invariant.2 c.hunt-q.result c.count_batches-b.result c.hunt-q.ensures c.count_batches-b.ensures (some (goal.at.loop-t-preserved c).Else-b-eq0) (omega arith) c.requires.2 c.read_stretch-more.ensures.value c.add-t.ensures c.read_stretch-more.ensures.out_after in
    (search rules, search rules, next, so_far_counted a.bits.now a.lines.now _ _ next)
