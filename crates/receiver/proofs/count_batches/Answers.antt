use mathlib.Core.Path.{sym}
use Prim.Native.Nat.{◌+◌, ◌*◌}
use native.Mathlib.Omega.{arith}
use borrow.Author.Count.{below_none, below_more}
use Rattle.receiver.proofs.StretchLaws.{batch_is, batch_not, batch_late, tested, batches_is}
use Rattle.receiver.proofs.count_batches.Goals as goal

pub loop-b-init : goal.loop-b-init
loop-b-init c = below_none _

pub returns-then-not-is_sync : goal.returns-then-not-is_sync
returns-then-not-is_sync c =
    let a = c.args in
    let s = a.bits.now in
    let l = c.loop-b in
    let at = a.p + 544 * l.b in
    sym (batches_is s a.p l.b l.invariant (batch_not s at (tested s at c.word_from.ensures c.is_sync.ensures c.if-not-is_sync.true)))

pub loop-b-preserved : goal.loop-b-preserved
loop-b-preserved c =
    let a = c.args in
    let s = a.bits.now in
    let l = c.loop-b in
    let at = a.p + 544 * l.b in
    below_more _ l.b l.invariant (batch_is s at (omega arith) (tested s at c.word_from.ensures c.is_sync.ensures c.if-not-is_sync.false))

pub returns : goal.returns
returns c =
    let a = c.args in
    let s = a.bits.now in
    let l = c.loop-b in
    omega (arith, batches_is s a.p l.b l.invariant (batch_late s (a.p + 544 * l.b) (omega arith)))
