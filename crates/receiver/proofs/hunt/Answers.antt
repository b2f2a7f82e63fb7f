use mathlib.Core.Path.{sym, ap₂, ◌∙◌}
use Prim.Native.Nat.{ℕ, ◌+◌, ◌*◌, ◌%◌}
use native.Mathlib.Omega.{arith}
use Rattle.receiver.proofs.BitLaws.{bit_small, word_next}
use Rattle.receiver.proofs.StretchLaws.{batch_is, batch_not, tested, hunt_is, hunt_none, passed_more}
use Rattle.receiver.proofs.hunt.Goals as goal

pub returns-then-n-p : goal.returns-then-n-p
returns-then-n-p c =
    let a = c.args in
    sym (hunt_none a.bits.now a.p a.p (omega arith) (λ q l m. absurd (omega arith)) (omega arith))

pub returns-then-is_sync : goal.returns-then-is_sync
returns-then-is_sync c =
    let a = c.args in
    let s = a.bits.now in
    let l = c.loop-q in
    sym (hunt_is s a.p l.q l.invariant.0 l.invariant.3 (batch_is s l.q (omega arith) (tested s l.q l.invariant.2 c.is_sync.ensures c.if-is_sync.true)))

pub overflow_add-w : goal.overflow_add-w
overflow_add-w c = omega (arith, c.bit.ensures, bit_small c.args.bits.now (c.loop-q.q + 32))

pub loop-q-preserved : goal.loop-q-preserved
loop-q-preserved c =
    let a = c.args in
    let s = a.bits.now in
    let l = c.loop-q in
    let here = batch_not s l.q (tested s l.q l.invariant.2 c.is_sync.ensures c.if-is_sync.false) in (
      omega arith,
      omega arith,
      ap₂ (λ (w b : ℕ). w % 0x8000_0000 * 2 + b) l.invariant.2 c.bit.ensures ∙ word_next s l.q,
      passed_more s a.p l.q l.invariant.3 here,
    )

pub returns-else-is_sync : goal.returns-else-is_sync
returns-else-is_sync c =
    let a = c.args in
    let s = a.bits.now in
    let l = c.loop-q in
    let here = batch_not s l.q (tested s l.q l.invariant.2 c.is_sync.ensures c.if-is_sync.false) in
    sym (hunt_none s a.p (l.q + 1) (omega arith) (passed_more s a.p l.q l.invariant.3 here) (omega arith))
