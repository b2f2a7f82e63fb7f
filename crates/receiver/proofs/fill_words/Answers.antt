use mathlib.Core.Path.{refl}
use Prim.Native.Nat.{◌+◌, ◌*◌}
use native.Mathlib.Omega.{arith}
use lib.ListN.{length}
use Rattle.base.proofs.ListLaws.{tab_turn, tab_full}
use Rattle.receiver.specs.Bits.{word_from}
use Rattle.receiver.proofs.fill_words.Goals as goal

pub loop-k-init : goal.loop-k-init
loop-k-init c = refl

pub loop-k-preserved : goal.loop-k-preserved
loop-k-preserved c =
    let l = c.loop-k in
    let a = c.args in
    tab_turn (λ k. word_from a.bits.now (a.p + 32 * k)) (length a.words.now) a.words.now refl l.k l.invariant (omega arith) c.word_from.ensures

pub returns : goal.returns
returns c =
    let l = c.loop-k in
    let a = c.args in
    tab_full (λ k. word_from a.bits.now (a.p + 32 * k)) (length a.words.now) a.words.now refl l.k l.invariant (omega arith)
