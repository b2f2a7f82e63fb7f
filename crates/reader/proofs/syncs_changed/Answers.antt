use mathlib.Core.Path.{◌≡◌, ap, ◌∙◌}
use Prim.Native.Nat.{◌+◌, ◌/◌}
use lib.ListN.{length}
use native.Mathlib.Omega.{arith}
use Rattle.base.specs.Search.{sum}
use Rattle.base.proofs.SearchLaws.{sum_none, sum_next, sum_most}
use Rattle.codeword.specs.Code.{sync}
use Rattle.codeword.specs.Nearest.{distance}
use Rattle.reader.specs.Reading.{sync_word}
use Rattle.reader.proofs.SyncLaws.{sync_few, syncs_same}
use Rattle.reader.proofs.syncs_changed.Goals.{After-sync_distance-changed}
use Rattle.reader.proofs.syncs_changed.Goals as goal

pub loop-q-init : goal.loop-q-init
loop-q-init c = sum_none _

-- the sum with this batch's bits
next : (c : After-sync_distance-changed)
    → c.loop-q.changed + c.sync_distance-changed.result
    ≡ sum (λ q. distance (sync_word c.args.words.now q) sync) (c.loop-q.q + 1)
next c = let l = c.loop-q in sum_next _ l.q l.invariant c.sync_distance-changed.ensures

pub overflow_add-changed : goal.overflow_add-changed
overflow_add-changed c =
    let word = sync_word c.args.words.now in
    omega (arith, next (goal.at.overflow_add-changed c).After-sync_distance-changed, sum_most (λ q. distance (word q) sync) 32 (c.loop-q.q + 1) (λ q. sync_few (word q)), c.requires.words_len_bound)

pub loop-q-preserved : goal.loop-q-preserved
loop-q-preserved c = next (goal.at.loop-q-preserved c).After-sync_distance-changed

pub returns : goal.returns
returns c =
    let l = c.loop-q in
    let words = c.args.words.now in
    let all : l.q ≡ length words / 17 = omega arith in
    l.invariant ∙ ap (sum (λ q. distance (sync_word words q) sync)) all ∙ syncs_same words c.requires.words_len_bound_2
