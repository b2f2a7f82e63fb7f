use mathlib.Core.List.{List, ◌++◌}
use Prim.Native.Nat.{ℕ, ◌≤◌}
use mathlib.Core.Path.{◌≡◌, refl, ap, ◌∙◌}
use native.Mathlib.Omega.{arith}
use lib.ListN.{length, get_or, take, drop}
use lib.Seq.{length-take-le}
use Rattle.base.specs.Lists.{over, tab}
use Rattle.base.proofs.ListLaws.{filled_here, tab_turn, tab_full, tab-length, tab-at, tab-same}
use Rattle.codeword.specs.Code.{codeword, message_bits}
use Rattle.job.specs.Line.{kind_sent}
use Rattle.job.specs.Message.{group_from}
use Rattle.sender.proofs.write_message.Invariants.{coded}
use Rattle.sender.proofs.write_message.Goals as goal

-- groups over the front, and then their codewords
replaced : (f : ℕ → ℕ) (n : ℕ) (out : List ℕ) {old front : List ℕ} → n ≤ length out → old ≡ tab f (length (take n out)) → front ≡ tab (coded old) (length old)
    → front ++ drop n out ≡ over out (tab (λ k. codeword (message_bits (f k))) n)
replaced f n out {old} {front} h e q =
    let m : length (take n out) ≡ n = length-take-le n out h in
    let size : length old ≡ n = ap length e ∙ tab-length f (length (take n out)) ∙ m in
    let new : front ≡ tab (λ k. codeword (message_bits (f k))) n
    = q ∙ ap (tab (coded old)) size
    ∙ tab-same (coded old) (λ k. codeword (message_bits (f k))) n
    (λ k l. ap (λ (x : ℕ). codeword (message_bits x)) (ap (λ (t : List ℕ). get_or t k 0) e ∙ tab-at f (length (take n out)) k 0 (omega arith))) in
    rw (new, tab-length (λ k. codeword (message_bits (f k))) n)

pub loop-word-preserved : goal.loop-word-preserved
loop-word-preserved c =
    let l = c.loop-word in
    let old = c.write_groups.new.groups in
    tab_turn (coded old) (length old) old refl l.word-index l.invariant (omega arith)
    (c.word.ensures ∙ c.message.ensures
    ∙ ap (λ (x : ℕ). codeword (message_bits x))
    (ap (λ (t : List ℕ). get_or t l.word-index 0) l.invariant ∙ filled_here old (tab (coded old) (length old)) l.word-index (omega arith) (omega (arith, tab-length (coded old) (length old)))))

pub returns : goal.returns
returns c =
    let l = c.loop-word in
    let a = c.args in
    let old = c.write_groups.new.groups in
    replaced (group_from (kind_sent a.kind) a.text.now) a.n a.out.now c.requires c.write_groups.ensures
    (tab_full (coded old) (length old) old refl l.word-index l.invariant (omega arith))
