-- `reader::message_end` meets its contract. Assumes nothing.
use mathlib.Core.Bool.{Bool, true, false}
use mathlib.Core.Logic.{⊎_elim}
use mathlib.Core.Path.{◌≡◌, refl, sym, ap, ◌∙◌}
use Prim.Native.Nat.{ℕ, ◌-◌, ◌/◌, ◌≤◌, ◌<◌}
use lib.Dec.{eqb}
use lib.ListN.{length, take, drop}
use Rattle.std.proofs.Common.{rules, tests}
use borrow.Author.Tests.{lt-ltb}
use Rattle.std.proofs.lemmas.Iterator.{YieldsList-from_slice}
use Rattle.std.proofs.lemmas.Iterator.Consumers.{count_from_yields_List}
use Rattle.std.proofs.lemmas.Iterator.Search.{YieldsList-from_take_while}
use Rattle.std.proofs.lemmas.List.Folds.{length-prefix_len}
use Rattle.std.specs.List.{prefix_len}
use Rattle.base.proofs.Bools.{either, true_false}
use Rattle.codeword.specs.Code.{idle}
use Rattle.reader.specs.Symbols.{said, is_message}
use Rattle.reader.proofs.SymbolLaws.{is_lost}
use Rattle.base.proofs.ListLaws.{to_end}
use Rattle.base.proofs.SearchLaws.{le_or_lt}
use Rattle.reader.proofs.Runs.{run_taken}
use Rattle.reader.proofs.message_end.Goals as goal

abbrev speaks : ℕ → Bool
speaks x = is_message (said x)

low : (x : ℕ) → x < 0x100000 → is_message (said x) ≡ false
unfolding said is_message
low x h = ⊎_elim (λ (i : eqb x (idle / 2048) ≡ true). rw (lt-ltb x 0x100000 h, i) refl) (λ (i : eqb x (idle / 2048) ≡ false). rw (lt-ltb x 0x100000 h, i) refl) (either (eqb x (idle / 2048)))

high : (x : ℕ) → 0x200000 ≤ x → is_message (said x) ≡ false
unfolding is_message
high x h = ap is_message (sym (is_lost x h))

passes : (x : ℕ) → speaks x ≡ true → (0x100000 ≤ x) × (x < 0x200000)
passes x e =
    ⊎_elim
    (λ (l : 0x100000 ≤ x). ⊎_elim (λ (h : 0x200000 ≤ x). absurd (true_false e (high x h))) (λ (h : x < 0x200000). (l, h)) (le_or_lt 0x200000 x))
    (λ (l : x < 0x100000). absurd (true_false e (low x l)))
    (le_or_lt 0x100000 x)

pub returns : goal.returns
returns c =
    let s = c.args.s in
    let symbols = c.args.symbols.now in
    let part = take (length symbols - s) (drop s symbols) in
    let n : c.count.result ≡ prefix_len speaks part =
    count_from_yields_List c.take_while.result _ c.count.ensures.ran (YieldsList-from_take_while _ speaks (YieldsList-from_slice part (cc)) c.take_while.ensures.closure c.take_while.ensures.done (λ x b q k. search (rules, tests))) ∙ length-prefix_len speaks part in
    run_taken speaks passes symbols s c.count.result c.requires (n ∙ ap (prefix_len speaks) (to_end s symbols))
