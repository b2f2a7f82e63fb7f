-- `reader::idle_end` meets its contract. Assumes nothing.
use mathlib.Core.Bool.{Bool}
use mathlib.Core.Path.{◌≡◌, ap, ◌∙◌}
use Prim.Native.Nat.{ℕ, ◌-◌}
use lib.Dec.{eqb}
use lib.ListN.{length, take, drop}
use borrow.Author.Tests.{eqb-true}
use Rattle.std.proofs.Common.{rules, tests}
use Rattle.std.proofs.lemmas.Iterator.{YieldsList-from_slice}
use Rattle.std.proofs.lemmas.Iterator.Consumers.{count_from_yields_List}
use Rattle.std.proofs.lemmas.Iterator.Search.{YieldsList-from_take_while}
use Rattle.std.proofs.lemmas.List.Folds.{length-prefix_len}
use Rattle.std.specs.List.{prefix_len}
use Rattle.base.proofs.ListLaws.{to_end}
use Rattle.reader.proofs.Runs.{run_taken}
use Rattle.reader.proofs.idle_end.Goals as goal

abbrev rests : ℕ → Bool
rests x = eqb x 0xF5138

pub returns : goal.returns
returns c =
    let s = c.args.s in
    let symbols = c.args.symbols.now in
    let part = take (length symbols - s) (drop s symbols) in
    let n : c.count.result ≡ prefix_len rests part =
    count_from_yields_List c.take_while.result _ c.count.ensures.ran (YieldsList-from_take_while _ rests (YieldsList-from_slice part (cc)) c.take_while.ensures.closure c.take_while.ensures.done (λ x b q k. search (rules, tests))) ∙ length-prefix_len rests part in
    run_taken rests (λ x e. eqb-true x 0xF5138 e) symbols s c.count.result c.requires (n ∙ ap (prefix_len rests) (to_end s symbols))
