-- `text::char_run` meets its contract: it counts the pieces of two bytes that are pairs. Assumes nothing.
use Rattle.std.proofs.Common.{rules, tests, arith, ◌≡◌, ◌∙◌, length, ◌/◌}
use Rattle.std.specs.Simd.{first_chunks}
use Rattle.std.proofs.lemmas.Iterator.Consumers.{count_from_yields_List}
use Rattle.std.proofs.lemmas.Iterator.Search.{YieldsList-from_take_while}
use Rattle.std.proofs.lemmas.List.Folds.{length-prefix_len}
use Rattle.base.specs.Hex.{is_hex}
use Rattle.base.proofs.LeadingLaws.{leading_le}
use Rattle.text.specs.Coding.{char_run}
use Rattle.text.proofs.RunLaws.{is_one, run_digits, run_pairs, pairs_given}
use Rattle.text.proofs.char_run.Goals as goal

pub returns : goal.returns
returns c =
    let s = c.args.text.now in
    let one = is_one c.args.c in
    let run : c.count.result ≡ char_run c.args.c s =
    count_from_yields_List c.take_while.result _ c.count.ensures.ran
    (YieldsList-from_take_while _ one (pairs_given s (cc) (cc)) c.take_while.ensures.closure c.take_while.ensures.done (λ x b q k. search (rules, tests)))
    ∙ length-prefix_len one (first_chunks 2 (length s / 2) s)
    ∙ run_pairs c.args.c s in
    omega (arith, run, run_digits c.args.c s, leading_le is_hex s)
