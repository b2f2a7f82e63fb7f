-- `listing::preamble_lines` meets its contract: it counts the pieces that are frame lines. Assumes nothing.
use Rattle.std.proofs.Common.{rules, tests, ◌∙◌, take, length, ◌/◌}
use Rattle.std.specs.Simd.{first_chunks}
use Rattle.std.proofs.lemmas.Iterator.{YieldsList-from_take}
use Rattle.std.proofs.lemmas.Iterator.Consumers.{count_from_yields_List}
use Rattle.std.proofs.lemmas.Iterator.Search.{YieldsList-from_take_while}
use Rattle.std.proofs.lemmas.List.Folds.{length-prefix_len}
use Rattle.listing.proofs.BatchLaws.{is_frame, frames_counted}
use Rattle.listing.proofs.Pieces.{pieces_given}
use Rattle.listing.proofs.preamble_lines.Goals as goal

pub returns : goal.returns
returns c =
    let s = c.args.s.now in
    let lines = take 36 (first_chunks 18 (length s / 18) s) in
    count_from_yields_List c.take_while.result _ c.count.ensures.ran
    (YieldsList-from_take_while _ is_frame (YieldsList-from_take 36 (pieces_given s (cc) (cc)) (cc)) c.take_while.ensures.closure c.take_while.ensures.done (λ x b q k. search (rules, tests)))
    ∙ length-prefix_len is_frame lines
    ∙ frames_counted 36 s
