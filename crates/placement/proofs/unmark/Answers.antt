use Rattle.std.proofs.Common.{◌≡◌, pred, get_or, arith}
use Rattle.std.proofs.lemmas.List.{get_or_default}
use Rattle.std.proofs.lemmas.List.Edits.{map_over_more}
use Rattle.placement.proofs.unmark.Goals as goal

pub loop-mark-preserved : goal.loop-mark-preserved
loop-mark-preserved c =
    let i = c.loop-mark.mark-index in
    let marks = c.loop-mark.marks in
    let one_less : c.saturating_sub.result ≡ pred (get_or marks i 0) = omega arith in
    rw one_less (map_over_more pred c.args.marks.now marks i (get_or marks i 0) (omega arith) c.loop-mark.invariant (get_or_default marks i 0 _ (omega arith)))
