-- `program::cover` meets its contract. Assumes nothing.
use mathlib.Core.Path.{refl, sym, ap, ◌∙◌}
use Rattle.coverage.specs.Report as covering
use Rattle.program.specs.Prints.{cover_prints}
use Rattle.program.proofs.PrintsLaws.{counted, line_as, cover_whole, cover_declined}
use Rattle.program.proofs.cover.Goals as goal

pub returns-in-Ok : goal.returns-in-Ok
returns-in-Ok c =
    let a = c.args in
    let whole = counted a.out.now (cover_prints a.answer a.coverage)
    (cover_whole a.answer a.coverage a.out.now _ (sym c.in-Ok.is) (c.write_coverage.ensures.value, c.write_coverage.ensures.out_after)) in record { value = whole.0; out_after = whole.1.0; prefix_len = whole.1.1 }

pub returns-in-Err : goal.returns-in-Err
returns-in-Err c =
    let a = c.args in
    let told = sym c.in-Err.is in
    let whole = counted a.out.now (cover_prints a.answer a.coverage)
    (cover_declined a.answer a.coverage a.out.now _ told
    (line_as a.out.now _ _ _ (c.number-number.ensures ∙ ap covering.number_of (sym told)) (c.place-place.ensures ∙ ap covering.place_of (sym told)) refl refl (c.write_refusal.ensures.value, c.write_refusal.ensures.out_after))) in record { value = whole.0; out_after = whole.1.0; prefix_len = whole.1.1 }
