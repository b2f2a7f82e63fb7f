-- `program::send` meets its contract. Assumes nothing.
use mathlib.Core.Path.{◌≡◌, sym, ap, ◌∙◌}
use lib.ListN.{length}
use borrow.Author.Rules.{rules}
use Rattle.base.specs.Lists.{over}
use Rattle.job.specs.Submission.{with_book}
use Rattle.job_listing.specs.Listed as listed
use Rattle.job_listing.specs.Listed.{Listed, listing_text, bytes_listed}
use Rattle.program.specs.Prints.{send_prints}
use Rattle.program.proofs.PrintsLaws.{counted, line_as, send_long, send_written, send_refused}
use Rattle.program.proofs.send.Goals.{After-list_job-answer}
use Rattle.program.proofs.send.Goals as goal

-- what is lent has room for every listing
room : (c : After-list_job-answer) → length c.args.out.now ≡ 46062
room c = search rules

-- what stands there once the listing is asked for
left : (c : After-list_job-answer) {l : Listed} → c.list_job-answer.result ≡ l → c.list_job-answer.new.out ≡ over c.args.out.now (bytes_listed l (listing_text (with_book c.args.input.now c.args.book.now)))
left c e = c.list_job-answer.ensures.out_after ∙ ap (λ (r : Listed). over c.args.out.now (bytes_listed r (listing_text (with_book c.args.input.now c.args.book.now)))) e

pub returns-then-is_long : goal.returns-then-is_long
returns-then-is_long c =
    let submitted = with_book c.args.input.now c.args.book.now in
    let whole = counted c.args.out.now (send_prints submitted) (send_long submitted c.args.out.now (sym c.is_long.ensures ∙ c.if-is_long.true) (c.write_refusal.ensures.value, c.write_refusal.ensures.out_after)) in record { value = whole.0; out_after = whole.1.0; prefix_len = whole.1.1 }

pub returns-in-Ok : goal.returns-in-Ok
returns-in-Ok c =
    let submitted = with_book c.args.input.now c.args.book.now in
    let told = sym c.in-Ok.is in
    let whole = counted c.args.out.now (send_prints submitted)
    (send_written submitted c.args.out.now (sym c.is_long.ensures ∙ c.if-is_long.false) _ (room (goal.at.returns-in-Ok c).After-list_job-answer) (told ∙ c.list_job-answer.ensures.value) (left (goal.at.returns-in-Ok c).After-list_job-answer (sym told))) in record { value = whole.0; out_after = whole.1.0; prefix_len = whole.1.1 }

pub returns-in-Err : goal.returns-in-Err
returns-in-Err c =
    let submitted = with_book c.args.input.now c.args.book.now in
    let told = sym c.in-Err.is in
    let whole = counted c.args.out.now (send_prints submitted)
    (send_refused submitted c.args.out.now (sym c.is_long.ensures ∙ c.if-is_long.false) _ _ (room (goal.at.returns-in-Err c).After-list_job-answer) (told ∙ c.list_job-answer.ensures.value)
    (line_as c.args.out.now _ _ _ (c.number-number.ensures ∙ ap listed.number_of (sym told)) (c.place-place.ensures ∙ ap listed.place_of (sym told)) (c.position-position.ensures ∙ ap listed.position_of (sym told)) (left (goal.at.returns-in-Err c).After-list_job-answer (sym told)) (c.write_refusal-in-Err.ensures.value, c.write_refusal-in-Err.ensures.out_after))) in record { value = whole.0; out_after = whole.1.0; prefix_len = whole.1.1 }
