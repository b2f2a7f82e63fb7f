-- `program::read` meets its contract. Assumes nothing.
use mathlib.Core.Path.{◌≡◌, refl, sym, ap, ◌∙◌}
use lib.ListN.{length}
use borrow.Author.Rules.{rules}
use Rattle.base.specs.Lists.{over}
use Rattle.listing.specs.Words.{words_of}
use Rattle.reader.specs.Answers.{Reading, lines_read, number_of, place_of}
use Rattle.program.specs.Prints.{read_prints}
use Rattle.program.proofs.PrintsLaws.{counted, line_as, read_long, read_whole, read_declined}
use Rattle.program.proofs.read.Goals.{After-read_listing-answer}
use Rattle.program.proofs.read.Goals as goal

-- what is lent has room for all lines
room : (c : After-read_listing-answer) → length c.args.out.now ≡ 48000
room c = search rules

-- what stands there once the listing is read
left : (c : After-read_listing-answer) {r : Reading} → c.read_listing-answer.result ≡ r → c.read_listing-answer.new.out ≡ over c.args.out.now (lines_read r (words_of c.args.input.now))
left c e = c.read_listing-answer.ensures.out_after ∙ ap (λ (r : Reading). over c.args.out.now (lines_read r (words_of c.args.input.now))) e

pub returns-then-is_long : goal.returns-then-is_long
returns-then-is_long c =
    let a = c.args in
    let whole = counted a.out.now (read_prints a.input.now) (read_long a.input.now a.out.now (sym c.is_long.ensures ∙ c.if-is_long.true) (c.write_refusal.ensures.value, c.write_refusal.ensures.out_after)) in record { value = whole.0; out_after = whole.1.0; prefix_len = whole.1.1 }

pub returns-in-Ok : goal.returns-in-Ok
returns-in-Ok c =
    let a = c.args in
    let told = sym c.in-Ok.is in
    let whole = counted a.out.now (read_prints a.input.now)
    (read_whole a.input.now a.out.now (sym c.is_long.ensures ∙ c.if-is_long.false) _ (room (goal.at.returns-in-Ok c).After-read_listing-answer) (told ∙ c.read_listing-answer.ensures.value) (left (goal.at.returns-in-Ok c).After-read_listing-answer (sym told))) in record { value = whole.0; out_after = whole.1.0; prefix_len = whole.1.1 }

pub returns-in-Err : goal.returns-in-Err
returns-in-Err c =
    let a = c.args in
    let told = sym c.in-Err.is in
    let whole = counted a.out.now (read_prints a.input.now)
    (read_declined a.input.now a.out.now (sym c.is_long.ensures ∙ c.if-is_long.false) _ _ (room (goal.at.returns-in-Err c).After-read_listing-answer) (told ∙ c.read_listing-answer.ensures.value)
    (line_as a.out.now _ _ _ (c.number-number.ensures ∙ ap number_of (sym told)) (c.place-place.ensures ∙ ap place_of (sym told)) refl (left (goal.at.returns-in-Err c).After-read_listing-answer (sym told)) (c.write_refusal-in-Err.ensures.value, c.write_refusal-in-Err.ensures.out_after))) in record { value = whole.0; out_after = whole.1.0; prefix_len = whole.1.1 }
