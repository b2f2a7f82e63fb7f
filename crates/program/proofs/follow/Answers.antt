-- `program::follow` meets its contract. Assumes nothing.
use mathlib.Core.Path.{◌≡◌, refl, sym, ap, ◌∙◌}
use lib.ListN.{length}
use borrow.Author.Rules.{rules}
use Rattle.base.specs.Lists.{over}
use Rattle.listing.specs.Words.{words_of}
use Rattle.follower.specs.Pages.{pages_for}
use Rattle.follower.specs.Answers.{lines_of, number_of, place_of}
use Rattle.std.specs.declared.result.Result.{Result}
use Rattle.follower.specs.declared.Followed.{Followed}
use Rattle.follower.specs.declared.FollowError.{FollowError}
use Rattle.program.specs.Prints.{follow_prints}
use Rattle.program.proofs.PrintsLaws.{counted, line_as, follow_long, follow_whole, follow_declined}
use Rattle.program.proofs.follow.Goals.{After-follow_listing-answer}
use Rattle.program.proofs.follow.Goals as goal

-- what is lent has room for all lines
room : (c : After-follow_listing-answer) → length c.args.out.now ≡ 48000
room c = search rules

-- what stands there once the identity is followed
left : (c : After-follow_listing-answer) {r : Result Followed FollowError} → c.follow_listing-answer.result ≡ r →
    let a = c.args in
    c.follow_listing-answer.new.out ≡ over a.out.now (lines_of r (pages_for a.identity (words_of a.input.now)))
left c e =
    let a = c.args in
    c.follow_listing-answer.ensures.out_after ∙ ap (λ (r : Result Followed FollowError). over a.out.now (lines_of r (pages_for a.identity (words_of a.input.now)))) e

pub returns-then-is_long : goal.returns-then-is_long
returns-then-is_long c =
    let a = c.args in
    let whole = counted a.out.now (follow_prints a.identity a.input.now)
    (follow_long a.identity a.input.now a.out.now (sym c.is_long.ensures ∙ c.if-is_long.true) (c.write_refusal.ensures.value, c.write_refusal.ensures.out_after)) in record { value = whole.0; out_after = whole.1.0; prefix_len = whole.1.1 }

pub returns-in-Ok : goal.returns-in-Ok
returns-in-Ok c =
    let a = c.args in
    let told = sym c.in-Ok.is in
    let whole = counted a.out.now (follow_prints a.identity a.input.now)
    (follow_whole a.identity a.input.now a.out.now (sym c.is_long.ensures ∙ c.if-is_long.false) _ (room (goal.at.returns-in-Ok c).After-follow_listing-answer) (told ∙ c.follow_listing-answer.ensures.value) (left (goal.at.returns-in-Ok c).After-follow_listing-answer (sym told))) in record { value = whole.0; out_after = whole.1.0; prefix_len = whole.1.1 }

pub returns-in-Err : goal.returns-in-Err
returns-in-Err c =
    let a = c.args in
    let told = sym c.in-Err.is in
    let whole = counted a.out.now (follow_prints a.identity a.input.now)
    (follow_declined a.identity a.input.now a.out.now (sym c.is_long.ensures ∙ c.if-is_long.false) _ _ (room (goal.at.returns-in-Err c).After-follow_listing-answer) (told ∙ c.follow_listing-answer.ensures.value)
    (line_as a.out.now _ _ _ (c.number-number.ensures ∙ ap number_of (sym told)) (c.place-place.ensures ∙ ap place_of (sym told)) refl (left (goal.at.returns-in-Err c).After-follow_listing-answer (sym told)) (c.write_refusal-in-Err.ensures.value, c.write_refusal-in-Err.ensures.out_after))) in record { value = whole.0; out_after = whole.1.0; prefix_len = whole.1.1 }
