-- `follower::follow_page` meets its contract. Assumes nothing.
use mathlib.Core.Path.{sym, subst, ◌∙◌}
use Prim.Native.Nat.{ℕ, ◌+◌}
use lib.Seq.{length-take-le}
use Rattle.std.proofs.lemmas.Option.{none-some, same_Some}
use Rattle.follower.specs.Progress.{Ran, Printed}
use Rattle.follower.proofs.Printing.{collected_inside, page_printed, page_line_lem}
use Rattle.follower.proofs.follow_page.Goals.{After-follow_message-end}
use Rattle.follower.proofs.follow_page.Goals as goal

-- the message is followed
ran : (c : After-follow_message-end) → Ran c.args.words.now (c.args.s + 1) c.follow_message-end.new.groups c.follow_message-end.result
ran c = c.follow_message-end.ensures

pub slice_bounds-print_heard-end-2 : goal.slice_bounds-print_heard-end-2
slice_bounds-print_heard-end-2 c =
    let a = c.args in
    sym (length-take-le _ _ (collected_inside a.identity a.function a.words.now a.s _ _ (ran (goal.at.slice_bounds-print_heard-end-2 c).After-follow_message-end)))

pub returns-in_default : goal.returns-in_default
returns-in_default c =
    let a = c.args in
    absurd
    (none-some _ (sym c.in_default.is
    ∙ page_printed a.identity a.function a.words.now a.s _ _ (ran (goal.at.returns-in_default c).After-follow_message-end) a.digits.now a.out.now c.requires c.print_heard.ensures.value))

pub returns : goal.returns
returns c =
    let a = c.args in
    let r = ran (goal.at.returns c).After-follow_message-end in
    let e = c.print_heard.ensures in
    let size = same_Some _ _ (sym c.in-Some.is ∙ page_printed a.identity a.function a.words.now a.s _ _ r a.digits.now a.out.now c.requires e.value) in
    subst (λ (b : ℕ). Printed a.identity a.function a.words.now a.s a.out.now c.print_heard.new.out (record { end = c.follow_message-end.result.end; bytes = b }))
    (sym size) (page_line_lem a.identity a.function a.words.now a.s _ _ r a.digits.now a.out.now c.requires e.out_after)
