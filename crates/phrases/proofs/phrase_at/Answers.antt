use Prim.Native.Nat.{ℕ, suc, ◌+◌, ◌-◌}
use mathlib.Core.Path.{◌≡◌, sym, ap, ◌∙◌}
use native.Mathlib.Omega.{arith}
use lib.ListN.{drop}
use Rattle.base.specs.Lines.{split}
use Rattle.base.proofs.LinesLaws.{end_after}
use Rattle.phrases.specs.Book.{phrase_at}
use Rattle.phrases.proofs.Phrases.{moved, moved_none, phrase_none, phrase_here, phrase_next, newline_some, newline_none}
use Rattle.phrases.proofs.phrase_at.Goals as goal

pub loop-init : goal.loop-init
loop-init c = (omega arith, moved_none _ ∙ ap (λ (n : ℕ). moved 0 (phrase_at n (split c.args.book.now))) (omega arith))

pub returns-in_err-at : goal.returns-in_err-at
returns-in_err-at c =
    let b = c.args.book.now in
    c.from_residual.ensures
    ∙ sym (c.loop.invariant.1 ∙ phrase_none b c.loop.at _ c.loop.invariant.0 (newline_none b c.loop.at (sym c.in_err-at.was ∙ c.newline.ensures)))

pub loop-preserved : goal.loop-preserved
loop-preserved c =
    let b = c.args.book.now in
    let at = c.loop.at in
    let left = c.args.p - (c.loop.counter + 1) in
    let one : c.args.p - c.loop.counter ≡ suc left = omega arith in
    let end = newline_some b at (sym c.in_ok-at.was ∙ c.newline.ensures) in (
      omega (arith, end),
      c.loop.invariant.1 ∙ ap (λ (x : ℕ). moved at (phrase_at x (split (drop at b)))) one ∙ phrase_next b at left end.0 end.1,
    )

pub returns-in_err-end : goal.returns-in_err-end
returns-in_err-end c =
    let b = c.args.book.now in
    c.from_residual-in_err-end.ensures
    ∙ sym (c.loop.invariant.1 ∙ phrase_none b c.loop.at _ c.loop.invariant.0 (newline_none b c.loop.at (sym c.in_err-end.was ∙ c.newline-2.ensures)))

pub overflow_sub-result : goal.overflow_sub-result
overflow_sub-result c =
    let b = c.args.book.now in
    omega (arith, newline_some b c.loop.at (sym c.in_ok-end.was ∙ c.newline-2.ensures), end_after b c.loop.at)

pub returns : goal.returns
returns c =
    let b = c.args.book.now in
    let end = newline_some b c.loop.at (sym c.in_ok-end.was ∙ c.newline-2.ensures) in
    let none : c.args.p - c.loop.counter ≡ 0 = omega arith in
    sym (c.loop.invariant.1 ∙ rw none (phrase_here b c.loop.at end.0 end.1))
