use Prim.Native.Nat.{◌≤◌, ◌<◌}
use mathlib.Core.Path.{◌≡◌, refl, sym, ◌∙◌}
use native.Mathlib.Omega.{arith}
use lib.ListN.{length}
use Rattle.base.specs.Lines.{line_end}
use Rattle.base.proofs.LinesLaws.{end_after}
use Rattle.phrases.specs.Book.{book_fault}
use Rattle.phrases.proofs.Phrases.{no_fault, a_fault, newline_some, newline_none, fault_none, fault_many, fault_unended, fault_line, fault_next}
use Rattle.phrases.proofs.book_fault.Goals.{In-Some, in_default-via-in-Some+else-is_phrase, in_default-via-in_default}
use Rattle.phrases.proofs.book_fault.Goals as goal

-- where the line ends
ended : (c : In-Some) → (c.in-Some.end ≡ line_end c.args.book.now c.loop-k.at) × (c.in-Some.end < length c.args.book.now)
ended c = newline_some _ _ (sym c.in-Some.is ∙ c.newline.ensures)

after : (c : In-Some) → c.loop-k.at ≤ c.in-Some.end
after c = omega (arith, ended c, end_after c.args.book.now c.loop-k.at)

pub loop-k-init : goal.loop-k-init
unfolding book_fault
loop-k-init c = (omega arith, refl)

pub returns-then-book-at : goal.returns-then-book-at
returns-then-book-at c = no_fault _ (c.loop-k.invariant.1 ∙ fault_none _ c.loop-k.at c.loop-k.k c.if-book-at.true)

pub slice_bounds-is_phrase-count : goal.slice_bounds-is_phrase-count
slice_bounds-is_phrase-count c = after (goal.at.slice_bounds-is_phrase-count c).In-Some

pub slice_bounds-is_phrase-start : goal.slice_bounds-is_phrase-start
slice_bounds-is_phrase-start c = omega (arith, after (goal.at.slice_bounds-is_phrase-start c).In-Some)

pub returns-in_default : goal.returns-in_default
returns-in_default c =
    let b = c.args.book.now in
    elim c.in_default.branch [
      | in_default-via-in-Some+else-is_phrase w ↦
          let end = newline_some b c.loop-k.at (sym w.in-Some.is ∙ c.newline.ensures) in
          a_fault b c.loop-k.k (c.loop-k.invariant.1 ∙ fault_line b c.loop-k.at c.loop-k.k end.0 end.1 (sym w.is_phrase.ensures ∙ w.if-is_phrase.false))
      | in_default-via-in_default w ↦
          let end = newline_none b c.loop-k.at (sym w.in_default.is ∙ c.newline.ensures) in
          a_fault b c.loop-k.k (c.loop-k.invariant.1 ∙ fault_unended b c.loop-k.at c.loop-k.k (omega arith) end)
    ]

pub loop-k-preserved : goal.loop-k-preserved
loop-k-preserved c =
    let b = c.args.book.now in
    let end = ended (goal.at.loop-k-preserved c).In-Some in (
      omega arith,
      c.loop-k.invariant.1 ∙ fault_next b c.loop-k.at c.loop-k.k (omega arith) end.0 end.1 (sym c.is_phrase.ensures ∙ c.if-is_phrase.true),
    )

pub returns-then-at-book : goal.returns-then-at-book
returns-then-at-book c = a_fault _ 100 (c.loop-k.invariant.1 ∙ fault_many _ c.loop-k.at c.loop-k.k (omega arith) (omega arith) ∙ omega arith)

pub returns-else-at-book : goal.returns-else-at-book
returns-else-at-book c = no_fault _ (c.loop-k.invariant.1 ∙ fault_none _ c.loop-k.at c.loop-k.k c.if-at-book.false)
