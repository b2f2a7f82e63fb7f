use mathlib.Core.Path.{◌≡◌, refl, sym, ◌∙◌}
use Prim.Native.Nat.{◌+◌}
use native.Mathlib.Omega.{arith}
use lib.Dec.{ltb}
use borrow.Author.Tests.{lt-ltb, le-ltb}
use lib.ListN.{length}
use Rattle.std.specs.Prelude.{Some}
use Rattle.placement.proofs.Sendable.{sendable_of}
use Rattle.placement.proofs.Steps.{at_start, marks_length, open_slot, goes_on, all_over}
use Rattle.placement.proofs.Skips.{skips_start}
use Rattle.placement.proofs.Head.{Yields, After, framed, pages, slot_few, length_is, few_sent, yields, searched, after_message, after_page, after_nothing}
use Rattle.placement.proofs.run.Goals as goal
use Rattle.placement.proofs.run.Goals.{In-Some, Joined-message, then-message, else-message+in-Some, else-message+in_default}

-- in the arm that names a page, what was found of it
page_at : (c : In-Some) → Yields c.loop-pause.invariant.1 (Some c.in-Some.page)
page_at c = rw c.in-Some.is at (yields c.loop-pause.invariant.1 _ c.first_from-start.ensures)

-- where the arms meet, the slot is done
stepped : (c : Joined-message) → After c.loop-pause.invariant.1 c.if-message.marks c.if-message.next c.if-message.left c.if-message.sent (ltb 0 c.loop-pause.left)
stepped c =
    let h = c.loop-pause.invariant.1 in
    elim c.if-message.branch [
      | then-message w ↦ rw (w.marks-is, w.next-is, w.left-is, w.sent-is, lt-ltb 0 c.loop-pause.left w.if-message.true) (after_message h w.if-message.true)
      | else-message+in-Some w ↦
          let found = yields h _ w.first_from-start.ensures in
          rw (w.marks-is, w.next-is, w.left-is, w.sent-is, le-ltb 0 c.loop-pause.left w.if-message.false)
          (after_page h (omega arith) (rw w.in-Some.is at found) (searched h _ found (rw w.unwrap_or.ensures at w.search_from.ensures)))
      | else-message+in_default w ↦
          let found = yields h _ w.first_from-start.ensures in
          rw (w.marks-is, w.next-is, w.left-is, w.sent-is, le-ltb 0 c.loop-pause.left w.if-message.false)
          (after_nothing h (omega arith) (rw w.in_default.is at found) (searched h _ found (rw w.unwrap_or.ensures at w.search_from.ensures)))
    ]

marks_kept : (c : Joined-message) → length c.if-message.marks ≡ length c.args.marks.now
marks_kept c =
    let h = c.loop-pause.invariant.1 in
    marks_length _ (framed h) (c.loop-pause.slot + 1) c.if-message.marks c.if-message.left c.if-message.sent _ (stepped c).0
    ∙ sym (length_is h) ∙ c.loop-pause.invariant.0

pub loop-pause-init : goal.loop-pause-init
loop-pause-init c = (
  refl,
  record {
    sendable = sendable_of _ _ c.requires.words_value;
    before = rw c.requires.marks_value (at_start _);
    open_yet = λ b h. absurd (omega arith);
    skips = skips_start _ _;
  },
)

pub overflow_add-marks : goal.overflow_add-marks
overflow_add-marks c = omega (arith, slot_few c.loop-pause.invariant.1)

pub offset_bounds-marks-page : goal.offset_bounds-marks-page
offset_bounds-marks-page c = omega (arith, (page_at (goal.at.offset_bounds-marks-page c).In-Some).0, pages c.loop-pause.invariant.1)

pub bounds-marks-page : goal.bounds-marks-page
bounds-marks-page c = omega (arith, (page_at (goal.at.bounds-marks-page c).In-Some).0, length_is c.loop-pause.invariant.1)

pub offset_bounds-words-page : goal.offset_bounds-words-page
offset_bounds-words-page c = omega (arith, (page_at (goal.at.offset_bounds-words-page c).In-Some).0, pages c.loop-pause.invariant.1)

pub bounds-words-page : goal.bounds-words-page
bounds-words-page c = omega (arith, (page_at (goal.at.bounds-words-page c).In-Some).0, c.loop-pause.invariant.1.sendable.paired)

pub overflow_add-sent : goal.overflow_add-sent
overflow_add-sent c = omega (arith, pages c.loop-pause.invariant.1, few_sent c.loop-pause.invariant.1)

pub overflow_add-slot : goal.overflow_add-slot
overflow_add-slot c = omega (arith, slot_few c.loop-pause.invariant.1)

pub loop-pause-smaller : goal.loop-pause-smaller
loop-pause-smaller c = omega (arith, open_slot _ (framed c.loop-pause.invariant.1) c.loop-pause.slot c.loop-pause.invariant.1.open_yet)

pub loop-pause-preserved : goal.loop-pause-preserved
loop-pause-preserved c =
    let h = c.loop-pause.invariant.1 in
    let met = stepped (goal.at.loop-pause-preserved c).Joined-message in (
      marks_kept (goal.at.loop-pause-preserved c).Joined-message,
      record {
        sendable = h.sendable;
        before = met.0;
        open_yet = goes_on _ (framed h) c.loop-pause.slot c.if-message.marks c.if-message.left c.if-message.sent _ met.0 h.open_yet c.at_end.ensures c.if-at_end.false;
        skips = met.1;
      },
    )

pub shape_of-marks : goal.shape_of-marks
shape_of-marks c = marks_kept (goal.at.shape_of-marks c).Joined-message

pub returns : goal.returns
returns c =
    let h = c.loop-pause.invariant.1 in
    let met = stepped (goal.at.returns c).Joined-message in
    let e = all_over _ (framed h) c.loop-pause.slot c.if-message.marks c.if-message.left c.if-message.sent _ met.0 h.open_yet c.at_end.ensures c.if-at_end.true in
    record { value = sym e.0; marks_after = rw e.1 met.0.marked }
