use mathlib.Core.Path.{◌≡◌, sym, ap, subst, ◌∙◌}
use mathlib.Core.List.{List}
use Prim.Native.Nat.{ℕ, ◌+◌, ◌*◌, ◌/◌, ◌<◌}
use native.Mathlib.Omega.{arith}
use lib.ListN.{length}
use Rattle.base.specs.Lists.{tab}
use Rattle.placement.specs.Placement.{frame_of}
use Rattle.reader.specs.Reading.{read_at, slot_word}
use Rattle.coverage.specs.Tally.{tally, slot_place}
use Rattle.coverage.specs.Progress.{UpTo}
use Rattle.coverage.specs.declared.SlotWord.{SlotWord}
use Rattle.coverage.proofs.TallyLaws.{tally_length, counted_none, counted_few, counted_next}
use Rattle.coverage.proofs.SlotLaws.{slot_place_lem}
use Rattle.coverage.proofs.PageLaws.{Paged, paged_none, paged_held, paged_few, paged_next, paged_end}
use Rattle.coverage.proofs.count_slots.Goals.{After-read_slot-w}
use Rattle.coverage.proofs.count_slots.Goals as goal

module _ (c : After-read_slot-w) where
  abbrev lent : List ℕ
  lent = c.args.words.now

  -- the place of this slot's word
  abbrev at : ℕ
  at = 4 * frame_of c.loop-s.s + c.read_slot-w.result.class

  placed : at ≡ slot_place lent c.loop-s.s
  placed = ap (λ (x : SlotWord). 4 * frame_of c.loop-s.s + x.class) c.read_slot-w.ensures

  inside : at < 32
  inside = omega (arith, placed, slot_place_lem lent c.loop-s.s)

  counted : UpTo 32 c.loop-s.s c.loop-s.frames
  counted = counted_few 32 (slot_place lent) c.loop-s.s c.loop-s.invariant.1

pub loop-s-init : goal.loop-s-init
loop-s-init c =
    let words = c.args.words.now in
    (omega arith, counted_none 32 (slot_place words) c.requires.frames_value.0, paged_none (slot_word words) c.requires.frames_value.1)

pub overflow_cast-at : goal.overflow_cast-at
overflow_cast-at c = omega (arith, inside (goal.at.overflow_cast-at c).After-read_slot-w)

pub overflow_add-at : goal.overflow_add-at
overflow_add-at c = omega (arith, inside (goal.at.overflow_add-at c).After-read_slot-w)

pub offset_bounds-frames-at : goal.offset_bounds-frames-at
offset_bounds-frames-at c = omega (arith, inside (goal.at.offset_bounds-frames-at c).After-read_slot-w)

pub bounds-frames-at : goal.bounds-frames-at
bounds-frames-at c = omega (arith, inside (goal.at.bounds-frames-at c).After-read_slot-w, (counted (goal.at.bounds-frames-at c).After-read_slot-w).size)

pub overflow_add-frames : goal.overflow_add-frames
overflow_add-frames c = omega (arith, (counted (goal.at.overflow_add-frames c).After-read_slot-w).each (at (goal.at.overflow_add-frames c).After-read_slot-w))

pub bounds-frames-at-in-loop-s : goal.bounds-frames-at-in-loop-s
bounds-frames-at-in-loop-s c = omega (arith, inside (goal.at.bounds-frames-at-in-loop-s c).After-read_slot-w, (counted (goal.at.bounds-frames-at-in-loop-s c).After-read_slot-w).size)

pub hear-held-requires : goal.hear-held-requires
hear-held-requires c =
    let l = c.loop-s in
    let word = slot_word (lent (goal.at.hear-held-requires c).After-read_slot-w) in
    record {
      held_bound = paged_held (read_at word l.s) l.held l.invariant.2;
      up_to = paged_few word l.s l.held l.invariant.2 (omega arith);
    }

pub loop-s-preserved : goal.loop-s-preserved
loop-s-preserved c =
    let l = c.loop-s in (
      omega arith,
      counted_next 32 (slot_place (lent (goal.at.loop-s-preserved c).After-read_slot-w)) l.s l.invariant.1 (placed (goal.at.loop-s-preserved c).After-read_slot-w) (slot_place_lem (lent (goal.at.loop-s-preserved c).After-read_slot-w) l.s),
      paged_next (slot_word (lent (goal.at.loop-s-preserved c).After-read_slot-w)) l.s l.held l.invariant.2 c.read_slot-w.result.says (ap (λ (x : SlotWord). x.says) c.read_slot-w.ensures) c.hear-held.ensures.value c.hear-held.ensures.pages_after,
    )

pub close-requires : goal.close-requires
close-requires c =
    let word = slot_word c.args.words.now in
    record {
      held_bound = paged_held (read_at word c.loop-s.s) c.loop-s.held c.loop-s.invariant.2;
      up_to = paged_few word c.loop-s.s c.loop-s.held c.loop-s.invariant.2 (omega arith);
    }

pub returns : goal.returns
returns c =
    let words = c.args.words.now in
    let all : c.loop-s.s ≡ 16 * (length words / 17) = omega arith in
    let paged = subst (λ (n : ℕ). Paged (read_at (slot_word words) n) c.loop-s.held c.loop-s.pages) all c.loop-s.invariant.2 in
    record {
      frames_after = c.loop-s.invariant.1 ∙ ap (λ (n : ℕ). tally 32 (tab (slot_place words) n)) all;
      pages_after = paged_end words c.loop-s.held paged c.close.ensures;
    }

pub shape_of-frames : goal.shape_of-frames
shape_of-frames c = ap length (returns c).frames_after ∙ tally_length 32 _ ∙ sym (ap length c.requires.frames_value.0)

pub shape_of-pages : goal.shape_of-pages
shape_of-pages c = ap length (returns c).pages_after ∙ tally_length 16 _ ∙ sym (ap length c.requires.frames_value.1)
