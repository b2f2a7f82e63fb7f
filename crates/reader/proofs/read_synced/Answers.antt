-- `reader::read_synced` meets its contract: the symbols stand at the front of their room. Assumes nothing.
use mathlib.Core.Path.{◌≡◌, sym, ap, subst, ◌∙◌}
use mathlib.Core.List.{List, ◌++◌}
use Prim.Native.Nat.{ℕ, ◌*◌, ◌/◌, ◌≤◌}
use native.Mathlib.Omega.{arith}
use lib.ListN.{length, take, drop}
use lib.Seq.{length-take-le, take_at}
use Rattle.base.specs.Lists.{over}
use Rattle.reader.specs.Changed.{slots_changed}
use Rattle.reader.specs.Reading.{Heard, slot_word, changes_in, heard_stretch}
use Rattle.reader.specs.Answers.{printed_into, lines_of}
use Rattle.reader.specs.Symbols.{Tells, heard_by}
use Rattle.reader.specs.declared.Changes.{Changes}
use Rattle.reader.proofs.AnswerLaws.{heard_same}
use Rattle.reader.proofs.read_synced.Goals.{After-read_slots}
use Rattle.reader.proofs.read_synced.Goals as goal

-- the number of slots
abbrev slots : List ℕ → ℕ
slots words = 16 * (length words / 17)

-- ---- the part of the room that is lent

part_length : (words symbols : List ℕ) → slots words ≤ length symbols → length (take (slots words) symbols) ≡ slots words
part_length words symbols h = length-take-le (slots words) symbols h

-- ---- what was read into it

abbrev symbols : After-read_slots → List ℕ
symbols c = c.read_slots.new.symbols

tells : (c : After-read_slots) → Tells c.args.words.now (slots c.args.words.now) (symbols c)
tells c = subst (λ (n : ℕ). Tells c.args.words.now n (symbols c)) (part_length c.args.words.now c.args.symbols.now c.requires.slots) c.read_slots.ensures.tells

counted : (c : After-read_slots) → c.read_slots.result ≡ slots_changed (slot_word c.args.words.now) (slots c.args.words.now)
counted c = c.read_slots.ensures.value ∙ ap (slots_changed (slot_word c.args.words.now)) (part_length c.args.words.now c.args.symbols.now c.requires.slots)

-- the part that is lent on is the same
abbrev behind : After-read_slots → List ℕ
behind c = drop (slots c.args.words.now) c.args.symbols.now

part_is : (c : After-read_slots) → take (slots c.args.words.now) (symbols c ++ behind c) ≡ symbols c
part_is c = take_at (symbols c) (behind c) (slots c.args.words.now) (tells c).count

lent_length : (c : After-read_slots) → length (take (slots c.args.words.now) (symbols c ++ behind c)) ≡ slots c.args.words.now
lent_length c = ap length (part_is c) ∙ (tells c).count

-- ---- the goals

pub slice_bounds-read_slots-end-2 : goal.slice_bounds-read_slots-end-2
slice_bounds-read_slots-end-2 c = sym (part_length c.args.words.now c.args.symbols.now c.requires.slots)

pub read_slots-requires : goal.read_slots-requires
read_slots-requires c =
    let part = part_length c.args.words.now c.args.symbols.now c.requires.slots in
    record {
      symbols_len_bound = omega (arith, part);
      symbols_len_bound_2 = omega (arith, part, c.requires.few);
    }

pub slice_bounds-read_into-end-2 : goal.slice_bounds-read_into-end-2
slice_bounds-read_into-end-2 c = sym (lent_length (goal.at.slice_bounds-read_into-end-2 c).After-read_slots)

pub read_into-requires : goal.read_into-requires
read_into-requires c =
    let lent = lent_length (goal.at.read_into-requires c).After-read_slots in
    record {
      slots = omega (arith, lent, c.requires.few);
      room = omega (arith, lent, c.requires.room);
      space = omega (arith, lent, c.requires.space);
    }

pub returns : goal.returns
returns c =
    let r = (goal.at.returns c).After-read_slots in
    let a = c.args in
    let words = a.words.now in
    let answer = c.read_into in
    let syncs = c.syncs_changed in
    let changed : Changes = record { slots = c.read_slots.result; syncs = syncs.result } in
    let all : changed ≡ changes_in words = λ i. record { slots = counted r i; syncs = syncs.ensures i } in
    let heard : heard_by a.cut (take (slots words) (symbols r ++ behind r)) changed ≡ heard_stretch a.cut words =
    ap (λ (l : List ℕ). heard_by a.cut l changed) (part_is r) ∙ heard_same words a.cut (symbols r) changed (tells r) all
    in
    record {
      value = answer.ensures.value ∙ ap (λ (h : Heard). printed_into h (length a.out.now)) heard;
      out_after = answer.ensures.out_after ∙ ap (λ (h : Heard). over a.out.now (lines_of answer.result h)) heard;
    }
