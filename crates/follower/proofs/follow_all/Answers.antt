use mathlib.Core.Path.{refl, sym, ap, ◌∙◌}
use native.Mathlib.Omega.{arith}
use lib.ListN.{length, length-drop}
use borrow.Author.Rules.{rules}
use Rattle.base.proofs.ListLaws.{to_end}
use Rattle.reader.specs.Reading.{slot_word}
use Rattle.follower.proofs.SlotLaws.{own_frame, own_function}
use Rattle.follower.proofs.Sofar.{sofar_none, sofar_skip, sofar_next, sofar_room, sofar_page, sofar_all}
use Rattle.follower.proofs.follow_all.Goals as goal

pub loop-s-init : goal.loop-s-init
loop-s-init c =
    let a = c.args in
    let f = c.next_in_frame-s.ensures in
    (refl, refl, f.here, sofar_skip a.identity a.words.now a.lines.now 0 0 0 (sofar_none a.identity a.words.now a.lines.now) _ f)

pub loop-s-preserved-in_default : goal.loop-s-preserved-in_default
loop-s-preserved-in_default c =
    let a = c.args in
    let says = own_frame a.identity (slot_word a.words.now) c.loop-s.s c.loop-s.invariant.2 ∙ sym c.own_page.ensures ∙ c.in_default.is in
    let next = sofar_next a.identity a.words.now a.lines.now c.loop-s.count c.loop-s.bytes c.loop-s.s c.loop-s.invariant.3 c.loop-s-test.true says in
    let f = c.next_in_frame-s-in_default.ensures in
    (c.loop-s.invariant.0, c.loop-s.invariant.1, f.here, sofar_skip a.identity a.words.now a.lines.now c.loop-s.count c.loop-s.bytes _ next _ f)

pub follow_page-line-requires : goal.follow_page-line-requires
follow_page-line-requires c =
    let a = c.args in
    let room = sofar_room a.identity a.words.now a.lines.now c.loop-s.count c.loop-s.bytes c.loop-s.s c.loop-s.invariant.3 c.requires.printed in
    let says = own_frame a.identity (slot_word a.words.now) c.loop-s.s c.loop-s.invariant.2 ∙ sym c.own_page.ensures ∙ c.in-Some.is in
    record {
      inside = c.loop-s-test.true;
      function = own_function a.identity (slot_word a.words.now) c.loop-s.s _ says;
      collected = omega (arith, c.requires.collected, c.loop-s.invariant.0);
      written = omega (arith, c.requires.written, c.loop-s.invariant.1);
      printed = omega (arith, room, ap length (to_end c.loop-s.bytes c.loop-s.lines), length-drop c.loop-s.bytes c.loop-s.lines);
    }

pub loop-s-preserved : goal.loop-s-preserved
loop-s-preserved c =
    let a = c.args in
    let says = own_frame a.identity (slot_word a.words.now) c.loop-s.s c.loop-s.invariant.2 ∙ sym c.own_page.ensures ∙ c.in-Some.is in
    let y = c.follow_page-line.ensures in
    let more = sofar_page a.identity a.words.now a.lines.now c.loop-s.count c.loop-s.bytes c.loop-s.s c.loop-s.invariant.3 c.requires.printed c.loop-s-test.true says y in
    let f = c.next_in_frame-s-in-loop-s.ensures in
    (search rules, search rules, f.here, sofar_skip a.identity a.words.now a.lines.now _ _ _ more _ f)

pub returns : goal.returns
returns c =
    let a = c.args in
    sofar_all a.identity a.words.now a.lines.now c.loop-s.count c.loop-s.bytes c.loop-s.s c.loop-s.invariant.3 (omega arith)
