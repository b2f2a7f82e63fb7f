use mathlib.Core.Path.{sym, ◌∙◌}
use Prim.Native.Nat.{◌*◌}
use native.Mathlib.Omega.{arith}
use lib.ListN.{length-set}
use Rattle.text.specs.declared.Coding.TheVariants.{Alphanumeric}
use Rattle.text.proofs.PairLaws.{written_none, written_more, written_all}
use Rattle.text.proofs.HeardLaws.{alphanumeric_length, end_more, end_stop, end_none}
use Rattle.text.proofs.CharLaws.{window_none, front_inside, front_ends, front_high, front_low, front_next}
use Rattle.text.proofs.write_alphanumeric.Goals as goal

pub loop-b-init : goal.loop-b-init
loop-b-init c =
    let a = c.args in
    (window_none a.groups.now, written_none Alphanumeric a.groups.now a.digits.now, omega arith)

pub shape_of-digits-then-b-lt7 : goal.shape_of-digits-then-b-lt7
shape_of-digits-then-b-lt7 c = c.loop-b.invariant.1.size

pub returns-then-b-lt7 : goal.returns-then-b-lt7
returns-then-b-lt7 c =
    let gs = c.args.groups.now in
    let l = c.loop-b in
    let m = c.more-b.ensures (7 * l.i) l.invariant.0 in
    let w = m.0 in
    let all = m.1 c.if-b-lt7.true in
    let whole = written_all Alphanumeric gs c.args.digits.now l.i l.invariant.1
    (omega (arith, alphanumeric_length gs, end_none gs l.i (omega (arith, w.up, w.inside)), l.invariant.2)) in record { value = whole.0; digits_after = whole.1 }

pub overflow_shr-bits : goal.overflow_shr-bits
overflow_shr-bits c = let l = c.loop-b in omega (arith, (c.more-b.ensures (7 * l.i) l.invariant.0).0.few)

pub shape_of-digits-then-ends_text : goal.shape_of-digits-then-ends_text
shape_of-digits-then-ends_text c = c.loop-b.invariant.1.size

pub returns-then-ends_text : goal.returns-then-ends_text
returns-then-ends_text c =
    let gs = c.args.groups.now in
    let l = c.loop-b in
    let r = c.more-b.result in
    let w = (c.more-b.ensures (7 * l.i) l.invariant.0).0 in
    let h = c.if-b-lt7.false in
    let stop = end_stop gs l.i (front_inside gs l.i r w h) (sym (front_ends gs l.i r w h) ∙ sym c.ends_text.ensures ∙ c.if-ends_text.true) in
    let whole = written_all Alphanumeric gs c.args.digits.now l.i l.invariant.1 (omega (arith, alphanumeric_length gs, stop, l.invariant.2)) in record { value = whole.0; digits_after = whole.1 }

pub bounds-digits-i : goal.bounds-digits-i
bounds-digits-i c =
    let l = c.loop-b in
    let w = (c.more-b.ensures (7 * l.i) l.invariant.0).0 in
    omega (arith, c.requires, w.up, w.inside, l.invariant.1.size)

pub bounds-digits-i-in-loop-b : goal.bounds-digits-i-in-loop-b
bounds-digits-i-in-loop-b c =
    let l = c.loop-b in
    let w = (c.more-b.ensures (7 * l.i) l.invariant.0).0 in
    omega (arith, c.requires, w.up, w.inside, l.invariant.1.size, length-set l.digits (2 * l.i) c.bits_digit.result)

pub loop-b-smaller : goal.loop-b-smaller
loop-b-smaller c =
    let l = c.loop-b in
    let w = (c.more-b.ensures (7 * l.i) l.invariant.0).0 in
    omega (arith, w.up, w.inside)

pub loop-b-preserved : goal.loop-b-preserved
loop-b-preserved c =
    let a = c.args in
    let gs = a.groups.now in
    let l = c.loop-b in
    let r = c.more-b.result in
    let w = (c.more-b.ensures (7 * l.i) l.invariant.0).0 in
    let h = c.if-b-lt7.false in
    let inside = front_inside gs l.i r w h in
    let more = end_more gs l.i inside (sym (front_ends gs l.i r w h) ∙ sym c.ends_text.ensures ∙ c.if-ends_text.false) in (
      front_next gs l.i r w h,
      written_more Alphanumeric gs a.digits.now l.i l.invariant.1 inside (omega (arith, c.requires, w.up, w.inside))
          (c.bits_digit.ensures ∙ front_high gs l.i r w h) (c.bits_digit-in-loop-b.ensures ∙ front_low gs l.i r w h),
      omega (arith, l.invariant.2),
    )
