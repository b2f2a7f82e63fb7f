use mathlib.Core.Path.{◌∙◌}
use native.Mathlib.Omega.{arith}
use Prim.Native.Nat.{◌+◌}
use lib.ListN.{get_or}
use lib.Pow.{pow_mono}
use Rattle.base.specs.Hex.{bytes_of}
use Rattle.text.specs.Coding.{width_of, fill_of, value_of}
use Rattle.text.proofs.WidthLaws.{width_pos, width_small}
use Rattle.text.proofs.PackLaws.{shifted, appended, waiting_more}
use Rattle.text.proofs.refill.Goals as goal

pub loop-b-init : goal.loop-b-init
loop-b-init c = (omega arith, c.requires.fits, omega arith, λ at h. h)

pub overflow_shl-b : goal.overflow_shl-b
overflow_shl-b c = rw c.width-w.ensures (omega (arith, width_small c.args.c))

pub overflow_add-b : goal.overflow_add-b
overflow_add-b c =
    let a = c.args in
    let l = c.loop-b in
    let w = width_of a.c in
    let v = value_of a.c (get_or (bytes_of a.text.now) l.b.next (fill_of a.c)) in
    let h = c.loop-b-test.true in
    rw (c.from.ensures, c.char_bits.ensures, c.width-w.ensures, shifted a.c l.b.window l.b.have h l.invariant.1)
    (omega (arith, appended a.c l.b.window l.b.have h l.invariant.1 v, width_small a.c, pow_mono {i = l.b.have + w} {j = 26} (omega (arith, width_small a.c))))

pub overflow_add-b-in-loop-b : goal.overflow_add-b-in-loop-b
overflow_add-b-in-loop-b c = rw c.width-w.ensures (omega (arith, width_small c.args.c))

pub loop-b-smaller : goal.loop-b-smaller
loop-b-smaller c = rw c.width-w.ensures (omega (arith, width_pos c.args.c))

pub loop-b-preserved : goal.loop-b-preserved
loop-b-preserved c =
    let a = c.args in
    let l = c.loop-b in
    let bytes = bytes_of a.text.now in
    let v = value_of a.c (get_or bytes l.b.next (fill_of a.c)) in
    let h = c.loop-b-test.true in
    rw (c.width-w.ensures, shifted a.c l.b.window l.b.have h l.invariant.1) (
      omega (arith, width_small a.c),
      rw (c.from.ensures, c.char_bits.ensures) (appended a.c l.b.window l.b.have h l.invariant.1 v),
      omega (arith, width_pos a.c),
      λ at x. waiting_more a.c bytes at l.b.window l.b.have l.b.next (l.invariant.3 at x) (c.from.ensures ∙ c.char_bits.ensures),
    )

pub returns : goal.returns
returns c = let l = c.loop-b in record { enough = omega arith; few = l.invariant.0; same = l.invariant.3 }
