use mathlib.Core.Path.{◌≡◌, sym, ap, ◌∙◌}
use Prim.Native.Nat.{ℕ, ◌+◌, ◌-◌, ◌*◌}
use native.Mathlib.Omega.{arith}
use lib.ListN.{length, get_or}
use Rattle.base.specs.Hex.{digits_of}
use Rattle.base.specs.Lists.{over}
use Rattle.base.proofs.HexLaws.{digits_length}
use Rattle.reader.proofs.Blocks.{written_none, written_more, written_all, place_length, fives_flat}
use Rattle.reader.proofs.write_groups.Goals as goal

pub loop-i-init : goal.loop-i-init
loop-i-init c =
    let a = c.args in
    written_none (digits_of 5) 5 (digits_length 5) a.digits.now a.groups.now c.requires

pub loop-i-preserved : goal.loop-i-preserved
loop-i-preserved c =
    let l = c.loop-i in
    let a = c.args in
    let gs = a.groups.now in
    let n = 5 * l.i + 5 - 5 * l.i in
    let five : n ≡ 5 = omega arith in
    let block = c.write_digits.ensures ∙ ap (λ (k : ℕ). digits_of k (get_or gs l.i 0)) (place_length (digits_of 5) 5 (digits_length 5) a.digits.now gs l.i l.invariant n five (omega arith) ∙ five) in
    written_more (digits_of 5) 5 (digits_length 5) a.digits.now gs l.i l.invariant n five (omega arith) block

pub shape_of-digits : goal.shape_of-digits
shape_of-digits c = c.loop-i.invariant.size

pub returns : goal.returns
returns c =
    let l = c.loop-i in
    let a = c.args in
    let gs = a.groups.now in
    let done = written_all (digits_of 5) 5 (digits_length 5) a.digits.now gs l.i l.invariant (omega arith) in
    record {
      value = done.0 ∙ ap length (sym (fives_flat gs));
      digits_after = done.1 ∙ ap (over a.digits.now) (sym (fives_flat gs));
    }
