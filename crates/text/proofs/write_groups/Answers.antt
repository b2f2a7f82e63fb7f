use mathlib.Core.Path.{refl}
use native.Mathlib.Omega.{arith}
use Prim.Native.Nat.{◌+◌, ◌-◌, ◌*◌}
use lib.ListN.{length}
use lib.Pow.{pow_pos}
use Rattle.base.specs.Hex.{bytes_of}
use Rattle.base.proofs.ListLaws.{tab_turn, tab_full}
use Rattle.text.specs.Coding.{group_of}
use Rattle.text.proofs.GroupLaws.{group_small}
use Rattle.text.proofs.PackLaws.{next_near, waiting_none, waiting_small, waiting_group, waiting_rest, one_shifted}
use Rattle.text.proofs.write_groups.Goals as goal

pub loop-group-init : goal.loop-group-init
loop-group-init c = let a = c.args in (omega arith, waiting_none a.c (bytes_of a.text.now), refl)

pub refill-b-requires : goal.refill-b-requires
refill-b-requires c =
    let a = c.args in
    let l = c.loop-group in
    record {
      few = l.invariant.0;
      fits = waiting_small a.c (bytes_of a.text.now) (20 * l.group-index) l.b.window l.b.have l.b.next l.invariant.1;
      near = omega (arith, next_near a.c (20 * l.group-index + l.b.have) l.b.next l.invariant.1.seam);
    }

pub overflow_sub-rest : goal.overflow_sub-rest
overflow_sub-rest c = c.refill-b.ensures.enough

pub overflow_shr-group : goal.overflow_shr-group
overflow_shr-group c = omega (arith, c.refill-b.ensures.few)

pub overflow_cast-group : goal.overflow_cast-group
overflow_cast-group c =
    let a = c.args in
    let l = c.loop-group in
    let r = c.refill-b in
    let bytes = bytes_of a.text.now in
    rw (waiting_group a.c bytes l.group-index r.result.window r.result.have r.result.next r.ensures.enough (r.ensures.same (20 * l.group-index) l.invariant.1))
    (omega (arith, group_small a.c bytes l.group-index))

pub overflow_shl-b : goal.overflow_shl-b
overflow_shl-b c = omega (arith, c.refill-b.ensures.few)

pub nonzero_rem-b : goal.nonzero_rem-b
nonzero_rem-b c = let n = c.refill-b.result.have - 20 in rw (one_shifted n (omega (arith, c.refill-b.ensures.few))) (pow_pos n)

pub loop-group-preserved : goal.loop-group-preserved
loop-group-preserved c =
    let a = c.args in
    let l = c.loop-group in
    let r = c.refill-b in
    let bytes = bytes_of a.text.now in
    let w = r.ensures.same (20 * l.group-index) l.invariant.1 in
    let old = a.groups.now in (
      omega (arith, r.ensures.few),
      rw (one_shifted (r.result.have - 20) (omega (arith, r.ensures.few))) (waiting_rest a.c bytes l.group-index r.result.window r.result.have r.result.next r.ensures.enough w),
      tab_turn (group_of a.c bytes) (length old) old refl l.group-index l.invariant.2 (omega arith)
          (waiting_group a.c bytes l.group-index r.result.window r.result.have r.result.next r.ensures.enough w),
    )

pub returns : goal.returns
returns c =
    let a = c.args in
    let l = c.loop-group in
    tab_full (group_of a.c (bytes_of a.text.now)) (length a.groups.now) a.groups.now refl l.group-index l.invariant.2 (omega arith)
