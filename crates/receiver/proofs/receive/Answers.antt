-- `receiver::receive` meets its contract. Assumes nothing.
use mathlib.Core.Path.{◌≡◌, refl, ◌∙◌}
use native.Mathlib.Omega.{arith}
use lib.ListN.{length, take}
use lib.Seq.{length-take-le}
use Rattle.std.proofs.lemmas.Result.{err_from_is_err_and}
use Rattle.base.proofs.ListLaws.{copied, stands_inside, stands_size}
use Rattle.reader.specs.Lines.{lines_heard}
use Rattle.receiver.specs.Answers.{heard_bits}
use Rattle.receiver.proofs.RoomLaws.{bytes_received, still_received, no_room, still_many}
use Rattle.receiver.proofs.receive.Goals.{In_ok-t}
use Rattle.receiver.proofs.receive.Goals as goal

-- its lines stand there
size : (c : In_ok-t) → c.in_ok-t.t.bytes ≡ length (lines_heard (heard_bits c.args.bits.now).pages)
size c = bytes_received c.args.bits.now 48300 c.in_ok-t.ensures.value

stands : (c : In_ok-t) → take c.in_ok-t.t.bytes c.receive_all.new.lines ≡ lines_heard (heard_bits c.args.bits.now).pages
stands c = c.in_ok-t.ensures.lines_after

pub returns-in_err-t-clause-value : goal.returns-in_err-t-clause-value
returns-in_err-t-clause-value c =
    let p = err_from_is_err_and c.from_residual.result c.from_residual.ensures.1 in
    rw (p.1, p.2) (still_many c.args.bits.now 48300 (length c.args.out.now) (omega arith) (omega arith) c.in_err-t.ensures.value)

pub returns-then-out-n : goal.returns-then-out-n
returns-then-out-n c =
    let w = (goal.at.returns-then-out-n c).In_ok-t in
    let a = c.args in
    record {
      value = no_room a.bits.now 48300 w.in_ok-t.ensures.value (length a.out.now) (omega arith);
      out_after = refl;
    }

pub slice_bounds-lines-end : goal.slice_bounds-lines-end
slice_bounds-lines-end c = let w = (goal.at.slice_bounds-lines-end c).In_ok-t in stands_inside _ (size w) (stands w)

pub slice_bounds-copy_from_slice-end-3 : goal.slice_bounds-copy_from_slice-end-3
slice_bounds-copy_from_slice-end-3 c =
    let w = (goal.at.slice_bounds-copy_from_slice-end-3 c).In_ok-t in
    omega (arith, stands_size _ (size w) (stands w), stands_inside _ (size w) (stands w))

pub copy_from_slice-requires : goal.copy_from_slice-requires
copy_from_slice-requires c =
    let w = (goal.at.copy_from_slice-requires c).In_ok-t in
    omega (arith, stands_size _ (size w) (stands w), length-take-le c.in_ok-t.t.bytes c.args.out.now c.if-out-n.false)

pub returns : goal.returns
returns c =
    let w = (goal.at.returns c).In_ok-t in
    let a = c.args in
    record {
      value = still_received a.bits.now 48300 w.in_ok-t.ensures.value (length a.out.now) c.if-out-n.false;
      out_after = copied a.out.now (size w) (c.copy_from_slice.ensures.after ∙ stands w);
    }
