-- `job::print_line` meets its contract. Assumes nothing.
use mathlib.Core.Path.{◌≡◌, refl, sym, ap, ◌∙◌}
use mathlib.Core.List.{◌++◌}
use Prim.Native.Nat.{◌+◌}
use native.Mathlib.Omega.{arith}
use lib.ListN.{length, length-append}
use lib.Seq.{take_all}
use borrow.Author.Tests.{lt-ltb, le-ltb}
use Rattle.std.specs.Prelude.{Some}
use Rattle.base.specs.Lists.{over}
use Rattle.base.proofs.ListLaws.{over_behind, over_length}
use Rattle.job.specs.Print.{head_of, spaced, ending, printed}
use Rattle.job.proofs.PrintLaws.{spaced_few, ending_few, head_length, printed_length, whole}
use Rattle.job.proofs.print_line.Goals as goal

pub overflow_add-end : goal.overflow_add-end
overflow_add-end c =
    let ds = c.args.digits.now in
    omega (arith, spaced_few ds, c.spaced_length-end.ensures)

pub overflow_add-n : goal.overflow_add-n
overflow_add-n c =
    let a = c.args in
    omega (arith, spaced_few a.digits.now, ending_few a.cut, c.spaced_length-end.ensures, c.ending_length.ensures)

pub returns-then-out-n : goal.returns-then-out-n
returns-then-out-n c =
    let a = c.args in
    let n = printed_length a.identity a.kind a.digits.now a.cut in
    let short = lt-ltb (length a.out.now) (length (printed a.identity a.kind a.digits.now a.cut)) (omega (arith, c.spaced_length-end.ensures, c.ending_length.ensures)) in
    record {
      value = rw short;
      out_after = refl;
    }

pub returns : goal.returns
returns c =
    let a = c.args in
    let sl = c.spaced_length-end.ensures in
    let el = c.ending_length.ensures in
    let old = a.out.now in
    let head = head_of a.identity a.kind in
    let text = spaced a.digits.now in
    let end = ending a.cut in
    let n = printed_length a.identity a.kind a.digits.now a.cut in
    let size = head_length a.identity a.kind in
    let fits = le-ltb (length old) (length (printed a.identity a.kind a.digits.now a.cut)) (omega (arith, c.if-out-n.false)) in
    let first = c.print_head.ensures in
    let long : length (over old head) ≡ length old = over_length old head (omega arith) in
    let second = over_behind old head text 8 first size (omega (arith, ap length first)) c.print_text.ensures in
    let both : length (head ++ text) ≡ 8 + c.spaced_length-end.result = omega (arith, length-append head text) in
    let third = over_behind old (head ++ text) end (8 + c.spaced_length-end.result) second both
    (omega (arith, ap length second, over_length old (head ++ text) (omega arith))) c.print_ending.ensures in
    let all = take_all (8 + c.spaced_length-end.result + c.ending_length.result) (printed a.identity a.kind a.digits.now a.cut) (omega arith) in
    record {
      value = rw (fits, n) (ap Some (omega arith));
      out_after = third ∙ ap (over old) (whole a.identity a.kind a.digits.now a.cut ∙ sym all);
    }
