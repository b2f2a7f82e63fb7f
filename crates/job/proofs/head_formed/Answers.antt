-- `job::head_formed` meets its contract: at each `return` the tests that led there decide `head_formed`. Assumes nothing.
use mathlib.Core.Path.{sym}
use native.Mathlib.Omega.{arith}
use borrow.Author.Tests.{le-leb, lt-leb, eq-eqb, ne_eqb}
use lib.ListN.{length, take, get_or}
use lib.Seq.{length-take-le}
use Rattle.base.specs.Hex.{is_hex}
use Rattle.base.specs.Leading.{leading}
use Rattle.job.specs.Line.{head_formed}
use Rattle.base.proofs.LeadingLaws.{leading_le}
use Rattle.job.proofs.head_formed.Goals as goal

pub returns-then-line-lt8 : goal.returns-then-line-lt8
unfolding head_formed
returns-then-line-lt8 c = simp (lt-leb 8 (length c.args.line.now) (omega arith))

pub slice_bounds-hex_run-end : goal.slice_bounds-hex_run-end
slice_bounds-hex_run-end c = sym (length-take-le 6 c.before.args.line.now (omega arith))

pub returns-then-hex_run-lt6 : goal.returns-then-hex_run-lt6
unfolding head_formed
returns-then-hex_run-lt6 c =
    let l = c.before.args.line.now in
    let t = length-take-le 6 l (omega arith) in
    simp (le-leb 8 (length l) (omega arith), ne_eqb (leading is_hex (take 6 l)) (length (take 6 l)) (λ e. omega arith))

pub returns-then-line-ne32 : goal.returns-then-line-ne32
unfolding head_formed
returns-then-line-ne32 c =
    let l = c.before.args.line.now in
    let t = length-take-le 6 l (omega arith) in
    simp (le-leb 8 (length l) (omega arith), eq-eqb (leading is_hex (take 6 l)) (length (take 6 l)) (omega (arith, leading_le is_hex (take 6 l))), ne_eqb (get_or l 6 0) 32 c.if-line-ne32.true)

pub returns : goal.returns
unfolding head_formed
returns c =
    let l = c.before.args.line.now in
    let t = length-take-le 6 l (omega arith) in
    rw c.is_hex.ensures (simp (le-leb 8 (length l) (omega arith), eq-eqb (leading is_hex (take 6 l)) (length (take 6 l)) (omega (arith, leading_le is_hex (take 6 l))), eq-eqb (get_or l 6 0) 32 c.if-line-ne32.false))
