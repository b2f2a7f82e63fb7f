use mathlib.Core.Path.{◌≡◌, ◌∙◌}
use native.Mathlib.Omega.{arith}
use Prim.Native.Nat.{◌+◌}
use lib.ListN.{drop, get_or}
use Rattle.base.specs.Hex.{hex_number}
use Rattle.base.proofs.HexLaws.{number_more, number_end, number_low, hex_small}
use Rattle.base.proofs.hex_number.Goals as goal

pub overflow_add-n : goal.overflow_add-n
overflow_add-n c = omega (arith, hex_small (get_or c.args.s.now c.loop-b.b-index 0), c.hex_value.ensures, c.from.ensures)

pub loop-b-preserved : goal.loop-b-preserved
loop-b-preserved c =
    let l = c.loop-b in
    let s = c.args.s.now in
    rw (c.from.ensures, c.hex_value.ensures)
    (l.invariant ∙ rw (number_more l.n s l.b-index c.loop-b-test.true) (number_low l.n (get_or s l.b-index 0) (drop (l.b-index + 1) s)))

pub returns : goal.returns
returns c =
    let l = c.loop-b in
    let s = c.args.s.now in
    let last : hex_number l.n (drop l.b-index s) ≡ l.n = number_end l.n s l.b-index c.loop-b-test.false in
    omega (arith, l.invariant)
