-- `receiver::word_from` meets its contract. Assumes nothing.
use Prim.Native.Nat.{◌+◌, ◌/◌}
use native.Mathlib.Omega.{arith}
use Rattle.receiver.proofs.BitLaws.{word_small, five_bits, whole_bits}
use Rattle.receiver.proofs.word_from.Goals as goal

pub returns-then-up-eq0 : goal.returns-then-up-eq0
returns-then-up-eq0 c =
    let a = c.args in
    whole_bits a.bits.now a.p c.four_bytes-front.ensures (omega arith)

pub overflow_add-result : goal.overflow_add-result
overflow_add-result c =
    let a = c.args in
    omega (
      arith,
      five_bits a.bits.now a.p c.four_bytes-front.ensures (omega (arith, c.type_inv.bits (a.p / 8 + 4), c.from.ensures), c.from.ensures),
      word_small a.bits.now a.p,
    )

pub returns : goal.returns
returns c =
    let a = c.args in
    five_bits a.bits.now a.p c.four_bytes-front.ensures (omega (arith, c.type_inv.bits (a.p / 8 + 4), c.from.ensures), c.from.ensures)
