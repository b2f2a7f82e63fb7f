-- `receiver::four_bytes` meets its contract. Assumes nothing.
use mathlib.Core.Path.{refl}
use Prim.Native.Nat.{◌+◌}
use native.Mathlib.Omega.{arith}
use Rattle.receiver.proofs.BitLaws.{four_bits}
use Rattle.receiver.proofs.four_bytes.Goals as goal

pub returns : goal.returns
returns c =
    let i = c.args.i in
    let fit = c.type_inv.bits in
    omega (
      arith,
      c.from_be_bytes.ensures,
      four_bits c.args.bits.now i (omega (arith, fit i), refl) (omega (arith, fit (i + 1)), refl) (omega (arith, fit (i + 2)), refl) (omega (arith, fit (i + 3)), refl),
    )
