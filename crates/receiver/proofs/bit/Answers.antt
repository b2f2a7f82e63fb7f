-- `receiver::bit` meets its contract. Assumes nothing.
use mathlib.Core.Path.{ap}
use Prim.Native.Nat.{ℕ, ◌-◌, ◌/◌, ◌%◌, ◌^◌}
use Rattle.receiver.specs.Bits.{bit_at}
use Rattle.receiver.proofs.bit.Goals as goal

pub returns : goal.returns
unfolding bit_at
returns c = ap (λ (b : ℕ). b / 2 ^ (7 - c.args.p % 8) % 2) c.from.ensures
