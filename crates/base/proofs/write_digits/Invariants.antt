-- `base::write_digits` meets its contract. The invariant: from i on stand the lowest digits, and the rest is the number without them.
-- Assumes nothing.
use mathlib.Core.Path.{◌≡◌}
use Prim.Native.Nat.{◌-◌, ◌/◌, ◌^◌}
use lib.ListN.{length, drop}
use Rattle.base.specs.Hex.{digits_of}
use Rattle.base.proofs.write_digits.Given as goal

abbrev pub invariant-loop-i : goal.invariant-loop-i
invariant-loop-i l = (l.rest ≡ l.number / 16 ^ (length l.initial.out - l.i)) × (drop l.i l.out ≡ digits_of (length l.initial.out - l.i) l.number)
