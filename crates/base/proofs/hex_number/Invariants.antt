-- `base::hex_number` meets its contract. The invariant: modulo 2^32, the number is what the digits so far and those still to come
-- write. Assumes nothing.
use mathlib.Core.Path.{◌≡◌}
use Prim.Native.Nat.{◌%◌, ◌^◌}
use lib.ListN.{drop}
use Rattle.base.specs.Hex.{hex_number}
use Rattle.base.proofs.hex_number.Given as goal

abbrev pub invariant-loop-b : goal.invariant-loop-b
invariant-loop-b l = hex_number 0 l.s % 2 ^ 32 ≡ hex_number l.n (drop l.b-index l.s) % 2 ^ 32
