-- `base::hex_word` meets its contract. The invariant: all bytes so far are digits, and modulo 2^32 the number is what they and those still to
-- come write. Assumes nothing.
use Prim.Native.Nat.{◌+◌, ◌%◌, ◌^◌}
use mathlib.Core.Path.{◌≡◌}
use lib.ListN.{drop}
use Rattle.base.specs.Hex.{is_hex, hex_number}
use Rattle.base.specs.Leading.{leading}
use Rattle.base.proofs.hex_word.Given as goal

abbrev pub invariant-loop-b : goal.invariant-loop-b
invariant-loop-b l = (leading is_hex l.s ≡ l.b-index + leading is_hex (drop l.b-index l.s)) × (hex_number 0 l.s % 2 ^ 32 ≡ hex_number l.n (drop l.b-index l.s) % 2 ^ 32)
