-- `transmission::write_sending` meets its contract. The invariant: the address and the first j message codewords are written. Assumes nothing.
use mathlib.Core.Path.{◌≡◌}
use mathlib.Core.List.{List}
use Prim.Native.Nat.{ℕ, suc}
use lib.ListN.{length}
use Rattle.transmission.specs.Sending.{Sending}
use Rattle.transmission.specs.Writing.{begun}
use Rattle.transmission.proofs.write_sending.Given as goal

-- what is written
abbrev pub sent : ℕ → ℕ → List ℕ → Sending
sent identity function groups = record { identity = identity; function = function; groups = groups }

abbrev pub invariant-loop-j : goal.invariant-loop-j
invariant-loop-j l = (length l.words ≡ length l.initial.words) × ((w : List ℕ) → l.initial.words ≡ begun (sent l.identity l.function l.groups) l.slot 1 w → l.words ≡ begun (sent l.identity l.function l.groups) l.slot (suc l.j) w)
