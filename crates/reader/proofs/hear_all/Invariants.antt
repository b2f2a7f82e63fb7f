-- `reader::hear_all` meets its contract: before each slot what is kept is that of the state. Assumes nothing.
use mathlib.Core.Path.{◌≡◌}
use Prim.Native.Nat.{◌+◌, ◌-◌, ◌≤◌}
use lib.ListN.{length}
use Rattle.reader.specs.Symbols.{state_by}
use Rattle.reader.specs.Progress.{Kept}
use Rattle.reader.proofs.hear_all.Given as goal

abbrev pub invariant-loop-digits : goal.invariant-loop-digits
invariant-loop-digits l = (l.s ≤ length l.symbols) × (length l.digits ≡ length l.initial.digits) × (length l.lines ≡ length l.initial.lines) × Kept l.symbols l.s (state_by l.symbols l.s) l.p l.lines

abbrev pub decreases-loop-digits : goal.decreases-loop-digits
decreases-loop-digits l = length l.symbols + 1 - l.s
