-- `reader::first_unsynced` meets its contract: all batches passed begin with sync. Assumes nothing.
use mathlib.Core.Path.{◌≡◌}
use mathlib.Core.Bool.{false}
use Prim.Native.Nat.{ℕ, ◌<◌}
use Rattle.reader.specs.Answers.{unsynced}
use Rattle.reader.proofs.first_unsynced.Given as goal

abbrev pub invariant-loop-q : goal.invariant-loop-q
invariant-loop-q l = (k : ℕ) → k < l.q → unsynced l.words k ≡ false
