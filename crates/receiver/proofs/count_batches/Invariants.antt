-- `receiver::count_batches` meets its contract: the batches counted stand one behind the other. Assumes nothing.
use mathlib.Core.Path.{◌≡◌}
use mathlib.Core.Bool.{true}
use Prim.Native.Nat.{ℕ, ◌+◌, ◌*◌, ◌<◌}
use Rattle.receiver.specs.Stretches.{is_batch}
use Rattle.receiver.proofs.count_batches.Given as goal

abbrev pub invariant-loop-b : goal.invariant-loop-b
invariant-loop-b l = (k : ℕ) → k < l.b → is_batch l.bits (l.p + 544 * k) ≡ true
