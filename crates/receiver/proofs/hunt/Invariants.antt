-- `receiver::hunt` meets its contract: the positions passed have no batch, and the word at hand is that of the position reached. Assumes nothing.
use mathlib.Core.Path.{◌≡◌}
use mathlib.Core.Bool.{false}
use Prim.Native.Nat.{ℕ, ◌≤◌, ◌<◌}
use Rattle.receiver.specs.Bits.{bit_count, word_from}
use Rattle.receiver.specs.Stretches.{is_batch}
use Rattle.receiver.proofs.hunt.Given as goal

abbrev pub invariant-loop-q : goal.invariant-loop-q
invariant-loop-q l = (l.p ≤ l.q) × (l.q ≤ bit_count l.bits) × (l.w ≡ word_from l.bits l.q) × ((t : ℕ) → l.p ≤ t → t < l.q → is_batch l.bits t ≡ false)
