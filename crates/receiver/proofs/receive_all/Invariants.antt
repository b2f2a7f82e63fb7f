-- `receiver::receive_all` meets its contract: before each hunt the stretches so far are reported. Assumes nothing.
use mathlib.Core.Path.{◌≡◌}
use Prim.Native.Nat.{◌+◌, ◌-◌, ◌≤◌}
use lib.ListN.{length}
use Rattle.receiver.specs.Bits.{bit_count}
use Rattle.receiver.specs.Stretches.{hunt_from, batches_from, stretches_of, batches_found}
use Rattle.receiver.proofs.SoFar.{SoFar}
use Rattle.receiver.proofs.receive_all.Given as goal

abbrev pub invariant-loop-t : goal.invariant-loop-t
invariant-loop-t l =
    (length l.words ≡ length l.initial.words)
    × (length l.lines ≡ length l.initial.lines)
    × SoFar l.bits l.initial.lines l.p l.t l.lines
    × (l.t.batches + batches_from l.bits (hunt_from l.bits l.p) ≤ batches_found (stretches_of l.bits))

abbrev pub decreases-loop-t : goal.decreases-loop-t
decreases-loop-t l = bit_count l.bits - l.p
