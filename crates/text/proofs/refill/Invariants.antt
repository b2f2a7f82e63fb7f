-- `text::refill` meets its contract. The invariant: the window has the same bits and those of the characters up to the next. Assumes nothing.
use Prim.Native.Nat.{ℕ, ◌+◌, ◌-◌, ◌^◌, ◌≤◌, ◌<◌}
use Rattle.base.specs.Hex.{bytes_of}
use Rattle.text.specs.Packing.{Waiting}
use Rattle.text.proofs.refill.Given as goal

abbrev pub invariant-loop-b : goal.invariant-loop-b
invariant-loop-b l = (l.b.have ≤ 26) × (l.b.window < 2 ^ l.b.have) × (l.b.next ≤ l.initial.b.next + l.b.have) × ((at : ℕ) → Waiting l.c (bytes_of l.text) at l.initial.b.window l.initial.b.have l.initial.b.next → Waiting l.c (bytes_of l.text) at l.b.window l.b.have l.b.next)

abbrev pub decreases-loop-b : goal.decreases-loop-b
decreases-loop-b l = 26 - l.b.have
