-- `follower::follow_all` meets its contract: the pages that open before the next slot of the frame are printed. Assumes nothing.
use mathlib.Core.Path.{◌≡◌}
use Prim.Native.Nat.{◌-◌, ◌%◌}
use lib.ListN.{length}
use Rattle.placement.specs.Placement.{frame_of}
use Rattle.follower.proofs.Sofar.{Sofar}
use Rattle.follower.proofs.follow_all.Given as goal

abbrev pub invariant-loop-s : goal.invariant-loop-s
invariant-loop-s l = (length l.groups ≡ length l.initial.groups) × (length l.digits ≡ length l.initial.digits) × (frame_of l.s ≡ l.identity % 8) × Sofar l.identity l.words l.initial.lines l.count l.bytes l.s l.lines

abbrev pub decreases-loop-s : goal.decreases-loop-s
decreases-loop-s l = l.slots - l.s
