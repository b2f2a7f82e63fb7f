-- `placement::run` meets its contract. The outer invariant, `Head`: the code has the placement's state before the slot (`At`), no batch
-- that is over ends the transmission (`Open`), and the pages that a search skips are sent (`Skips`). Assumes nothing.
use mathlib.Core.Path.{◌≡◌}
use Prim.Native.Nat.{◌*◌, ◌-◌}
use lib.ListN.{length}
use Rattle.placement.specs.Placement.{job_of, batches}
use Rattle.placement.proofs.Head.{Head}
use Rattle.placement.proofs.run.Given as goal

abbrev pub invariant-loop-pause : goal.invariant-loop-pause
invariant-loop-pause l = (length l.marks ≡ length l.initial.marks) × Head l.frames l.words l.slot l.marks l.next l.left l.sent l.pause

abbrev pub decreases-loop-pause : goal.decreases-loop-pause
decreases-loop-pause l = 16 * batches (job_of l.frames l.words) - l.slot
