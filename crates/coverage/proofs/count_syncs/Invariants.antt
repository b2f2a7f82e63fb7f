-- `coverage::count_syncs` meets its contract: the counts so far are those of the batches passed. Assumes nothing.
use mathlib.Core.Path.{◌≡◌}
use Prim.Native.Nat.{◌-◌, ◌≤◌}
use Rattle.base.specs.Lists.{tab}
use Rattle.coverage.specs.Tally.{tally, sync_place}
use Rattle.coverage.proofs.count_syncs.Given as goal

abbrev pub invariant-loop-q : goal.invariant-loop-q
invariant-loop-q l = (l.q ≤ l.batches) × (l.sync ≡ tally 3 (tab (sync_place l.words) l.q))

abbrev pub decreases-loop-q : goal.decreases-loop-q
decreases-loop-q l = l.batches - l.q
