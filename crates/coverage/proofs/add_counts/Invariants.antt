-- `coverage::add_counts` meets its contract. The invariant: the counts passed are sums, and the others are as they came. Assumes nothing.
use mathlib.Core.Path.{◌≡◌}
use Prim.Native.Nat.{◌≤◌}
use lib.ListN.{length}
use Rattle.base.proofs.ListLaws.{filled}
use Rattle.coverage.specs.Report.{sums}
use Rattle.coverage.proofs.add_counts.Given as goal

abbrev pub invariant-loop-i : goal.invariant-loop-i
invariant-loop-i l = (l.i ≤ length l.initial.counts) × (l.counts ≡ filled l.initial.counts (sums l.initial.counts l.more) l.i)
