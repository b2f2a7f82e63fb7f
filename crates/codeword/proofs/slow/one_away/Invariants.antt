-- `codeword::slow::one_away` meets its contract: none of the words tried so far obeys the code. Assumes nothing.
use mathlib.Core.Path.{◌≡◌}
use Rattle.std.specs.Prelude.{None}
use Prim.Native.Nat.{◌≤◌, ◌-◌}
use Rattle.codeword.specs.Tried.{tried}
use Rattle.codeword.proofs.slow.one_away.Given as goal

abbrev pub invariant-loop-k : goal.invariant-loop-k
invariant-loop-k l = (l.k ≤ l.n) × (tried l.word l.k 1 ≡ None)

abbrev pub decreases-loop-k : goal.decreases-loop-k
decreases-loop-k l = l.n - l.k
