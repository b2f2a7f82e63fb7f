-- `codeword::slow::two_away` meets its contract: none of the words tried so far obeys the code. Assumes nothing.
use mathlib.Core.Path.{◌≡◌}
use Rattle.std.specs.Prelude.{None}
use Prim.Native.Nat.{◌≤◌, ◌-◌}
use Rattle.codeword.specs.Tried.{tried}
use Rattle.codeword.proofs.slow.two_away.Given as goal

abbrev pub invariant-loop-k : goal.invariant-loop-k
invariant-loop-k l = (l.k ≤ 32) × (tried l.word l.k 2 ≡ None)

abbrev pub decreases-loop-k : goal.decreases-loop-k
decreases-loop-k l = 32 - l.k
