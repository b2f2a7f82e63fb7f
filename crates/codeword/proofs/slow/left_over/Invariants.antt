-- `codeword::slow::left_over` meets its contract: at each turn the rest is the remainder of the bits brought down so far. Assumes nothing.
use mathlib.Core.Path.{◌≡◌}
use Prim.Native.Nat.{◌≤◌, ◌<◌, ◌-◌, ◌/◌, ◌^◌}
use Rattle.codeword.specs.Code.{remainder}
use Rattle.codeword.proofs.slow.left_over.Given as goal

abbrev pub invariant-loop-k : goal.invariant-loop-k
invariant-loop-k l = (l.k ≤ 31) × (l.rest < 1024) × (l.rest ≡ remainder l.k (l.word / 2 ^ (32 - l.k)))

abbrev pub decreases-loop-k : goal.decreases-loop-k
decreases-loop-k l = 31 - l.k
