-- The line of a refusal. Assumes nothing.
use mathlib.Core.Path.{◌≡◌}
use mathlib.Core.Bool.{true, false}
use Prim.Native.Nat.{ℕ, ◌≤◌}
use native.Mathlib.Omega.{arith}
use mathlib.Core.Logic.{⊎_elim}
use lib.ListN.{length}
use lib.Dec.{eqb}
use Rattle.base.proofs.Bools.{either}
use Rattle.program.specs.Prints.{position_part}
use Rattle.program.proofs.PartLaws.{decimal_short}

-- how long what stands behind the place can be
pub position_short : (n c : ℕ) → length (position_part n c) ≤ 21
position_short n c =
    ⊎_elim (λ (e : eqb n 6 ≡ true). rw e (omega (arith, decimal_short c))) (λ (e : eqb n 6 ≡ false). rw e (omega arith)) (either (eqb n 6))
