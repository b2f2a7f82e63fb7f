-- `text::write_numeric` meets its contract: the pairs of the characters so far stand over what was there. Assumes nothing.
use Prim.Native.Nat.{◌*◌, ◌≤◌}
use lib.ListN.{length}
use Rattle.text.specs.declared.Coding.TheVariants.{Numeric}
use Rattle.text.proofs.PairLaws.{Written}
use Rattle.text.proofs.write_numeric.Given as goal

abbrev pub invariant-loop-i : goal.invariant-loop-i
invariant-loop-i l = (l.n ≤ 5 * length l.groups) × Written Numeric l.groups l.initial.digits l.i l.digits
