-- `text::write_alphanumeric` meets its contract. The invariant: the window has the bits from character i on, the pairs of those before stand over
-- what was there, and none of those ends the text. Assumes nothing.
use mathlib.Core.Path.{◌≡◌}
use Prim.Native.Nat.{◌+◌, ◌-◌, ◌*◌}
use lib.ListN.{length, drop}
use Rattle.base.specs.Leading.{leading}
use Rattle.text.specs.Heard.{chars_in, goes_on}
use Rattle.text.specs.Window.{Window}
use Rattle.text.specs.declared.Coding.TheVariants.{Alphanumeric}
use Rattle.text.proofs.PairLaws.{Written}
use Rattle.text.proofs.write_alphanumeric.Given as goal

abbrev pub invariant-loop-b : goal.invariant-loop-b
invariant-loop-b l = Window l.groups (7 * l.i) l.b × Written Alphanumeric l.groups l.initial.digits l.i l.digits × (leading goes_on (chars_in Alphanumeric l.groups) ≡ l.i + leading goes_on (drop l.i (chars_in Alphanumeric l.groups)))

abbrev pub decreases-loop-b : goal.decreases-loop-b
decreases-loop-b l = 20 * length l.groups - 7 * l.i
