-- `text::write_fives` meets its contract. The invariant: the first g groups are written. Assumes nothing.
use mathlib.Core.Path.{◌≡◌}
use lib.ListN.{length}
use Rattle.base.specs.Lists.{tab}
use Rattle.base.proofs.ListLaws.{filled}
use Rattle.text.specs.Fives.{five_at}
use Rattle.text.proofs.write_fives.Given as goal

abbrev pub invariant-loop-g : goal.invariant-loop-g
invariant-loop-g l = l.groups ≡ filled l.initial.groups (tab (five_at l.digits) (length l.initial.groups)) l.g
