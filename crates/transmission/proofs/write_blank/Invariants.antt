-- `transmission::write_blank` meets its contract. The invariant: the first k words are written, and the others are as they came. Assumes nothing.
use mathlib.Core.Path.{◌≡◌}
use lib.ListN.{length}
use Rattle.base.specs.Lists.{tab}
use Rattle.base.proofs.ListLaws.{filled}
use Rattle.transmission.specs.Writing.{blank_at}
use Rattle.transmission.proofs.write_blank.Given as goal

abbrev pub invariant-loop-k : goal.invariant-loop-k
invariant-loop-k l = l.words ≡ filled l.initial.words (tab blank_at (length l.initial.words)) l.k
