-- `receiver::fill_words` meets its contract: the words so far stand in the slice. Assumes nothing.
use mathlib.Core.Path.{◌≡◌}
use Prim.Native.Nat.{◌+◌, ◌*◌}
use lib.ListN.{length}
use Rattle.base.specs.Lists.{tab}
use Rattle.base.proofs.ListLaws.{filled}
use Rattle.receiver.specs.Bits.{word_from}
use Rattle.receiver.proofs.fill_words.Given as goal

abbrev pub invariant-loop-k : goal.invariant-loop-k
invariant-loop-k l = l.words ≡ filled l.initial.words (tab (λ i. word_from l.bits (l.p + 32 * i)) (length l.initial.words)) l.k
