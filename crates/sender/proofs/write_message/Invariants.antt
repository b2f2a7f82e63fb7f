-- `sender::write_message` meets its contract. The invariant: the groups passed are replaced by their codewords. Assumes nothing.
use mathlib.Core.List.{List}
use Prim.Native.Nat.{ℕ}
use mathlib.Core.Path.{◌≡◌}
use lib.ListN.{length, get_or}
use Rattle.base.specs.Lists.{tab}
use Rattle.base.proofs.ListLaws.{filled}
use Rattle.codeword.specs.Code.{codeword, message_bits}
use Rattle.sender.proofs.write_message.Given as goal

-- the message codeword of the group at place k
abbrev pub coded : List ℕ → ℕ → ℕ
coded groups k = codeword (message_bits (get_or groups k 0))

abbrev pub invariant-loop-word : goal.invariant-loop-word
invariant-loop-word l = l.front ≡ filled l.initial.front (tab (coded l.initial.front) (length l.initial.front)) l.word-index
