-- `sender::PageTable::ends_joined` meets its contract. The invariant: the bits of the lifted ends passed, joined. Assumes nothing.
use Prim.Native.Nat.{◌+◌}
use lib.ListN.{get_or}
use Rattle.sender.specs.Pages.{Joined}
use Rattle.sender.proofs.PageTable.ends_joined.Given as goal

abbrev pub invariant-loop-i : goal.invariant-loop-i
invariant-loop-i l = Joined (λ k. get_or l.fn.self.starts k 0 + get_or l.fn.self.lengths k 0 + 63) l.i l.joined
