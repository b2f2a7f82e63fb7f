-- `sender::PageTable::frames_joined` meets its contract. The invariant: the bits of the frames passed, joined. Assumes nothing.
use lib.ListN.{get_or}
use Rattle.sender.specs.Pages.{Joined}
use Rattle.sender.proofs.PageTable.frames_joined.Given as goal

abbrev pub invariant-loop-frame : goal.invariant-loop-frame
invariant-loop-frame l = Joined (λ i. get_or l.frames i 0) l.frame-index l.joined
