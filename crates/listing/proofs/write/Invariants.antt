-- `listing::write` meets its contract: the text of the words so far stands over what was there. Assumes nothing.
use Rattle.std.proofs.Common.{◌≡◌, ◌*◌, ◌≤◌, length, take}
use Rattle.base.specs.Lists.{over}
use Rattle.listing.specs.Text.{text_of}
use Rattle.listing.proofs.write.Given as goal

abbrev pub invariant-loop-k : goal.invariant-loop-k
invariant-loop-k l = (9 * length l.words ≤ length l.initial.out) × (l.out ≡ over l.initial.out (text_of (take l.k l.words)))
