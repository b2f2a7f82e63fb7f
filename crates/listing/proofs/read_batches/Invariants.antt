-- `listing::read_batches` meets its contract: what is passed leaves the answer to the lines that are left, and its words are written.
-- Assumes nothing.
use Prim.Native.Nat.{◌-◌}
use Rattle.listing.proofs.Decoding.{Going}
use Rattle.listing.proofs.read_batches.Given as goal

abbrev pub invariant-loop-at : goal.invariant-loop-at
invariant-loop-at l = Going l.s l.p l.initial.words l.words l.at l.k l.q

abbrev pub decreases-loop-at : goal.decreases-loop-at
decreases-loop-at l = 2700 - l.q
