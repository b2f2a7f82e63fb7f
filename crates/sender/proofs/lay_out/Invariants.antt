-- `sender::lay_out` meets its contract. The invariant: the pages passed are laid out. Assumes nothing.
use Prim.Native.Nat.{◌≤◌}
use mathlib.Core.Path.{◌≡◌}
use lib.ListN.{length}
use Rattle.job.specs.Submission.{with_book}
use Rattle.transmission.specs.Sending.{sendings_of}
use Rattle.sender.proofs.Laid.{Laid}
use Rattle.sender.proofs.lay_out.Given as goal

abbrev pub invariant-loop-i : goal.invariant-loop-i
invariant-loop-i l =
    (l.n ≤ 48) × (length l.page-items ≡ l.n) × (l.table.count ≡ l.n) × (l.at ≤ 4032) × (length l.words ≡ 4032)
    × Laid (sendings_of (with_book l.job l.book)) l.initial.words l.i l.at l.table.addresses l.table.starts l.table.lengths l.table.frames l.words
