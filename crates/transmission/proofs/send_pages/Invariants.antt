-- `transmission::send_pages` meets its contract. The invariant: the first k frames and counts stand. Assumes nothing.
use mathlib.Core.Path.{◌≡◌}
use Rattle.base.proofs.ListLaws.{filled}
use Rattle.job.specs.Submission.{with_book}
use Rattle.transmission.specs.Sending.{sendings_of, frames_of, counts_of}
use Rattle.transmission.proofs.send_pages.Given as goal

abbrev pub invariant-loop-k : goal.invariant-loop-k
invariant-loop-k l = (l.frames ≡ filled l.initial.frames (frames_of (sendings_of (with_book l.job l.book))) l.k) × (l.groups ≡ filled l.initial.groups (counts_of (sendings_of (with_book l.job l.book))) l.k)
