-- `transmission::write_pages` meets its contract. The invariant: the first i pages are written over the blank words. Assumes nothing.
use mathlib.Core.Path.{◌≡◌}
use Prim.Native.Nat.{◌≤◌}
use Rattle.job.specs.Submission.{with_book}
use Rattle.transmission.specs.Sending.{sendings_of}
use Rattle.transmission.specs.Writing.{with_sendings}
use Rattle.transmission.proofs.write_pages.Given as goal

abbrev pub invariant-loop-i : goal.invariant-loop-i
invariant-loop-i l = (l.n ≤ 48) × (l.words ≡ with_sendings (sendings_of (with_book l.job l.book)) l.i l.initial.words)
