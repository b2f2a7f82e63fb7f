-- `phrases::phrase_at` meets its contract. The invariant: the phrase is that of what is left, by as many lines as are still to pass.
-- Assumes nothing.
use Prim.Native.Nat.{◌≤◌, ◌-◌}
use mathlib.Core.Path.{◌≡◌}
use lib.ListN.{length, drop}
use Rattle.base.specs.Lines.{split}
use Rattle.phrases.specs.Book.{phrase_at}
use Rattle.phrases.proofs.Phrases.{moved}
use Rattle.phrases.proofs.phrase_at.Given as goal

abbrev pub invariant-loop : goal.invariant-loop
invariant-loop l = (l.at ≤ length l.book) × (phrase_at l.p (split l.book) ≡ moved l.at (phrase_at (l.p - l.counter) (split (drop l.at l.book))))
