-- `phrases::book_fault` meets its contract. The invariant: the k lines passed are phrases, and the fault is that of what is left. Assumes nothing.
use Prim.Native.Nat.{◌≤◌}
use mathlib.Core.Path.{◌≡◌}
use lib.ListN.{length, drop}
use Rattle.base.specs.Lines.{split}
use Rattle.phrases.specs.Book.{book_fault, fault_from}
use Rattle.phrases.proofs.book_fault.Given as goal

abbrev pub invariant-loop-k : goal.invariant-loop-k
invariant-loop-k l = (l.at ≤ length l.book) × (book_fault l.book ≡ fault_from l.k (split (drop l.at l.book)))
