-- How much of a book decides (request R-6): a good one has at most 100 lines of 481 bytes, so whoever reads one byte more knows the
-- answer. `book_front` in proofs/Front.antt proves it.
use Rattle.std.specs.Prelude.{ℕ, ◌≤◌, ◌≡◌, List, length, take}
use Rattle.phrases.specs.Book.{book_fault}

pub record BookFront (b : List ℕ) : Type 0 where
  -- a good book is short, and a fault stands in one of the first 101 lines
  pub short : book_fault b ≡ 0 → length b ≤ 48100
  pub place : book_fault b ≤ 101
  -- what stands behind the first 48,101 bytes changes nothing
  pub front : (m : ℕ) → 48101 ≤ m → book_fault (take m b) ≡ book_fault b
