-- What is handed in: a job and its phrase book (request R-6).
use Rattle.std.specs.Prelude.{ℕ, List, cond, eqb}

-- the two as one thing; without a book, the empty one
pub record Submission : Type 0 where
  pub job : List ℕ
  pub book : List ℕ

abbrev pub with_book : List ℕ → List ℕ → Submission
with_book job book = record { job = job; book = book }

-- the one of the two in which the text of a page of this kind stands: that of kind 9 is a phrase of the book
abbrev pub source_of : {X : Type 0} → ℕ → X → X → X
source_of kind job book = cond (eqb kind 9) book job
