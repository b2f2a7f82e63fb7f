-- How much of a phrase book decides what the sending program prints (request R-6). `front_decides` in proofs/BookFront.antt proves it.
use Rattle.std.specs.Prelude.{ℕ, ◌≤◌, ◌≡◌, List, take}
use Rattle.job.specs.Submission.{with_book}
use Rattle.program.specs.Prints.{send_prints}

-- what stands behind the first 48,101 bytes of a book changes nothing, whatever the job
abbrev pub FrontDecides : Type 0
FrontDecides = (job book : List ℕ) (m : ℕ) → 48101 ≤ m → send_prints (with_book job (take m book)) ≡ send_prints (with_book job book)
