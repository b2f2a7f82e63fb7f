-- What stands behind the first bytes of a phrase book doesn't change what is printed. Assumes nothing.
use Prim.Native.Nat.{ℕ, ◌<◌}
use mathlib.Core.Path.{◌≡◌, sym, ap, ◌∙◌}
use mathlib.Core.List.{List}
use mathlib.Core.Logic.{⊎_elim}
use native.Mathlib.Nat.{eq-or-lt_of_le}
use native.Mathlib.Omega.{arith}
use lib.ListN.{take}
use lib.Seq.{take_all}
use borrow.Author.Tests.{lt-ltb}
use Rattle.phrases.specs.Book.{book_fault}
use Rattle.phrases.proofs.Front.{book_front}
use Rattle.job.specs.Submission.{Submission, with_book}
use Rattle.job.specs.Job.{job_of}
use Rattle.job_listing.specs.Listed.{listed_of}
use Rattle.program.specs.Prints.{refusal_line, unless_long, send_prints}
use Rattle.program.specs.BookFront.{FrontDecides}

-- with a bad book the line of number 19 is printed, unless the input is long
bad_book : (s : Submission) → 0 < book_fault s.book → send_prints s ≡ unless_long s.job (refusal_line 19 (book_fault s.book) 0)
unfolding send_prints listed_of job_of
bad_book s h = rw (lt-ltb 0 (book_fault s.book) h)

pub front_decides : FrontDecides
front_decides job book m h =
    let same = (book_front book).front m h in
    ⊎_elim
    (λ (e : 0 ≡ book_fault book). ap (λ (b : List ℕ). send_prints (with_book job b)) (take_all m book (omega (arith, (book_front book).short (sym e)))))
    (λ (l : 0 < book_fault book). bad_book (with_book job (take m book)) (omega (arith, same)) ∙ ap (λ (p : ℕ). unless_long job (refusal_line 19 p 0)) same ∙ sym (bad_book (with_book job book) l))
    (eq-or-lt_of_le (omega arith))
