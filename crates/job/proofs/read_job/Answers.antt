-- `job::read_job` meets its contract. Assumes nothing.
use mathlib.Core.Path.{◌≡◌, sym, ◌∙◌}
use native.Mathlib.Omega.{arith}
use borrow.Author.Tests.{lt-ltb, le-ltb}
use Rattle.phrases.specs.Book.{book_fault}
use Rattle.phrases.proofs.Phrases.{sound_of, fault_of}
use Rattle.job.specs.Job.{job_of, answer_with, reading_of}
use Rattle.job.proofs.read_job.Goals as goal

pub returns-in-Some : goal.returns-in-Some
unfolding reading_of answer_with job_of
returns-in-Some c =
    let b = c.args.book.now in
    let f = fault_of b (sym c.in-Some.is ∙ c.book_fault.ensures) in
    rw (c.declined.ensures, ← f.0) (simp (lt-ltb 0 (book_fault b) (omega arith)))

pub returns-then-is_empty : goal.returns-then-is_empty
unfolding reading_of answer_with job_of
returns-then-is_empty c =
    let a = c.args in
    let good : book_fault a.book.now ≡ 0 = sound_of a.book.now (sym c.in_default.is ∙ c.book_fault.ensures) in
    c.declined-then-is_empty.ensures ∙ simp (le-ltb 0 (book_fault a.book.now) (omega arith), sym c.if-is_empty.ensures)

pub returns : goal.returns
unfolding reading_of job_of
returns c =
    let a = c.args in
    let good : book_fault a.book.now ≡ 0 = sound_of a.book.now (sym c.in_default.is ∙ c.book_fault.ensures) in
    c.read_lines.ensures ∙ simp (le-ltb 0 (book_fault a.book.now) (omega arith), sym c.if-is_empty.ensures)
