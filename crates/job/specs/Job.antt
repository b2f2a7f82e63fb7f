-- A job with its phrase book: the number of its pages, or the refusal of the book or of the first faulty line; and its pages.
use Rattle.job.specs.Refusal.{JobAnswer, refused}
use Rattle.std.specs.Prelude.{ℕ, ◌+◌, ◌-◌, List, [], ◌++◌, cond, length, replicate, leb, ltb, eqb, Result, Ok, Err}
use Rattle.base.specs.Lines.{Lines, behind, line, split}
use Rattle.phrases.specs.Book.{book_fault}
use Rattle.job.specs.declared.Refusal.{Refusal}
use Rattle.job.specs.Line.{line_of}
use Rattle.job.specs.Submission.{Submission}
use Rattle.job.specs.Pages.{pages_of, no_page}
use Rattle.job.specs.declared.Refusal.TheVariants.{Malformed, TooManyLines, EmptyJob, BadBook}
use Rattle.job.specs.declared.Page.{Page}
use Rattle.job.specs.declared.Pages.{Pages}

-- the first faulty line decides, with its number as the place; a good one leaves it to what follows
abbrev pub after : Result Page Refusal → ℕ → JobAnswer → JobAnswer
after (Err why) place rest = refused why place
after (Ok page) place rest = rest

-- the answer to what stands behind k good lines, from byte `at` on, with the book b: a 49th line is number 8, whatever it is; a last line
-- without newline is number 1
unfoldable pub judge : List ℕ → ℕ → ℕ → Lines → JobAnswer
judge b at k (behind p) =
    cond (eqb (length p) 0) (Ok k)
    (cond (leb 48 k) (refused TooManyLines 49)
    (refused Malformed (k + 1)))
judge b at k (line l ls) =
    cond (leb 48 k) (refused TooManyLines 49)
    (after (line_of b at l) (k + 1) (judge b (at + length l + 1) (k + 1) ls))

-- the answer to a job: a malformed book is number 19, before any line; an empty job is number 9 with place 0
unfoldable pub job_of : Submission → JobAnswer
job_of s =
    cond (ltb 0 (book_fault s.book)) (refused BadBook (book_fault s.book))
    (cond (eqb (length s.job) 0) (refused EmptyJob 0)
    (judge s.book 0 0 (split s.job)))

-- an answer with pages in an array of 48, zeros behind them
unfoldable pub table_of : JobAnswer → List Page → Pages
table_of a ps = record { answer = a; pages = ps ++ replicate (48 - length ps) no_page }

-- what is returned with an answer; of a refused job no page is kept
unfoldable pub answer_with : JobAnswer → List Page → Pages
answer_with (Ok n) ps = table_of (Ok n) ps
answer_with (Err r) ps = table_of (Err r) []

-- what reading a job returns
unfoldable pub reading_of : Submission → Pages
reading_of s = answer_with (job_of s) (pages_of s)
