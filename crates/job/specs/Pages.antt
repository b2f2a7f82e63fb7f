-- The pages of a job's lines, and where in the job or in the phrase book their texts stand.
use Rattle.std.specs.Prelude.{ℕ, ◌+◌, List, [], ◌∷◌, ◌++◌, cond, length, get_or, take, drop, eqb, Result, Ok, Err}
use Rattle.base.specs.Lines.{Lines, behind, line, split, line_at}
use Rattle.phrases.specs.Book.{phrase_of}
use Rattle.job.specs.declared.Refusal.{Refusal}
use Rattle.job.specs.Submission.{Submission, source_of}
use Rattle.job.specs.Line.{kind_of, text_digits, kind_sent, line_of}
use Rattle.job.specs.declared.Page.{Page}

-- what stands for a page where there is none
abbrev pub no_page : Page
no_page = record { identity = 0; kind = 0; start = 0; length = 0 }

-- the page of a line; none where it is faulty
abbrev pub page_in : Result Page Refusal → Page
page_in (Ok page) = page
page_in (Err why) = no_page

-- the pages of lines of which the first starts at byte `at`, with the book b
unfoldable pub pages_from : List ℕ → ℕ → Lines → List Page
pages_from b at (behind p) = []
pages_from b at (line l ls) = page_in (line_of b at l) ∷ pages_from b (at + length l + 1) ls

-- the pages of a job
unfoldable pub pages_of : Submission → List Page
pages_of s = pages_from s.book 0 (split s.job)

-- the page at index p of a job
abbrev pub page_at : Submission → ℕ → Page
page_at s p = get_or (pages_of s) p no_page

-- the kind as which it is sent
abbrev pub kind_at : Submission → ℕ → ℕ
kind_at s p = kind_sent (page_at s p).kind

-- the digits of a page's text, in the job or in the book
abbrev pub digits_in : Submission → Page → List ℕ
digits_in s page = take page.length (drop page.start (source_of page.kind s.job s.book))

-- those of the page at index p
abbrev pub digits_at : Submission → ℕ → List ℕ
digits_at s p = digits_in s (page_at s p)

-- a line with kind 5 (the digit 53) and these digits in the place of its own
abbrev pub phrased : List ℕ → List ℕ → List ℕ
phrased l digits = take 7 l ++ (53 ∷ 32 ∷ digits)

-- the line that a line stands for: one of kind 9 for that of kind 5 with the phrase, any other for itself
unfoldable pub plain : List ℕ → List ℕ → List ℕ
plain b l = cond (eqb (kind_of l) 9) (phrased l (phrase_of b (text_digits l))) l

-- that of line p of a job
abbrev pub plain_at : Submission → ℕ → List ℕ
plain_at s p = plain s.book (line_at p (split s.job))
