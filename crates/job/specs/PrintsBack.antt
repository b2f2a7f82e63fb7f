-- The line that an accepted page's line stands for prints as it was. `line_printed` and `page_printed` in proofs/Printed.antt prove it.
use Rattle.std.specs.Prelude.{ℕ, ◌<◌, ◌≡◌, false, List, [], ◌∷◌, ◌++◌}
use Rattle.job.specs.Line.{identity_of, kind_of, text_digits}
use Rattle.job.specs.Submission.{Submission}
use Rattle.job.specs.Pages.{page_at, kind_at, digits_at, plain_at}
use Rattle.job.specs.Accepted.{Sound, AcceptedJob}
use Rattle.job.specs.Print.{printed}

-- a line that is not refused, by its identity, its kind and its text's digits
abbrev pub LinePrinted : Type 0
LinePrinted = (l : List ℕ) → Sound l → printed (identity_of l) (kind_of l) (text_digits l) false ≡ l ++ (10 ∷ [])

-- page p of an accepted job, by its text's part of the job or of the book
abbrev pub PagePrinted : Type 0
PagePrinted =
    (s : Submission) (n : ℕ) → AcceptedJob s n → (p : ℕ) → p < n
    → printed (page_at s p).identity (kind_at s p) (digits_at s p) false
    ≡ plain_at s p ++ (10 ∷ [])
