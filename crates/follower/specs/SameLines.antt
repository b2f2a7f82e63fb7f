-- The lines of one identity, byte for byte, are those of the full reader's text that begin with its six digits. `same_lines` in
-- proofs/SameLines.antt proves it.
use Rattle.std.specs.Prelude.{◌≡◌, cond, List, [], ◌∷◌, ◌++◌, ℕ, eqb, length}
use Rattle.base.specs.Lines.{Lines, behind, line, split, line_count}
use Rattle.job.specs.Line.{identity_of}
use Rattle.listing.specs.Words.{words_of}
use Rattle.reader.specs.Reading.{heard_in}
use Rattle.reader.specs.Lines.{lines_heard}
use Rattle.reader.specs.Answers.{read_words, read_listing, lines_read, number_of}
use Rattle.follower.specs.Pages.{pages_for}

-- the lines whose first six digits write i, each with its newline
unfoldable pub lines_for : ℕ → Lines → List ℕ
lines_for i (behind t) = []
lines_for i (line l ls) = cond (eqb (identity_of l) i) (l ++ (10 ∷ [])) [] ++ lines_for i ls

pub record SameLines (i : ℕ) : Type 0 where
  -- of the lines of all pages that are heard
  pub of_pages : (words : List ℕ) → lines_heard (pages_for i words) ≡ lines_for i (split (lines_heard (heard_in words).pages))
  -- there is one for each page of the identity
  pub count : (words : List ℕ) → line_count (split (lines_heard (pages_for i words))) ≡ length (pages_for i words)
  -- of what the full reader prints of words or of a listing, where it declines neither
  pub of_words : (words : List ℕ) (room : ℕ) → number_of (read_words words room) ≡ 0
      → lines_heard (pages_for i words) ≡ lines_for i (split (lines_read (read_words words room) words))
  pub of_listing : (s : List ℕ) (room : ℕ) → number_of (read_listing s room) ≡ 0
      → lines_heard (pages_for i (words_of s)) ≡ lines_for i (split (lines_read (read_listing s room) (words_of s)))
