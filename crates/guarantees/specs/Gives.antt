-- What an answer to reading gives: lines and counts where there is room for the lines, and otherwise nothing.
use Rattle.std.specs.Prelude.{◌≡◌, List, [], ℕ, ◌≤◌, ◌<◌, length, Ok}
use Rattle.reader.specs.Answers.{Reading, lines_read, number_of, place_of}
use Rattle.reader.specs.declared.Changes.{Changes}

-- an answer to reading these words, into room for so many bytes, that gives these lines, and these numbers of pages, lost words, orphans
-- and changed bits
pub record Gives (lines : List ℕ) (pages lost orphans : ℕ) (changed : Changes) (room : ℕ) (answer : Reading) (words : List ℕ) : Type 0 where
  -- there is room for the lines: they are written, and all is reported
  pub answered : length lines ≤ room → answer ≡ Ok (record { pages = pages; lost = lost; orphans = orphans; changed = changed; bytes = length lines })
  pub written : length lines ≤ room → lines_read answer words ≡ lines
  -- there is less: number 10 with place 0, and nothing is written
  pub declined : room < length lines → (number_of answer ≡ 10) × (place_of answer ≡ 0)
  pub untouched : room < length lines → lines_read answer words ≡ []
