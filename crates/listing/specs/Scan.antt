-- The way the code goes, by bytes: what its inner functions promise. No public promise needs it, and it is proved to come to the same
-- as the lines.
use Rattle.std.specs.Prelude.{ℕ, ◌+◌, List, [], ◌++◌, Option, Some, None, Bool, cond, ◌&&◌, not, length, drop, ltb, eqb}
use Rattle.base.specs.Hex.{hex_number}
use Rattle.base.specs.Lines.{Lines, behind, line, split, line_at}
use Rattle.listing.specs.Listing.{has_one, has_two, preamble_of, skip, is_due}
use Rattle.listing.specs.Words.{line_words}

-- the line that starts at a byte; empty where no newline follows
abbrev pub line_from : List ℕ → ℕ → List ℕ
line_from s at = line_at 0 (split (drop at s))

-- the word of a line that has one alone, and the words of a frame line
abbrev pub one_of : List ℕ → Option ℕ
one_of l = cond (has_one l) (Some (hex_number 0 l)) None

abbrev pub two_of : List ℕ → Option (List ℕ)
two_of l = cond (has_two l) (Some (line_words l)) None

-- how many words a line has, where it is right
abbrev pub count_if : Bool → List ℕ → Option ℕ
count_if right l = cond right (Some (length (line_words l))) None

-- the words of a line that is right, and none of another
abbrev pub words_if : Bool → List ℕ → List ℕ
words_if right l = cond right (line_words l) []

-- behind q lines of batches, the words of the lines that are right, up to the first that is not
unfoldable pub words_met : ℕ → Lines → List ℕ
words_met q (behind t) = []
words_met q (line l ls) = cond (is_due q l && not (eqb q 2700)) (line_words l ++ words_met (q + 1) ls) []

-- the words that are written as they are read: those of the batches, up to the first line that is not right, behind p preamble lines, 9 at least
abbrev pub met_behind : ℕ → Lines → List ℕ
met_behind p ls = cond (ltb p 9) [] (words_met 0 (skip p ls))

unfoldable pub words_decoded : List ℕ → List ℕ
words_decoded s = met_behind (preamble_of (split s)) (split s)
