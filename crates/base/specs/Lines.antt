-- Lines: only the byte 10 ends one, and what stands behind the last newline is no line.
use Rattle.std.specs.Prelude.{ℕ, zero, suc, ◌+◌, List, [], ◌∷◌, Bool, cond, not, length, drop, eqb}
use Rattle.base.specs.Leading.{leading}

-- lines, each without its newline, and what stands behind the last newline
pub data Lines : Type 0 where
  behind : List ℕ → Lines
  line : List ℕ → Lines → Lines

-- a byte put in front of the first line
abbrev pub onto : ℕ → Lines → Lines
onto b (behind p) = behind (b ∷ p)
onto b (line p ls) = line (b ∷ p) ls

-- the lines of a text
unfoldable pub split : List ℕ → Lines
split [] = behind []
split (b ∷ s) = cond (eqb b 10) (line [] (split s)) (onto b (split s))

-- the line at index p; empty where there is none
unfoldable pub line_at : ℕ → Lines → List ℕ
line_at p (behind s) = []
line_at zero (line l ls) = l
line_at (suc p) (line l ls) = line_at p ls

-- how many lines there are
unfoldable pub line_count : Lines → ℕ
line_count (behind s) = 0
line_count (line l ls) = suc (line_count ls)

-- the byte at which the line at index p starts; where there is none, the byte behind the last newline
unfoldable pub line_start : ℕ → Lines → ℕ
line_start p (behind s) = 0
line_start zero (line l ls) = 0
line_start (suc p) (line l ls) = length l + 1 + line_start p ls

abbrev pub not_newline : ℕ → Bool
not_newline b = not (eqb b 10)

-- where the line that starts at `at` ends: at the first newline from there on, or at the end of the text
unfoldable pub line_end : List ℕ → ℕ → ℕ
line_end s at = at + leading not_newline (drop at s)
