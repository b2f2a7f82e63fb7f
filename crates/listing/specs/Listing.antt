-- What any byte string is as a listing (document 01, "Listings and reading" and numbers 21 and 23 of its table): its preamble
-- lines and batches, or the fault of the first line that is not right.
use Rattle.std.specs.Prelude.{ℕ, zero, suc, ◌+◌, ◌/◌, ◌%◌, List, Bool, cond, ◌&&◌, length, get_or, take, drop, ltb, eqb, Result, Ok, Err}
use Rattle.base.specs.Hex.{is_hex}
use Rattle.base.specs.Leading.{leading}
use Rattle.base.specs.Lines.{Lines, behind, line, split}
use Rattle.listing.specs.declared.Fault.{Fault}
use Rattle.listing.specs.declared.Fault.TheVariants.{Malformed, TooMany}
use Rattle.listing.specs.declared.Shape.{Shape}

-- what a byte string is: a listing of so many preamble lines and batches, or its fault
abbrev pub Listing : Type 0
Listing = Result Shape Fault

abbrev pub well_formed : ℕ → ℕ → Listing
well_formed p b = Ok (record { preamble = p; batches = b })

-- a word: eight upper-case digits
abbrev pub is_word : List ℕ → Bool
is_word w = eqb (length w) 8 && eqb (leading is_hex w) 8

-- a line with the sync word alone; which word it is, is not asked here (number 22 comes after all lines)
unfoldable pub has_one : List ℕ → Bool
has_one l = is_word l

-- a frame line: two words with a space between
unfoldable pub has_two : List ℕ → Bool
has_two l = is_word (take 8 l) && eqb (get_or l 8 0) 32 && is_word (drop 9 l)

-- how many frame lines stand in front, counted up to n; their contents are not examined
unfoldable pub frames_in : ℕ → Lines → ℕ
frames_in zero ls = 0
frames_in (suc n) (behind t) = 0
frames_in (suc n) (line l ls) = cond (has_two l) (suc (frames_in n ls)) 0

-- the preamble lines: at most 36 are allowed
abbrev pub preamble_of : Lines → ℕ
preamble_of ls = frames_in 36 ls

-- what stands behind the first n lines
unfoldable pub skip : ℕ → Lines → Lines
skip zero ls = ls
skip (suc n) (behind t) = behind t
skip (suc n) (line l ls) = skip n ls

-- line q, from 0, of the batches: nine a batch, the sync word by itself on the first, a frame on each other
unfoldable pub is_due : ℕ → List ℕ → Bool
is_due q l = cond (eqb (q % 9) 0) (has_one l) (has_two l)

-- q lines are whole batches, and at least one batch
unfoldable pub is_whole : ℕ → Bool
is_whole q = ltb 0 q && eqb (q % 9) 0

-- behind p preamble lines and q lines of batches, from the top, as met: 21 at a line that is malformed or has no newline, and
-- at the line after the last where the listing ends early; 23 at the first line of a 301st batch
unfoldable pub batches : ℕ → ℕ → Lines → Listing
batches p q (behind t) = cond (eqb (length t) 0 && is_whole q) (well_formed p (q / 9)) (Err (Malformed (p + q + 1)))
batches p q (line l ls) =
    cond (is_due q l)
    (cond (eqb q 2700) (Err (TooMany (p + q + 1))) (batches p (q + 1) ls))
    (Err (Malformed (p + q + 1)))

-- p preamble lines, 9 at least, and the batches behind them
abbrev pub judge : ℕ → Lines → Listing
judge p ls = cond (ltb p 9) (Err (Malformed (p + 1))) (batches p 0 ls)

-- what a byte string is as a listing
unfoldable pub listing_of : List ℕ → Listing
listing_of s = judge (preamble_of (split s)) (skip (preamble_of (split s)) (split s))
