-- A phrase book (request R-6): up to 100 lines, each the pairs of a kind 5 text and a newline. An empty one is no book.
use Rattle.std.specs.Prelude.{ℕ, ◌+◌, ◌*◌, List, Bool, cond, not, ◌&&◌, ◌||◌, Option, Some, None, length, get_or, leb, ltb, eqb}
use Rattle.base.specs.Hex.{between, hex_of}
use Rattle.base.specs.Lines.{Lines, behind, line, split, line_at, line_count, line_start, line_end}
use Rattle.text.specs.Coding.{char_run}
use Rattle.text.specs.declared.Coding.TheVariants.{Alphanumeric}
use Rattle.phrases.specs.declared.Phrase.{Phrase}

-- ---- the form of a book: number 19 where it has another

-- an empty book is none
abbrev pub has_book : List ℕ → Bool
has_book b = not (eqb (length b) 0)

-- a phrase: 1 to 240 alphanumeric characters, each written as a pair of digits, and nothing else
unfoldable pub is_phrase : List ℕ → Bool
is_phrase l = between 1 240 (char_run Alphanumeric l) && eqb (2 * char_run Alphanumeric l) (length l)

-- behind k phrases, the first line that is none, or the 101st; 0 where there is no such line. A last line without newline is no phrase
unfoldable pub fault_from : ℕ → Lines → ℕ
fault_from k (behind p) = cond (eqb (length p) 0) 0 (k + 1)
fault_from k (line l ls) = cond (leb 100 k || not (is_phrase l)) (k + 1) (fault_from (k + 1) ls)

-- the place of number 19; 0 for a good book and for none
unfoldable pub book_fault : List ℕ → ℕ
book_fault b = fault_from 0 (split b)

-- the same as an answer: the place, where there is one
abbrev pub first_fault : List ℕ → Option ℕ
first_fault b = cond (eqb (book_fault b) 0) None (Some (book_fault b))

-- the newline that ends the line at byte `at`, if it has one
abbrev pub newline_from : List ℕ → ℕ → Option ℕ
newline_from b at = cond (ltb (line_end b at) (length b)) (Some (line_end b at)) None

-- ---- the phrase that digits name

-- '0' to '9'
abbrev pub is_decimal : ℕ → Bool
is_decimal d = between 48 57 d

-- two raw decimal digits
unfoldable pub is_two_digits : List ℕ → Bool
is_two_digits ds = eqb (length ds) 2 && (is_decimal (get_or ds 0 0) && is_decimal (get_or ds 1 0))

-- the number that they write; the first phrase of a book has number 00
unfoldable pub phrase_number : List ℕ → ℕ
phrase_number ds = hex_of (get_or ds 0 0) * 10 + hex_of (get_or ds 1 0)

-- where phrase p of these lines stands
unfoldable pub phrase_at : ℕ → Lines → Option Phrase
phrase_at p ls = cond (ltb p (line_count ls)) (Some (record { start = line_start p ls; length = length (line_at p ls) })) None

-- where the phrase of a book stands that digits name; none where they are not the two-digit number of one (number 18)
unfoldable pub phrase_for : List ℕ → List ℕ → Option Phrase
phrase_for b ds = cond (is_two_digits ds) (phrase_at (phrase_number ds) (split b)) None

-- its digits
abbrev pub phrase_of : List ℕ → List ℕ → List ℕ
phrase_of b ds = line_at (phrase_number ds) (split b)
