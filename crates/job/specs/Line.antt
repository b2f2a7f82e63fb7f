-- What one page line says, without its newline: a page, or its first refusal in the order of the table (document 01, "Page lines"),
-- where 12, 13 and 14 have 5's rank, between 4 and 6 (request R-1), 25 comes between 4 and them (request R-11), and 18 has their rank
-- (request R-6).
use Rattle.std.specs.Prelude.{ℕ, ◌+◌, ◌-◌, ◌/◌, ◌%◌, ◌≡◌, List, Bool, false, cond, not, ◌&&◌, ◌||◌, Option, Some, None, Result, Ok, Err, length, get_or, take, drop, leb, ltb, eqb}
use Rattle.base.specs.Hex.{between, is_hex, hex_of, hex_number, bytes_of}
use Rattle.base.specs.Leading.{leading}
use Rattle.text.specs.Coding.{char_ok, ends_in_space}
use Rattle.text.specs.declared.Coding.{Coding}
use Rattle.text.specs.declared.Coding.TheVariants.{Numeric, Alphanumeric}
use Rattle.phrases.specs.Book.{has_book, phrase_for}
use Rattle.phrases.specs.declared.Phrase.{Phrase}
use Rattle.job.specs.declared.Refusal.{Refusal}
use Rattle.job.specs.declared.Refusal.TheVariants.{Malformed, IdentityRange, IdentityReserved, UnknownKind, PartialGroup, ToneWithText, TextMissing, TextTooLong, NoPhrase, Character, TrailingSpace}
use Rattle.job.specs.declared.Page.{Page}

-- ---- the parts of a line

-- the identity that the first six digits write
abbrev pub identity_of : List ℕ → ℕ
identity_of l = hex_number 0 (take 6 l)

-- the kind that the seventh digit writes
abbrev pub kind_of : List ℕ → ℕ
kind_of l = hex_of (get_or l 7 0)

-- the digits of the text, behind the second space
abbrev pub text_digits : List ℕ → List ℕ
text_digits l = drop 9 l

-- the bytes of a text whose digits are pairs
abbrev pub text_of : List ℕ → List ℕ
text_of l = bytes_of (text_digits l)

-- the page of a line that starts at byte `at`, with a text of its own; the text's digits stand behind six digits, a space, a digit and a space
abbrev pub page_from : ℕ → List ℕ → Page
page_from at l = record { identity = identity_of l; kind = kind_of l; start = at + 9; length = length l - 9 }

-- ---- identities and kinds

-- the upper address values of idle and sync are reserved (number 3)
unfoldable pub is_reserved : ℕ → Bool
is_reserved identity = eqb (identity / 8) 250958 || eqb (identity / 8) 255632

-- kinds 6 and 7 are data (request R-11)
unfoldable pub is_data : ℕ → Bool
is_data kind = between 6 7 kind

-- the most characters of a kind: a tone has none, a numeric text up to 60, an alphanumeric one up to 240
unfoldable pub longest_of : ℕ → ℕ
longest_of kind = cond (leb kind 3) 0 (cond (eqb kind 4) 60 240)

-- kind 4 is numeric, kind 5 alphanumeric
unfoldable pub coding_of : ℕ → Coding
coding_of kind = cond (eqb kind 4) Numeric Alphanumeric

-- kind 9, a phrase of the book, is sent as an alphanumeric text (request R-6)
unfoldable pub kind_sent : ℕ → ℕ
kind_sent kind = cond (eqb kind 9) 5 kind

-- numeric texts have function 0, alphanumeric ones 3, data 1 and 2, and a tone that of its kind
unfoldable pub function_of : ℕ → ℕ
function_of kind = cond (eqb kind 4) 0 (cond (eqb kind 5) 3 (cond (eqb kind 6) 1 (cond (eqb kind 7) 2 kind)))

-- how many of the kind's characters a text begins with; the first bad one stands behind them
abbrev pub good_run : ℕ → List ℕ → ℕ
good_run kind bytes = leading (char_ok (coding_of kind)) bytes

-- so many of them were counted in the digits of a text, where it has characters and is no data
abbrev pub Counted : ℕ → List ℕ → ℕ → Type 0
Counted kind digits good = is_data kind ≡ false → good ≡ good_run kind (bytes_of digits)

-- ---- the form of a line: number 1 where it has another

-- upper-case hexadecimal digits only
abbrev pub all_hex : List ℕ → Bool
all_hex s = eqb (leading is_hex s) (length s)

-- one or more digits
unfoldable pub is_digits : List ℕ → Bool
is_digits t = not (eqb (length t) 0) && all_hex t

-- one or more pairs of digits
unfoldable pub is_pairs : List ℕ → Bool
is_pairs t = eqb (length t % 2) 0 && is_digits t

-- the front: six digits of identity, a space, one digit of kind
unfoldable pub head_formed : List ℕ → Bool
head_formed l = leb 8 (length l) && (all_hex (take 6 l) && (eqb (get_or l 6 0) 32 && is_hex (get_or l 7 0)))

-- a text: pairs of digits; of data, any number of them
unfoldable pub text_formed : ℕ → List ℕ → Bool
text_formed kind t = cond (is_data kind) (is_digits t) (is_pairs t)

-- what stands behind the kind: nothing, or a space and a text; a second space without a text is malformed
unfoldable pub tail_formed : ℕ → List ℕ → Bool
tail_formed kind t = eqb (length t) 0 || (eqb (get_or t 0 0) 32 && text_formed kind (drop 1 t))

-- a line of the form
unfoldable pub well_formed : List ℕ → Bool
well_formed l = head_formed l && tail_formed (kind_of l) (drop 8 l)

-- ---- the refusals, the last in rank first

-- kinds 0 to 3: a tone has no text (number 12)
unfoldable pub tone_page_of : Page → List ℕ → Result Page Refusal
tone_page_of page digits = cond (eqb (length digits) 0) (Ok page) (Err ToneWithText)

-- kinds 4 and 5: no character (number 13), too many (14), one outside the kind's with its position (6), a space that ends a numeric text (7)
unfoldable pub text_page_of : Page → List ℕ → Result Page Refusal
text_page_of page bytes =
    cond (eqb (length bytes) 0) (Err TextMissing)
    (cond (ltb (longest_of page.kind) (length bytes)) (Err TextTooLong)
    (cond (ltb (good_run page.kind bytes) (length bytes)) (Err (Character (good_run page.kind bytes + 1)))
    (cond (ends_in_space (coding_of page.kind) bytes) (Err TrailingSpace)
    (Ok page))))

-- kinds 6 and 7: digits that make no whole groups of five (number 25), no group (13), more than 84 (14)
unfoldable pub data_page_of : Page → List ℕ → Result Page Refusal
data_page_of page digits =
    cond (ltb 0 (length digits % 5)) (Err PartialGroup)
    (cond (eqb (length digits) 0) (Err TextMissing)
    (cond (ltb 84 (length digits / 5)) (Err TextTooLong)
    (Ok page)))

-- kind 9: the phrase of the book that the digits name is the page's text; where they name none, number 18
abbrev pub phrase_page_of : Page → Option Phrase → Result Page Refusal
phrase_page_of page (Some f) = Ok (record { identity = page.identity; kind = page.kind; start = f.start; length = f.length })
phrase_page_of page None = Err NoPhrase

-- by the kind, which is 0 to 7, or 9 where there is a book (number 4)
unfoldable pub kind_page_of : List ℕ → Page → List ℕ → Result Page Refusal
kind_page_of b page digits =
    cond (between 0 3 page.kind) (tone_page_of page digits)
    (cond (between 4 5 page.kind) (text_page_of page (bytes_of digits))
    (cond (is_data page.kind) (data_page_of page digits)
    (cond (eqb page.kind 9 && has_book b) (phrase_page_of page (phrase_for b digits))
    (Err UnknownKind))))

-- the identity is at most 1FFFFF (number 2) and not reserved (number 3)
unfoldable pub page_of : List ℕ → Page → List ℕ → Result Page Refusal
page_of b page digits =
    cond (ltb 0x1FFFFF page.identity) (Err IdentityRange)
    (cond (is_reserved page.identity) (Err IdentityReserved)
    (kind_page_of b page digits))

-- what a line says that starts at byte `at`, with the book b
unfoldable pub line_of : List ℕ → ℕ → List ℕ → Result Page Refusal
line_of b at l = cond (well_formed l) (page_of b (page_from at l) (text_digits l)) (Err Malformed)
