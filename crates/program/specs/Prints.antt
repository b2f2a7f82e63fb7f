-- What the programs print for their standard input, the sending one with its phrase book, the following one for its identity, and the
-- coverage program for what its files add up to (document 01, "The two programs", and number 24 of its table; requests R-1, R-4, R-6, R-10
-- and R-12).
use Rattle.std.specs.Prelude.{ℕ, Bool, cond, Option, None, List, [], ◌∷◌, ◌++◌, length, eqb, ltb, Result, ⊤}
use Rattle.base.specs.Hex.{hex_word}
use Rattle.job.specs.Submission.{Submission}
use Rattle.job_listing.specs.Listed as listed
use Rattle.job_listing.specs.Listed.{listing_text, listed_of}
use Rattle.listing.specs.Words.{words_of}
use Rattle.reader.specs.Answers.{read_listing, lines_read, number_of, place_of}
use Rattle.follower.specs.Pages.{pages_for}
use Rattle.follower.specs.Answers as following
use Rattle.follower.specs.Answers.{follow_listing, lines_of}
use Rattle.receiver.specs.Answers as receiving
use Rattle.receiver.specs.Answers.{receive_bits, lines_received}
use Rattle.coverage.specs.Report as covering
use Rattle.coverage.specs.declared.AddError.{AddError}
use Rattle.coverage.specs.declared.Coverage.{Coverage}
use Rattle.program.specs.Decimal.{decimal}
use Rattle.program.specs.CoverageText.{coverage_text}

-- `refused `
abbrev pub refused_word : List ℕ
refused_word = 114 ∷ 101 ∷ 102 ∷ 117 ∷ 115 ∷ 101 ∷ 100 ∷ 32 ∷ []

-- ` place `
abbrev pub place_word : List ℕ
place_word = 32 ∷ 112 ∷ 108 ∷ 97 ∷ 99 ∷ 101 ∷ 32 ∷ []

-- what stands behind the place: with number 6 a space and the position, with every other number nothing
abbrev pub position_part : ℕ → ℕ → List ℕ
position_part n c = cond (eqb n 6) (32 ∷ decimal c) []

-- the line `refused N place P`, or `refused 6 place P C`
unfoldable pub refusal_line : ℕ → ℕ → ℕ → List ℕ
refusal_line n p c = refused_word ++ (decimal n ++ (place_word ++ (decimal p ++ (position_part n c ++ (10 ∷ [])))))

-- an answer with this number, place and position: its text where nothing is declined, else the line of the refusal
abbrev pub answer_text : ℕ → ℕ → ℕ → List ℕ → List ℕ
answer_text n p c text = cond (eqb n 0) text (refusal_line n p c)

-- a standard input of over 65,536 bytes: number 24
abbrev pub is_long : List ℕ → Bool
is_long input = ltb 65536 (length input)

-- which comes before all others
abbrev pub unless_long : List ℕ → List ℕ → List ℕ
unless_long input text = cond (is_long input) (refusal_line 24 0 0) text

-- the sending program, which has room for 46,062 bytes: a job's listing
unfoldable pub send_prints : Submission → List ℕ
send_prints s =
    unless_long s.job (answer_text (listed.number_of (listed_of s 46062)) (listed.place_of (listed_of s 46062)) (listed.position_of (listed_of s 46062)) (listing_text s))

-- the reading programs, which have room for 48,000 bytes: a listing's page lines in slot order; its refusals have no position
unfoldable pub read_prints : List ℕ → List ℕ
read_prints s =
    unless_long s (answer_text (number_of (read_listing s 48000)) (place_of (read_listing s 48000)) 0 (lines_read (read_listing s 48000) (words_of s)))

-- the following program, for identity i and with as much room: that identity's page lines in slot order (request R-4)
unfoldable pub follow_prints : ℕ → List ℕ → List ℕ
follow_prints i s =
    unless_long s (answer_text (following.number_of (follow_listing i s 48000)) (following.place_of (follow_listing i s 48000)) 0 (lines_of (follow_listing i s 48000) (pages_for i (words_of s))))

-- the identity that its argument names: six upper-case digits, else none
abbrev pub identity_named : List ℕ → Option ℕ
identity_named a = cond (eqb (length a) 6) (hex_word a) None

-- the receiving program, which has room for 48,300 bytes: a recording's page lines in slot order (request R-10)
unfoldable pub receive_prints : List ℕ → List ℕ
receive_prints s =
    unless_long s (answer_text (receiving.number_of (receive_bits s 48300)) (receiving.place_of (receive_bits s 48300)) 0 (lines_received (receive_bits s 48300) s))

-- the coverage program, for its last answer and the report then: the report's lines (request R-12)
unfoldable pub cover_prints : Result ⊤ AddError → Coverage → List ℕ
cover_prints a c = answer_text (covering.number_of a) (covering.place_of a) 0 (coverage_text c)
