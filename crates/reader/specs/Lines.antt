-- The page lines of what was heard (document 01, "Page lines").
use Rattle.std.specs.Prelude.{◌≡◌, Bool, true, cond, ◌&&◌, List, [], ◌∷◌, ◌++◌, ℕ, ◌+◌, ◌*◌, ◌%◌, ◌≤◌, eqb, leb, length, Option, Some, None}
use Rattle.text.specs.Answer.{heard_digits}
use Rattle.text.specs.Fives.{fives}
use Rattle.text.specs.declared.Coding.TheVariants.{Numeric, Alphanumeric}
use Rattle.job.specs.Print.{printed}
use Rattle.reader.specs.Reading.{Hearing}

-- without a message word the kind is the function; else function 0 is kind 4, 3 is 5, and 1 and 2 are 6 and 7
abbrev pub kind_heard : ℕ → List ℕ → ℕ
kind_heard f [] = f
kind_heard f (g ∷ gs) = cond (eqb f 0) 4 (cond (eqb f 3) 5 (f + 5))

-- the digits of its text: pairs for numeric and alphanumeric characters, five digits a word behind functions 1 and 2
abbrev pub digits_heard : ℕ → List ℕ → List ℕ
digits_heard f gs = cond (eqb f 0) (heard_digits Numeric gs) (cond (eqb f 3) (heard_digits Alphanumeric gs) (fives gs))

-- the line of a page that was heard
abbrev pub line_heard : Hearing → List ℕ
line_heard h = printed h.identity (kind_heard h.function h.groups) (digits_heard h.function h.groups) h.cut

-- the lines of pages, one after the other
unfoldable pub lines_heard : List Hearing → List ℕ
lines_heard [] = []
lines_heard (h ∷ hs) = line_heard h ++ lines_heard hs

-- the lines of pages behind others stand behind theirs. `lines_append` in proofs/Blocks.antt proves it
abbrev pub LinesAppend : Type 0
LinesAppend = (hs gs : List Hearing) → lines_heard (hs ++ gs) ≡ lines_heard hs ++ lines_heard gs

-- the line of one page more stands behind the others. `lines_more` in proofs/Blocks.antt proves it
abbrev pub LinesMore : Type 0
LinesMore = (hs : List Hearing) (h : Hearing) → lines_heard (hs ++ (h ∷ [])) ≡ lines_heard hs ++ line_heard h

-- ---- one page by itself

-- a page as it was heard; its function has two bits
abbrev pub heard_page : ℕ → ℕ → List ℕ → Bool → Hearing
heard_page identity function groups cut = record { identity = identity; function = function % 4; groups = groups; cut = cut }

-- there is room for ten digits a group, and for eleven bytes a codeword: the address and each group
unfoldable pub room_for : ℕ → ℕ → Hearing → Bool
room_for digits room h = leb (10 * length h.groups) digits && leb (11 * (length h.groups + 1)) room

-- printing its line with so many digits lent and into room for so many bytes: its length, or number 10
abbrev pub printing_heard : ℕ → ℕ → Hearing → Option ℕ
printing_heard digits room h = cond (room_for digits room h) (Some (length (line_heard h))) None

-- what is written over the digits: those of its text, or nothing
abbrev pub digits_written : ℕ → ℕ → Hearing → List ℕ
digits_written digits room h = cond (room_for digits room h) (digits_heard h.function h.groups) []

-- what is written over the bytes: its line, or nothing
abbrev pub line_written : ℕ → ℕ → Hearing → List ℕ
line_written digits room h = cond (room_for digits room h) (line_heard h) []

-- a line takes at most eleven bytes a codeword of its page. `lines_short` in proofs/PageLaws.antt proves it
abbrev pub LinesShort : Type 0
LinesShort = (h : Hearing) → length (line_heard h) ≤ 11 * (length h.groups + 1)

-- there is room where there are so many digits and bytes. `room_enough` in proofs/PageLaws.antt proves it
abbrev pub RoomEnough : Type 0
RoomEnough =
    (digits room : ℕ) (h : Hearing) → 10 * length h.groups ≤ digits → 11 * (length h.groups + 1) ≤ room → room_for digits room h ≡ true
