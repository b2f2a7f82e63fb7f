-- A page line as it is printed (document 01, "Page lines"), into a lent slice that may be too short for it.
use Rattle.std.specs.Prelude.{ℕ, ◌%◌, Bool, true, false, cond, List, [], ◌∷◌, ◌++◌, length, ltb, Option, Some, None}
use Rattle.base.specs.Hex.{digit_of, digits_of}

-- six digits of identity, a space, a digit of kind
abbrev pub head_of : ℕ → ℕ → List ℕ
head_of identity kind = digits_of 6 identity ++ (32 ∷ digit_of (kind % 16) ∷ [])

-- a space before the text's digits; where the text is empty there is none
abbrev pub spaced : List ℕ → List ℕ
spaced [] = []
spaced (d ∷ ds) = 32 ∷ d ∷ ds

-- the newline, and before it a `-` where the page was cut short
abbrev pub ending : Bool → List ℕ
ending true = 45 ∷ 10 ∷ []
ending false = 10 ∷ []

-- the line of a page whose text is written in these digits
unfoldable pub printed : ℕ → ℕ → List ℕ → Bool → List ℕ
printed identity kind digits cut = head_of identity kind ++ (spaced digits ++ ending cut)

-- printing a line into room for so many bytes: its length, or number 10
abbrev pub printing_of : ℕ → List ℕ → Option ℕ
printing_of room line = cond (ltb room (length line)) None (Some (length line))

-- how many bytes of the line are written: all, or none
abbrev pub bytes_printed : Option ℕ → ℕ
bytes_printed (Some n) = n
bytes_printed None = 0

-- the number in document 01's table, 0 where the line is printed
abbrev pub number_of : Option ℕ → ℕ
number_of (Some n) = 0
number_of None = 10

-- the place of number 10 is 0
abbrev pub place_of : Option ℕ → ℕ
place_of r = 0
