-- Writing a listing: its answer, the number, place and value of each, and what a lent slice then holds.
use Rattle.std.specs.Prelude.{ℕ, ◌*◌, List, cond, length, take, ltb, Option, Some, None}
use Rattle.base.specs.Lists.{over}
use Rattle.listing.specs.Text.{text_of}

-- the answer of writing words into room for so many bytes, nine a word: how many bytes are written, or none, which is number 10
abbrev pub writing_of : List ℕ → ℕ → Option ℕ
writing_of words room = cond (ltb room (9 * length words)) None (Some (9 * length words))

-- the number in document 01's table, 0 where the listing is written
abbrev pub number_of : Option ℕ → ℕ
number_of (Some n) = 0
number_of None = 10

-- the place of number 10 is 0
abbrev pub place_of : Option ℕ → ℕ
place_of r = 0

-- how many bytes are written: a declined call writes nothing
abbrev pub bytes_written : Option ℕ → ℕ
bytes_written (Some n) = n
bytes_written None = 0

-- what a slice that held `old` then holds: what stands behind the last byte written keeps its value
abbrev pub after_write : List ℕ → List ℕ → List ℕ
after_write words old = over old (take (bytes_written (writing_of words (length old))) (text_of words))
