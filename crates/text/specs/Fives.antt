-- Data (document 01, "Page lines"; request R-11): five hexadecimal digits a group, both ways.
use Rattle.std.specs.Prelude.{ℕ, ◌*◌, ◌/◌, ◌%◌, ◌≤◌, ◌≡◌, List, [], ◌∷◌, ◌++◌, length, take, drop}
use Rattle.base.specs.Hex.{is_hex, hex_number, digits_of}
use Rattle.base.specs.Leading.{leading}
use Rattle.base.specs.Lists.{tab}

-- the 20 bits of the group at index g (R-11): the number that its five digits write, the first on top
abbrev pub five_at : List ℕ → ℕ → ℕ
five_at digits g = hex_number 0 (take 5 (drop (5 * g) digits))

-- the groups of digits, one a message codeword (R-11); digits at the end that make no whole group are left out
unfoldable pub fives_in : List ℕ → List ℕ
fives_in digits = tab (five_at digits) (length digits / 5)

-- the digits of groups, five a message word, as document 01 has kinds 6 and 7 printed
unfoldable pub fives : List ℕ → List ℕ
fives [] = []
fives (g ∷ gs) = digits_of 5 g ++ fives gs

-- demand 2 for data: upper-case digits that make whole groups come back. `fives_back` in proofs/FivesBack.antt proves it
abbrev pub FivesBack : Type 0
FivesBack = (digits : List ℕ) → length digits % 5 ≡ 0 → length digits ≤ leading is_hex digits → fives (fives_in digits) ≡ digits
