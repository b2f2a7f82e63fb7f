-- Texts as bits (document 01, "Texts"): which characters a coding has, and the 20 bits of each group.
use Rattle.std.specs.Prelude.{ℕ, zero, suc, ◌+◌, ◌-◌, ◌*◌, ◌/◌, ◌%◌, ◌^◌, List, [], ◌∷◌, Bool, true, false, cond, not, ◌&&◌, eqb, length, get_or, Option, Some, None}
use Rattle.base.specs.Hex.{between, is_hex, hex_of}
use Rattle.base.specs.Lists.{tab}
use Rattle.text.specs.Numeric.{numeric_of}
use Rattle.text.specs.declared.Coding.{Coding}
use Rattle.text.specs.declared.Coding.TheVariants.{Numeric, Alphanumeric}

-- whether there is a value
abbrev pub has_value : Option ℕ → Bool
has_value (Some n) = true
has_value None = false

-- the value, or 0 where there is none
abbrev pub value_or0 : Option ℕ → ℕ
value_or0 (Some n) = n
value_or0 None = 0

-- the Table III characters, without the spare
abbrev pub is_numeric : ℕ → Bool
is_numeric b = has_value (numeric_of b)

-- the characters of a coding: Table III; bytes 1 to 127 without 3 and 4
abbrev pub char_ok : Coding → ℕ → Bool
char_ok Numeric b = is_numeric b
char_ok Alphanumeric b = between 1 127 b && not (between 3 4 b)

-- whether two bytes are digits that write a character
abbrev pub pair_ok : Coding → ℕ → ℕ → Bool
pair_ok c h l = is_hex h && (is_hex l && char_ok c (hex_of h * 16 + hex_of l))

-- how many characters a text begins with, each written as a pair of digits
unfoldable pub char_run : Coding → List ℕ → ℕ
char_run c [] = 0
char_run c (h ∷ []) = 0
char_run c (h ∷ l ∷ s) = cond (pair_ok c h l) (suc (char_run c s)) 0

-- whether a numeric text ends in a space, which reading would drop (number 7); an alphanumeric one may
unfoldable pub ends_in_space : Coding → List ℕ → Bool
ends_in_space Numeric bytes = eqb (get_or bytes (length bytes - 1) 0) 32
ends_in_space Alphanumeric bytes = false

-- bits a character
abbrev pub width_of : Coding → ℕ
width_of Numeric = 4
width_of Alphanumeric = 7

-- fill: the space; zero bits
abbrev pub fill_of : Coding → ℕ
fill_of Numeric = 32
fill_of Alphanumeric = 0

-- a character's bits as a number
abbrev pub value_of : Coding → ℕ → ℕ
value_of Numeric b = value_or0 (numeric_of b)
value_of Alphanumeric b = b

-- bit p of a text, counted from 0: each character's low bit first, the characters run on, and fill behind them
unfoldable pub bit_of : Coding → List ℕ → ℕ → ℕ
bit_of c bytes p = value_of c (get_or bytes (p / width_of c) (fill_of c)) / 2 ^ (p % width_of c) % 2

-- the number that the n bits from `at` write, the first the most significant, behind what `acc` has already
unfoldable pub bits_from : (ℕ → ℕ) → ℕ → ℕ → ℕ → ℕ
bits_from bit at zero acc = acc
bits_from bit at (suc n) acc = bits_from bit (at + 1) n (acc * 2 + bit at)

-- the n low bits of a number, turned round: its lowest bit is the most significant
unfoldable pub turned_of : ℕ → ℕ → ℕ
turned_of n x = bits_from (λ p. x / 2 ^ p % 2) 0 n 0

-- the 20 bits of the group at index g
unfoldable pub group_of : Coding → List ℕ → ℕ → ℕ
group_of c bytes g = bits_from (bit_of c bytes) (20 * g) 20 0

-- how many groups so many characters take
abbrev pub groups_of : Coding → ℕ → ℕ
groups_of c count = (count * width_of c + 19) / 20

-- the groups of a text
unfoldable pub groups_in : Coding → List ℕ → List ℕ
groups_in c bytes = tab (group_of c bytes) (groups_of c (length bytes))
