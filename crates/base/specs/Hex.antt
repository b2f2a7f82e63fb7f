-- Upper-case hexadecimal digits, as all lines of document 01 are written in, and bytes as pairs of them.
use Rattle.std.specs.Prelude.{ℕ, zero, suc, ◌+◌, ◌-◌, ◌*◌, ◌/◌, ◌%◌, ◌^◌, List, [], ◌∷◌, Bool, cond, ◌&&◌, ◌||◌, leb, eqb, length, Option, Some, None}
use Rattle.base.specs.Leading.{leading}

-- lo to hi, both counted
abbrev pub between : ℕ → ℕ → ℕ → Bool
between lo hi b = leb lo b && leb b hi

-- '0' to '9' and 'A' to 'F'
unfoldable pub is_hex : ℕ → Bool
is_hex b = between 48 57 b || between 65 70 b

-- the value of a digit; 0 for any other byte
unfoldable pub hex_of : ℕ → ℕ
hex_of b = cond (between 48 57 b) (b - 48) (cond (between 65 70 b) (b - 55) 0)

-- the value of a digit; 16, which no digit has, for any other byte
unfoldable pub digit_value : ℕ → ℕ
digit_value b = cond (is_hex b) (hex_of b) 16

-- the digit of a value below 16: '0' to '9', then 'A' to 'F'
unfoldable pub digit_of : ℕ → ℕ
digit_of v = cond (leb v 9) (v + 48) (v + 55)

-- the number that digits write, the first the most significant, behind what `n` has already
abbrev pub hex_number : ℕ → List ℕ → ℕ
hex_number n [] = n
hex_number n (b ∷ s) = hex_number (n * 16 + hex_of b) s

-- the number that bytes write, its low 32 bits where there are more than eight; none where one of them is no digit
unfoldable pub hex_word : List ℕ → Option ℕ
hex_word s = cond (eqb (leading is_hex s) (length s)) (Some (hex_number 0 s % 2 ^ 32)) None

-- the k lowest digits of a number, the most significant first
unfoldable pub digits_of : ℕ → ℕ → List ℕ
digits_of zero n = []
digits_of (suc k) n = digit_of (n / 16 ^ k % 16) ∷ digits_of k n

-- the bytes that pairs of digits write
abbrev pub bytes_of : List ℕ → List ℕ
bytes_of [] = []
bytes_of (h ∷ []) = []
bytes_of (h ∷ l ∷ s) = (hex_of h * 16 + hex_of l) ∷ bytes_of s

-- bytes written as pairs of digits
unfoldable pub pairs_of : List ℕ → List ℕ
pairs_of [] = []
pairs_of (b ∷ s) = digit_of (b / 16) ∷ digit_of (b % 16) ∷ pairs_of s
