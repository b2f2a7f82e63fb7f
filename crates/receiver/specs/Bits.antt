-- A recording: the radio's bits, eight to a byte, the first on top (document 02, R-10).
use Rattle.std.specs.Prelude.{List, ℕ, ◌-◌, ◌*◌, ◌/◌, ◌%◌, ◌^◌, length, get_or}
use Rattle.text.specs.Coding.{bits_from}

-- how many bits it has
abbrev pub bit_count : List ℕ → ℕ
bit_count s = 8 * length s

-- the bit at position p, counted from 0
unfoldable pub bit_at : List ℕ → ℕ → ℕ
bit_at s p = get_or s (p / 8) 0 / 2 ^ (7 - p % 8) % 2

-- the 32 bits from position p on, the first on top
abbrev pub word_from : List ℕ → ℕ → ℕ
word_from s p = bits_from (bit_at s) p 32 0
