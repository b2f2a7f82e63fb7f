-- The (31,21) code with its parity bit: document 01, "Codewords". A word is a number of 32 bits whose top bit is bit 1, sent first.
-- A polynomial modulo 2 is a number whose binary digits are the coefficients; sums and differences modulo 2 are `bit_xor`.
use Rattle.std.specs.Prelude.{Bool, ℕ, zero, suc, ◌+◌, ◌*◌, ◌/◌, ◌%◌, eqb}
use Rattle.std.specs.Int.Bits.{bit_xor}
use Rattle.std.specs.Int.Count.{ones_in}

-- x^10 + x^9 + x^8 + x^6 + x^5 + x^3 + 1
abbrev pub divisor : ℕ
divisor = 0b111_0110_1001

-- for p of degree at most 10: p less the divisor times p's coefficient of x^10
unfoldable pub reduce : ℕ → ℕ
reduce p = bit_xor p (p / 1024 * divisor)

-- the remainder of a polynomial of k coefficients by the divisor: that of the polynomial without its last coefficient,
-- times x, plus that coefficient, reduced
unfoldable pub remainder : ℕ → ℕ → ℕ
remainder zero p = 0
remainder (suc k) p = reduce (remainder k (p / 2) * 2 + p % 2)

-- the number of ones of a word
unfoldable pub weight : ℕ → ℕ
weight w = ones_in 32 w

-- 31 bits, and bit 32, which makes the number of ones even
unfoldable pub with_parity : ℕ → ℕ
with_parity p = p * 2 + weight p % 2

-- the codeword of 21 information bits, the coefficients of x^30 down to x^10
unfoldable pub codeword : ℕ → ℕ
codeword m = with_parity (m * 1024 + remainder 31 (m * 1024))

-- a word obeys the code where it is the codeword of its own bits 1 to 21
unfoldable pub obeys : ℕ → Bool
obeys w = eqb w (codeword (w / 2048))

-- the sync codeword
abbrev pub sync : ℕ
sync = 0x7CD215D8

-- the idle codeword
abbrev pub idle : ℕ
idle = 0x7A89C197

-- an address: bit 1 is 0, then the upper 18 of the identity's 21 bits, then the two bits of the function
abbrev pub address_bits : ℕ → ℕ → ℕ
address_bits identity function = identity / 8 % 262144 * 4 + function % 4

-- a message codeword: bit 1 is 1, then 20 message bits
abbrev pub message_bits : ℕ → ℕ
message_bits bits = 1048576 + bits % 1048576
