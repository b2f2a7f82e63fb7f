-- R-14: the words that the slow engine tries, in the order in which it tries them.
use Rattle.std.specs.Prelude.{map, ℕ, ◌*◌, ◌-◌, ◌^◌, Option, option_map}
use Rattle.std.specs.Int.Bits.{bit_xor}
use Rattle.codeword.specs.Nearest.{words, first_codeword}
use Rattle.codeword.specs.declared.Codeword.{Codeword}

-- the first codeword that is w with d of its first n bits flipped
unfoldable pub tried : ℕ → ℕ → ℕ → Option ℕ
tried w n d = first_codeword (map (λ e. bit_xor w (e * 2 ^ (32 - n))) (words n d))

-- the same as the code returns it
abbrev pub as_codeword : ℕ → Codeword
as_codeword c = record { 0 = c }

abbrev pub tried_codeword : ℕ → ℕ → ℕ → Option Codeword
tried_codeword w n d = option_map as_codeword (tried w n d)
