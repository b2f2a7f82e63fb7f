-- The correction theorem: what the code is, and what reading a word does, for every word of 32 bits (document 01, "Codewords").
use Rattle.std.specs.Prelude.{◌≡◌, ℕ, ◌^◌, ◌≤◌, ◌<◌, T, None, Some}
use Rattle.std.specs.Int.Bits.{bit_xor}
use Rattle.codeword.specs.Answer.{answer, number_of, place_of, changed}
use Rattle.codeword.specs.Code.{remainder, codeword, obeys, sync, idle, address_bits, message_bits}
use Rattle.codeword.specs.Nearest.{distance, nearest}

-- a word of 32 bits that obeys the code
pub record Obeying (c : ℕ) : Type 0 where
  pub fits : c < 2 ^ 32
  pub obeying : T (obeys c)

-- c is a codeword at most two bits away from w, all 32 bits counted
pub record Near (w c : ℕ) : Type 0 where
  pub codeword : Obeying c
  pub close : distance w c ≤ 2

-- no codeword is at most two bits away from w
abbrev pub Far : ℕ → Type 0
Far w = (c : ℕ) → Near w c → ⊥

pub record CorrectionTheorem : Type 0 where
  -- the remainder of a sum modulo 2 is the sum of the remainders
  pub linear : (p q : ℕ) → remainder 31 (bit_xor p q) ≡ bit_xor (remainder 31 p) (remainder 31 q)
  -- sync, idle and the codeword of any 21 bits obey the code, so every address and every message codeword does
  pub of_sync : Obeying sync
  pub of_idle : Obeying idle
  pub of_bits : (m : ℕ) → m < 2 ^ 21 → Obeying (codeword m)
  pub of_address : (identity function : ℕ) → Obeying (codeword (address_bits identity function))
  pub of_message : (bits : ℕ) → Obeying (codeword (message_bits bits))
  -- at most one codeword is at most two bits away
  pub at_most_one : (w c d : ℕ) → w < 2 ^ 32 → Near w c → Near w d → c ≡ d
  -- a word reads as the codeword at most two bits away, and as nothing else
  pub reads : (w c : ℕ) → w < 2 ^ 32 → Near w c → nearest w ≡ Some c
  pub reads_near : (w c : ℕ) → w < 2 ^ 32 → nearest w ≡ Some c → Near w c
  -- as many bits are changed as differ: none, one or two
  pub counts : (w c : ℕ) → w < 2 ^ 32 → Near w c → changed w ≡ distance w c
  pub counts_few : (w : ℕ) → w < 2 ^ 32 → changed w ≤ 2
  -- any other word is refused: number 20, place 0, is given exactly where no codeword is at most two bits away, and no bit is changed
  pub refuses : (w : ℕ) → w < 2 ^ 32 → Far w → nearest w ≡ None
  pub refusal : (w : ℕ) → w < 2 ^ 32 → Far w → (number_of (answer w (nearest w)) ≡ 20) × (place_of (answer w (nearest w)) ≡ 0)
  pub refusal_far : (w : ℕ) → w < 2 ^ 32 → number_of (answer w (nearest w)) ≡ 20 → Far w
  pub counts_none : (w : ℕ) → w < 2 ^ 32 → Far w → changed w ≡ 0
  -- three flips of a codeword are always refused: a word three bits away from one is at most two bits away from none
  pub three_far : (w c : ℕ) → w < 2 ^ 32 → Obeying c → distance w c ≡ 3 → Far w
