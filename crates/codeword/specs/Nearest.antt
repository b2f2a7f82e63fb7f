-- Reading a word: the search for a codeword at most two bits away, all 32 counted (document 01, "Codewords").
use Rattle.std.specs.Prelude.{Bool, true, false, List, [], ◌∷◌, ◌++◌, map, ℕ, zero, suc, ◌+◌, ◌*◌, Option, None, Some}
use Rattle.std.specs.Int.Bits.{bit_xor}
use Rattle.codeword.specs.Code.{weight, obeys}

-- the number of bits in which two words differ
unfoldable pub distance : ℕ → ℕ → ℕ
distance a b = weight (bit_xor a b)

-- the numbers of k bits of which d are ones
unfoldable pub words : ℕ → ℕ → List ℕ
words zero zero = 0 ∷ []
words zero (suc d) = []
words (suc k) zero = map (λ x. x * 2) (words k zero)
words (suc k) (suc d) = map (λ x. x * 2) (words k (suc d)) ++ map (λ x. x * 2 + 1) (words k d)

-- what may be wrong with k bits: nothing, one bit, or two
unfoldable pub errors : ℕ → List ℕ
errors k = words k 0 ++ (words k 1 ++ words k 2)

-- the word where the test holds, else the other answer
abbrev pub or_else : Bool → ℕ → Option ℕ → Option ℕ
or_else true w o = Some w
or_else false w o = o

-- the first of the words that obeys the code
unfoldable pub first_codeword : List ℕ → Option ℕ
first_codeword [] = None
first_codeword (w ∷ ws) = let later = first_codeword ws in or_else (obeys w) w later

-- the corrected word: the word itself, else one that differs in one bit, else in two, whichever obeys the code first; else none
unfoldable pub nearest : ℕ → Option ℕ
nearest w = first_codeword (map (bit_xor w) (errors 32))
