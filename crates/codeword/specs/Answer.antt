-- What the answers of a correction say, with document 01's number and place for each, and R-2's count.
use Rattle.std.specs.Prelude.{ℕ, Option, None, Some}
use Rattle.codeword.specs.Nearest.{distance, nearest}
use Rattle.codeword.specs.declared.Corrected.{Corrected}

-- the answer that a word is corrected to c, with n bits changed
abbrev pub corrected_to : ℕ → ℕ → Option Corrected
corrected_to c n = Some (record { codeword = record { 0 = c }; changed = n })

-- the answer for the received word w and the corrected word, where there is one: that word, and in how many bits the two differ (R-2)
abbrev pub answer : ℕ → Option ℕ → Option Corrected
answer w None = None
answer w (Some c) = corrected_to c (distance w c)

-- 20 where the single word is not correctable; 0 where nothing is declined
abbrev pub number_of : Option Corrected → ℕ
number_of None = 20
number_of (Some a) = 0

-- a single word has no line or batch: the place is 0
abbrev pub place_of : Option Corrected → ℕ
place_of r = 0

-- the corrected word; the received word w itself where it is refused
abbrev pub word_read : ℕ → Option Corrected → ℕ
word_read w None = w
word_read w (Some a) = a.codeword.0

-- how many bits are changed; zero where the word is refused
abbrev pub changed_of : Option Corrected → ℕ
changed_of None = 0
changed_of (Some a) = a.changed

-- how many bits reading a word changes
abbrev pub changed : ℕ → ℕ
changed w = changed_of (answer w (nearest w))
