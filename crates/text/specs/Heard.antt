-- The text of message groups that were heard (document 01, "Texts").
use Rattle.std.specs.Prelude.{ℕ, zero, suc, ◌+◌, ◌-◌, ◌*◌, ◌/◌, ◌%◌, ◌^◌, List, [], ◌∷◌, Bool, cond, not, ◌||◌, eqb, length, get_or, take}
use Rattle.base.specs.Hex.{between}
use Rattle.base.specs.Leading.{leading}
use Rattle.base.specs.Lists.{tab}
use Rattle.text.specs.Numeric.{numeric_byte}
use Rattle.text.specs.Coding.{width_of}
use Rattle.text.specs.declared.Coding.{Coding}
use Rattle.text.specs.declared.Coding.TheVariants.{Numeric, Alphanumeric}

-- bit p of groups, the first of each on top; 0 behind the last group
abbrev pub bit_in : List ℕ → ℕ → ℕ
bit_in gs p = get_or gs (p / 20) 0 / 2 ^ (19 - p % 20) % 2

-- the number that n bits write, the first the least significant
unfoldable pub from_low : (ℕ → ℕ) → ℕ → ℕ
from_low bit zero = 0
from_low bit (suc n) = bit n * 2 ^ n + from_low bit n

-- the value of the character at index i: characters run on across the groups, each one's low bit first
abbrev pub char_in : Coding → List ℕ → ℕ → ℕ
char_in c gs i = from_low (λ b. bit_in gs (width_of c * i + b)) (width_of c)

-- the byte that shows a value: Table III with the spare as *; an alphanumeric character as it is
abbrev pub shown : Coding → ℕ → ℕ
shown Numeric v = numeric_byte v
shown Alphanumeric v = v

-- the character at index i as it is shown
abbrev pub char_heard : Coding → List ℕ → ℕ → ℕ
char_heard c gs i = shown c (char_in c gs i)

-- how many whole characters so many groups have: an incomplete last one is dropped
abbrev pub whole_in : Coding → ℕ → ℕ
whole_in c n = 20 * n / width_of c

-- all whole characters as they are shown
abbrev pub chars_in : Coding → List ℕ → List ℕ
chars_in c gs = tab (char_heard c gs) (whole_in c (length gs))

-- a byte in front of what is left of those behind it; a space goes where nothing is left
abbrev pub ahead : ℕ → List ℕ → List ℕ
ahead b [] = cond (eqb b 32) [] (b ∷ [])
ahead b (x ∷ s) = b ∷ x ∷ s

-- without all trailing spaces
unfoldable pub trimmed : List ℕ → List ℕ
trimmed [] = []
trimmed (b ∷ s) = ahead b (trimmed s)

-- 0, 3 and 4 end an alphanumeric text
abbrev pub ends : ℕ → Bool
ends b = eqb b 0 || between 3 4 b

-- any other goes on
abbrev pub goes_on : ℕ → Bool
goes_on b = not (ends b)

-- what stands before the first 0, 3 or 4
abbrev pub until_end : List ℕ → List ℕ
until_end s = take (leading goes_on s) s

-- the text of groups: numeric without its trailing spaces, alphanumeric up to its end
unfoldable pub heard_text : Coding → List ℕ → List ℕ
heard_text Numeric gs = trimmed (chars_in Numeric gs)
heard_text Alphanumeric gs = until_end (chars_in Alphanumeric gs)
