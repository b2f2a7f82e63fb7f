-- How many of the changed bits count in the slots, and the sums over slots and sync words (R-2).
use Rattle.std.specs.Prelude.{ℕ}
use Rattle.base.specs.Search.{sum}
use Rattle.codeword.specs.Answer.{changed}
use Rattle.codeword.specs.Nearest.{nearest}
use Rattle.reader.specs.Meaning.{meaning}
use Rattle.reader.specs.declared.Meaning.{Meaning}
use Rattle.reader.specs.declared.Meaning.TheVariants.{Lost, Idle, Address, Message}

-- how many of a word's changed bits count, by what it says: none where it is lost, whatever was mended in it
abbrev pub unless_lost : Meaning → ℕ → ℕ
unless_lost Lost n = 0
unless_lost Idle n = n
unless_lost (Address u f) n = n
unless_lost (Message b) n = n

-- how many count in a slot's word
unfoldable pub slot_changed : ℕ → ℕ
slot_changed w = unless_lost (meaning (nearest w)) (changed w)

-- how many count in the words of the first n slots
abbrev pub slots_changed : (ℕ → ℕ) → ℕ → ℕ
slots_changed word n = sum (λ s. slot_changed (word s)) n

-- how many bits are changed in the first n sync words
abbrev pub syncs_changed : (ℕ → ℕ) → ℕ → ℕ
syncs_changed word n = sum (λ q. changed (word q)) n
