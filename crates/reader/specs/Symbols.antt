-- How the code keeps what a slot's word says: in one number, its symbol. No public promise needs this.
use Rattle.std.specs.Prelude.{◌≡◌, Bool, true, false, cond, List, map, ℕ, zero, suc, ◌+◌, ◌-◌, ◌*◌, ◌/◌, ◌%◌, ◌^◌, ◌≤◌, ◌<◌, eqb, ltb, length, get_or, take, drop}
use Rattle.codeword.specs.Code.{idle}
use Rattle.codeword.specs.Nearest.{nearest}
use Rattle.placement.specs.Placement.{frame_of}
use Rattle.reader.specs.Meaning.{meaning}
use Rattle.reader.specs.Reading.{Hearing, State, Heard, hear, silent, ended, slot_word}
use Rattle.reader.specs.declared.Changes.{Changes}
use Rattle.reader.specs.declared.Meaning.{Meaning}
use Rattle.reader.specs.declared.Meaning.TheVariants.{Lost, Idle, Address, Message}

-- what a symbol says: it is the 21 information bits of the corrected word, or greater where the word is lost
unfoldable pub said : ℕ → Meaning
said x =
    cond (ltb x (2 ^ 20))
    (cond (eqb x (idle / 2048)) Idle (Address (x / 4 * 8) (x % 4)))
    (cond (ltb x (2 ^ 21)) (Message (x % 2 ^ 20)) Lost)

-- whether a word says bits of a message
unfoldable pub is_message : Meaning → Bool
is_message Lost = false
is_message Idle = false
is_message (Address i f) = false
is_message (Message b) = true

-- the n symbols say what the first n slot words of these batches say
pub record Tells (words : List ℕ) (n : ℕ) (symbols : List ℕ) : Type 0 where
  pub count : length symbols ≡ n
  pub each : (s : ℕ) → s < n → said (get_or symbols s 0) ≡ meaning (nearest (slot_word words s))

-- the state before slot s, by the slots' symbols
unfoldable pub state_by : List ℕ → ℕ → State
state_by symbols zero = silent
state_by symbols (suc s) = hear s (state_by symbols s) (said (get_or symbols s 0))

-- what is heard of slots with these symbols, with so many bits changed, whose end closes an open page, cut short or not
abbrev pub heard_by : Bool → List ℕ → Changes → Heard
heard_by cut symbols changes = ended cut (state_by symbols (length symbols)) changes

-- the groups that message words with these symbols carry
abbrev pub groups_said : List ℕ → List ℕ
groups_said symbols = map (λ x. x % 2 ^ 20) symbols

-- the page whose address is in slot a, and whose message words fill the slots from there to slot s
abbrev pub page_in : List ℕ → ℕ → ℕ → Hearing
page_in symbols a s = record {
  identity = get_or symbols a 0 / 4 * 8 + frame_of a;
  function = get_or symbols a 0 % 4;
  groups = groups_said (take (s - (a + 1)) (drop (a + 1) symbols));
  cut = false;
}

-- the page's slots are there, its first symbol is an address, and there is room for its digits and for its line
pub record Printable (symbols : List ℕ) (a s digits room : ℕ) : Type 0 where
  pub behind : a < s
  pub inside : s ≤ length symbols
  pub address : get_or symbols a 0 < 2 ^ 20
  pub written : 10 * (s - a) ≤ digits
  pub printed : 11 * (s - a) ≤ room
