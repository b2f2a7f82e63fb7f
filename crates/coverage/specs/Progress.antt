-- What the code keeps while it counts. No public promise needs this.
use Rattle.std.specs.Prelude.{◌≡◌, Bool, true, false, cond, List, ℕ, ◌+◌, ◌*◌, ◌≤◌, length, get_or, set, Option, None, Some}
use Rattle.codeword.specs.Nearest.{nearest}
use Rattle.reader.specs.Meaning.{meaning}
use Rattle.reader.specs.declared.Meaning.{Meaning}
use Rattle.reader.specs.declared.Meaning.TheVariants.{Lost, Idle, Address, Message}
use Rattle.coverage.specs.Tally.{slot_class}
use Rattle.coverage.specs.declared.SlotWord.{SlotWord}

-- a slot's word once it is read
abbrev pub slot_read : ℕ → SlotWord
slot_read w = record { class = slot_class w; says = meaning (nearest w) }

-- n counts, none of them over the limit
pub record UpTo (n limit : ℕ) (counts : List ℕ) : Type 0 where
  pub size : length counts ≡ n
  pub each : (i : ℕ) → get_or counts i 0 ≤ limit

-- one more at a place
abbrev pub bumped : List ℕ → ℕ → List ℕ
bumped counts i = set counts i (get_or counts i 0 + 1)

-- the counts of pages once the open page, if any, is closed: `held` is its frame
abbrev pub closed_counts : List ℕ → Option ℕ → Bool → List ℕ
closed_counts counts None cut = counts
closed_counts counts (Some frame) cut = bumped counts (2 * frame + cond cut 1 0)

-- once a word is heard
abbrev pub heard_counts : List ℕ → Option ℕ → Meaning → List ℕ
heard_counts counts held Lost = closed_counts counts held true
heard_counts counts held Idle = closed_counts counts held false
heard_counts counts held (Address u f) = closed_counts counts held false
heard_counts counts held (Message b) = counts

-- the open page then
abbrev pub open_after : Option ℕ → ℕ → Meaning → Option ℕ
open_after held frame Lost = None
open_after held frame Idle = None
open_after held frame (Address u f) = Some frame
open_after held frame (Message b) = held
