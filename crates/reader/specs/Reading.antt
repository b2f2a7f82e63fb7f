-- Reading (document 01, "Listings and reading"): a fold over the corrected slot words with the open page as its state.
use Rattle.std.specs.Prelude.{Bool, true, false, List, [], ◌∷◌, ◌++◌, ℕ, zero, suc, ◌+◌, ◌*◌, ◌/◌, ◌%◌, length, get_or}
use Rattle.std.proofs.Math.Option.{Option, none, some}
use Rattle.codeword.specs.Nearest.{nearest}
use Rattle.placement.specs.Placement.{frame_of}
use Rattle.reader.specs.Meaning.{meaning}
use Rattle.reader.specs.Changed.{slots_changed, syncs_changed}
use Rattle.reader.specs.declared.Changes.{Changes}
use Rattle.reader.specs.declared.Meaning.{Meaning}
use Rattle.reader.specs.declared.Meaning.TheVariants.{Lost, Idle, Address, Message}

-- a page as it was heard: its identity, its function, the 20-bit groups of its message, and whether it was cut short
pub record Hearing : Type 0 where
  pub identity : ℕ
  pub function : ℕ
  pub groups : List ℕ
  pub cut : Bool

-- the state before a slot: the closed pages in slot order, the open one, the numbers of lost words and of orphans
pub record State : Type 0 where
  pub pages : List Hearing
  pub held : Option Hearing
  pub lost : ℕ
  pub orphans : ℕ

-- an address in slot s opens a page: the slot's frame gives the identity's low three bits
abbrev pub opened : ℕ → ℕ → ℕ → Hearing
opened s upper function = record { identity = upper + frame_of s; function = function; groups = []; cut = false }

-- the open page with one more group
abbrev pub extended : Hearing → ℕ → Hearing
extended h b = record { identity = h.identity; function = h.function; groups = h.groups ++ (b ∷ []); cut = h.cut }

-- the open page closed, cut short or not
abbrev pub closed_as : Bool → Hearing → Hearing
closed_as cut h = record { identity = h.identity; function = h.function; groups = h.groups; cut = cut }

-- the pages once the open one, if any, is closed
unfoldable pub close : Bool → List Hearing → Option Hearing → List Hearing
close cut pages none = pages
close cut pages (some h) = pages ++ (closed_as cut h ∷ [])

-- a message word belongs to the open page; with none open it is an orphan
unfoldable pub take : ℕ → State → Option Hearing → State
take b r none = record { pages = r.pages; held = none; lost = r.lost; orphans = r.orphans + 1 }
take b r (some h) = record { pages = r.pages; held = some (extended h b); lost = r.lost; orphans = r.orphans }

-- the state after slot s, whose word says this: a lost word closes an open page as cut short; idle or an address closes it
unfoldable pub hear : ℕ → State → Meaning → State
hear s r Lost = record { pages = close true r.pages r.held; held = none; lost = r.lost + 1; orphans = r.orphans }
hear s r Idle = record { pages = close false r.pages r.held; held = none; lost = r.lost; orphans = r.orphans }
hear s r (Address u f) = record { pages = close false r.pages r.held; held = some (opened s u f); lost = r.lost; orphans = r.orphans }
hear s r (Message b) = take b r r.held

-- before the first slot
abbrev pub silent : State
silent = record { pages = []; held = none; lost = 0; orphans = 0 }

-- the state before slot s of these slot words
unfoldable pub read_at : (ℕ → ℕ) → ℕ → State
read_at word zero = silent
read_at word (suc s) = hear s (read_at word s) (meaning (nearest (word s)))

-- what is heard: pages, lost words and orphans, and how many bits are changed. `Changes` is src/lib.rt's struct
pub record Heard : Type 0 where
  pub pages : List Hearing
  pub lost : ℕ
  pub orphans : ℕ
  pub changed : Changes

-- the end closes an open page, cut short or not
abbrev pub ended : Bool → State → Changes → Heard
ended cut r changes = record { pages = close cut r.pages r.held; lost = r.lost; orphans = r.orphans; changed = changes }

-- the word of slot s in batches of 17 words, sync first
abbrev pub slot_word : List ℕ → ℕ → ℕ
slot_word words s = get_or words (17 * (s / 16) + 1 + s % 16) 0

-- the sync word of batch q
abbrev pub sync_word : List ℕ → ℕ → ℕ
sync_word words q = get_or words (17 * q) 0

-- the bits changed in whole batches: in the slots and, apart, in the sync words (R-2)
abbrev pub changes_in : List ℕ → Changes
changes_in words = record {
  slots = slots_changed (slot_word words) (16 * (length words / 17));
  syncs = syncs_changed (sync_word words) (length words / 17);
}

-- what is heard of whole batches, one directly behind the other, whose end closes an open page, cut short or not (R-10)
unfoldable pub heard_stretch : Bool → List ℕ → Heard
heard_stretch cut words = ended cut (read_at (slot_word words) (16 * (length words / 17))) (changes_in words)

-- what is heard of whole batches: document 01's end does not cut
abbrev pub heard_in : List ℕ → Heard
heard_in words = heard_stretch false words
