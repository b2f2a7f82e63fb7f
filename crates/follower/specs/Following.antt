-- How the code goes: a page is its address and the run of message words behind it, and those of one identity have their addresses in the
-- slots of its frame. `follows` in proofs/Follows.antt proves that this comes to what the full reader hears. No public promise needs it.
use Rattle.std.specs.Prelude.{◌≡◌, true, false, cond, List, [], ◌∷◌, ◌++◌, Option, Some, None, ℕ, zero, suc, ◌*◌, ◌/◌, ◌%◌, eqb, length}
use Rattle.codeword.specs.Nearest.{nearest}
use Rattle.placement.specs.Placement.{frame_of}
use Rattle.reader.specs.Meaning.{meaning}
use Rattle.reader.specs.Reading.{Hearing, opened, extended, closed_as, slot_word, heard_in}
use Rattle.reader.specs.declared.Meaning.{Meaning}
use Rattle.reader.specs.declared.Meaning.TheVariants.{Lost, Idle, Address, Message}
use Rattle.follower.specs.Pages.{pages_for}

-- ---- all pages, for any slot words

-- the open page h at a word that says this: a message word belongs to it, and it goes on; any other closes it, a lost one as cut short
abbrev pub onward : Hearing → (Hearing → Hearing) → Meaning → Hearing
onward h more Lost = closed_as true h
onward h more Idle = closed_as false h
onward h more (Address u f) = closed_as false h
onward h more (Message b) = more (extended h b)

-- the open page h, followed over the k slots from slot s on; the end closes it
unfoldable pub followed : (ℕ → ℕ) → ℕ → ℕ → Hearing → Hearing
followed word s zero h = closed_as false h
followed word s (suc k) h = onward h (followed word (suc s) k) (meaning (nearest (word s)))

-- the page, if any, that opens in slot s, whose word says this, with k slots behind it
abbrev pub opened_by : (ℕ → ℕ) → ℕ → ℕ → Meaning → List Hearing
opened_by word s k Lost = []
opened_by word s k Idle = []
opened_by word s k (Address u f) = followed word (suc s) k (opened s u f) ∷ []
opened_by word s k (Message b) = []

-- the pages that open in the k slots from slot s on
unfoldable pub pages_from : (ℕ → ℕ) → ℕ → ℕ → List Hearing
pages_from word s zero = []
pages_from word s (suc k) = opened_by word s k (meaning (nearest (word s))) ++ pages_from word (suc s) k

-- ---- those of one identity

-- the function of identity i's page that a word of its frame that says this opens, by its upper bits, if any
abbrev pub own_said : ℕ → Meaning → Option ℕ
own_said i Lost = None
own_said i Idle = None
own_said i (Address u f) = cond (eqb u (i / 8 * 8)) (Some f) None
own_said i (Message b) = None

-- that of the page that slot s opens, if any: the word of a slot of another frame is not asked for
unfoldable pub own_at : ℕ → (ℕ → ℕ) → ℕ → Option ℕ
own_at i word s = cond (eqb (frame_of s) (i % 8)) (own_said i (meaning (nearest (word s)))) None

-- a page of identity i that has just opened
abbrev pub own_page : ℕ → ℕ → Hearing
own_page i f = record { identity = i; function = f; groups = []; cut = false }

-- the page of identity i, if any, that slot s opens with this function, with k slots behind it
abbrev pub own_opened : ℕ → (ℕ → ℕ) → ℕ → ℕ → Option ℕ → List Hearing
own_opened i word s k (Some f) = followed word (suc s) k (own_page i f) ∷ []
own_opened i word s k None = []

-- the pages of identity i that open in the k slots from slot s on
unfoldable pub own_from : ℕ → (ℕ → ℕ) → ℕ → ℕ → List Hearing
own_from i word s zero = []
own_from i word s (suc k) = own_opened i word s k (own_at i word s) ++ own_from i word (suc s) k

-- ---- whole batches

-- how many slots they have
abbrev pub slot_count : List ℕ → ℕ
slot_count words = 16 * (length words / 17)

-- all pages that the full reader hears, and those of identity i among them
pub record Follows (i : ℕ) (words : List ℕ) : Type 0 where
  pub all : (heard_in words).pages ≡ pages_from (slot_word words) 0 (slot_count words)
  pub own : pages_for i words ≡ own_from i (slot_word words) 0 (slot_count words)
