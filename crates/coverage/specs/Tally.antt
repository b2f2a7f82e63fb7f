-- What whole batches add to the counts (document 02, R-12): the reader's own words and pages, each at a place among the counts.
use Rattle.std.specs.Prelude.{cond, List, [], ◌∷◌, map, ℕ, ◌+◌, ◌-◌, ◌*◌, ◌/◌, ◌%◌, eqb, length}
use Rattle.base.specs.Lists.{tab}
use Rattle.base.specs.Passing.{passing}
use Rattle.codeword.specs.Answer.{changed}
use Rattle.codeword.specs.Nearest.{nearest}
use Rattle.placement.specs.Placement.{frame_of}
use Rattle.reader.specs.Meaning.{meaning}
use Rattle.reader.specs.Reading.{Hearing, slot_word, sync_word}
use Rattle.reader.specs.declared.Meaning.{Meaning}
use Rattle.reader.specs.declared.Meaning.TheVariants.{Lost, Idle, Address, Message}

-- m counts: how many of these places are 0, 1, .. , m - 1
unfoldable pub tally : ℕ → List ℕ → List ℕ
tally m places = tab (λ i. length (passing (λ p. eqb p i) places)) m

-- the class of a word that says this and has so many changed bits: that number, 0, 1 or 2; but 3 where it is lost, whatever was mended in it
abbrev pub class_by : Meaning → ℕ → ℕ
class_by Lost n = 3
class_by Idle n = n
class_by (Address u f) n = n
class_by (Message b) n = n

-- the class of a slot's word
unfoldable pub slot_class : ℕ → ℕ
slot_class w = class_by (meaning (nearest w)) (changed w)

-- the place of a slot's word: four a frame, one for each class
abbrev pub slot_place : List ℕ → ℕ → ℕ
slot_place words s = 4 * frame_of s + slot_class (slot_word words s)

-- the place of a sync word: its changed bits. It is never lost, whatever a slot with this word would say
abbrev pub sync_place : List ℕ → ℕ → ℕ
sync_place words q = changed (sync_word words q)

-- the place of a page: two a frame, for whole pages and for cut ones; its address's frame is the low three bits of its identity
abbrev pub page_place : Hearing → ℕ
page_place h = 2 * (h.identity % 8) + cond h.cut 1 0

-- the counts of whole batches: of the slots' words, of the sync words, of the pages
abbrev pub frame_counts : List ℕ → List ℕ
frame_counts words = tally 32 (tab (slot_place words) (16 * (length words / 17)))

abbrev pub sync_counts : List ℕ → List ℕ
sync_counts words = tally 3 (tab (sync_place words) (length words / 17))

abbrev pub page_counts : List Hearing → List ℕ
page_counts hs = tally 16 (map page_place hs)

-- the counts of one refusal with number 21, 22 or 23
abbrev pub refused_counts : ℕ → List ℕ
refused_counts number = tally 3 ((number - 21) ∷ [])
