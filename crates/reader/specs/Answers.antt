-- What reading words or a listing answers, and what it leaves in the lent slice of bytes.
use Rattle.std.specs.Prelude.{Bool, false, not, cond, ◌||◌, List, [], ℕ, ◌+◌, ◌/◌, ◌%◌, length, eqb, ltb, Result, Ok, Err}
use Rattle.base.specs.Search.{least}
use Rattle.codeword.specs.Nearest.{nearest}
use Rattle.listing.specs.Listing.{listing_of, Listing}
use Rattle.listing.specs.Words.{words_of}
use Rattle.listing.specs.declared.Fault as listing-fault-type
use Rattle.listing.specs.declared.Fault.TheVariants as listing-fault
use Rattle.reader.specs.Meaning.{is_sync}
use Rattle.reader.specs.Reading.{Heard, sync_word, heard_stretch, heard_in}
use Rattle.reader.specs.Lines.{lines_heard}
use Rattle.reader.specs.declared.Changes.{Changes}
use Rattle.reader.specs.declared.Fault.{Fault}
use Rattle.reader.specs.declared.Fault.TheVariants.{Malformed, TooMany, Unsynced}
use Rattle.reader.specs.declared.Read.{Read}
use Rattle.reader.specs.declared.ReadError.{ReadError}
use Rattle.reader.specs.declared.ReadError.TheVariants.{Fault as Faulty, NoRoom}

-- whether words can be read: `Ok` where they can
abbrev pub Verdict : Type 0
Verdict = Result (Unit {0}) Fault

-- what reading answers
abbrev pub Reading : Type 0
Reading = Result Read ReadError

-- batch q, from 0, does not begin with a word that corrects to sync
abbrev pub unsynced : List ℕ → ℕ → Bool
unsynced words q = not (is_sync (nearest (sync_word words q)))

-- the first such batch, or the number of batches
unfoldable pub first_unsynced : List ℕ → ℕ
first_unsynced words = least (unsynced words) (length words / 17)

-- ---- whether words can be read, before their pages are looked at

-- whole batches: the first that does not begin with sync is number 22
unfoldable pub judge_batches : List ℕ → Verdict
judge_batches words = cond (ltb (first_unsynced words) (length words / 17)) (Err (Unsynced (first_unsynced words + 1))) (Ok tt)

-- a slice of words: empty or not a multiple of 17 is number 21, over 300 batches number 23, both with place 0
unfoldable pub judge_words : List ℕ → Verdict
judge_words words =
    cond (eqb (length words) 0 || not (eqb (length words % 17) 0)) (Err (Malformed 0))
    (cond (ltb 300 (length words / 17)) (Err (TooMany 0))
    (judge_batches words))

-- a listing's fault
abbrev pub fault_of : listing-fault-type.Fault → Fault
fault_of (listing-fault.Malformed line) = Malformed line
fault_of (listing-fault.TooMany line) = TooMany line

-- a listing: 21 or 23 as its lines have it, then 22 of its batches, which have these words
abbrev pub judge_decoded : Listing → List ℕ → Verdict
judge_decoded (Err why) words = Err (fault_of why)
judge_decoded (Ok shape) words = judge_batches words

-- any text as a listing
unfoldable pub judge_listing : List ℕ → Verdict
judge_listing s = judge_decoded (listing_of s) (words_of s)

-- ---- what is answered

-- what was heard, into room for so many bytes: number 10 where the lines are longer
abbrev pub printed_into : Heard → ℕ → Reading
printed_into h room =
    cond (ltb room (length (lines_heard h.pages))) (Err NoRoom)
    (Ok (record { pages = length h.pages; lost = h.lost; orphans = h.orphans; changed = h.changed; bytes = length (lines_heard h.pages) }))

-- the fault of words that can't be read, or what was heard of them
abbrev pub answered : Verdict → Heard → ℕ → Reading
answered (Err why) h room = Err (Faulty why)
answered (Ok sound) h room = printed_into h room

-- reading a slice of words whose end closes an open page, cut short or not: 21, 23, 22, then 10 (R-10)
unfoldable pub read_stretch : Bool → List ℕ → ℕ → Reading
read_stretch cut words room = answered (judge_words words) (heard_stretch cut words) room

-- reading a slice of words: document 01's end does not cut
abbrev pub read_words : List ℕ → ℕ → Reading
read_words words room = read_stretch false words room

-- reading a listing: 21 or 23, then 22, then 10
unfoldable pub read_listing : List ℕ → ℕ → Reading
read_listing s room = answered (judge_listing s) (heard_in (words_of s)) room

-- the lines that are written of what was heard: all, or nothing where the reading is declined
abbrev pub lines_of : Reading → Heard → List ℕ
lines_of (Ok read) h = lines_heard h.pages
lines_of (Err why) h = []

-- what is written over the front of the bytes: the lines of these words, or nothing
abbrev pub lines_read : Reading → List ℕ → List ℕ
lines_read r words = lines_of r (heard_in words)

-- the values of a reading, zero where it is declined: pages, lost words, orphans, changed bits, and how many bytes of lines are written
abbrev pub pages_read : Reading → ℕ
pages_read (Ok read) = read.pages
pages_read (Err why) = 0

abbrev pub lost_read : Reading → ℕ
lost_read (Ok read) = read.lost
lost_read (Err why) = 0

abbrev pub orphans_read : Reading → ℕ
orphans_read (Ok read) = read.orphans
orphans_read (Err why) = 0

abbrev pub changed_read : Reading → Changes
changed_read (Ok read) = read.changed
changed_read (Err why) = record { slots = 0; syncs = 0 }

abbrev pub bytes_read : Reading → ℕ
bytes_read (Ok read) = read.bytes
bytes_read (Err why) = 0

-- the number of a reading in document 01's table, 0 where it is read
abbrev pub number_of : Reading → ℕ
number_of (Ok read) = 0
number_of (Err (Faulty (Malformed line))) = 21
number_of (Err (Faulty (TooMany line))) = 23
number_of (Err (Faulty (Unsynced batch))) = 22
number_of (Err NoRoom) = 10

-- its place: a line, 0 for words; a batch, from 1
abbrev pub place_of : Reading → ℕ
place_of (Ok read) = 0
place_of (Err (Faulty (Malformed line))) = line
place_of (Err (Faulty (TooMany line))) = line
place_of (Err (Faulty (Unsynced batch))) = batch
place_of (Err NoRoom) = 0
