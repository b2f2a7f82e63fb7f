-- What the receiver hears and answers, and what it leaves in the lent slice of bytes (document 02, R-10).
use Rattle.std.specs.Prelude.{Bool, cond, List, [], ◌∷◌, ◌++◌, ℕ, ◌+◌, ltb, leb, length, Result, Ok, Err}
use Rattle.reader.specs.Reading.{Heard, heard_stretch}
use Rattle.reader.specs.Lines.{lines_heard}
use Rattle.receiver.specs.Bits.{bit_count}
use Rattle.receiver.specs.Stretches.{Stretch, stretch_end, stretches_of, batches_found, words_on}
use Rattle.receiver.specs.declared.Refusal.{Refusal}
use Rattle.receiver.specs.declared.Refusal.TheVariants.{TooLong, TooMany, NoRoom}
use Rattle.receiver.specs.declared.Totals.{Totals}

-- ---- what is heard

-- 544 bits or more are left behind a stretch, so that the test of the next 32 has failed: it closes an open page as cut short. With fewer
-- left the stream is at its end
abbrev pub is_cut : List ℕ → Stretch → Bool
is_cut s r = leb (stretch_end r + 544) (bit_count s)

-- what is heard of a stretch: its batches are read as document 01 has it
abbrev pub heard_on : List ℕ → Stretch → Heard
heard_on s r = heard_stretch (is_cut s r) (words_on s r)

-- nothing
abbrev pub nothing : Heard
nothing = record { pages = []; lost = 0; orphans = 0; changed = record { slots = 0; syncs = 0 } }

-- one after the other
abbrev pub then_heard : Heard → Heard → Heard
then_heard a b = record {
  pages = a.pages ++ b.pages;
  lost = a.lost + b.lost;
  orphans = a.orphans + b.orphans;
  changed = record { slots = a.changed.slots + b.changed.slots; syncs = a.changed.syncs + b.changed.syncs };
}

-- what is heard of stretches, one after the other
unfoldable pub heard_all : List ℕ → List Stretch → Heard
heard_all s [] = nothing
heard_all s (r ∷ rs) = then_heard (heard_on s r) (heard_all s rs)

-- what is heard of a recording
abbrev pub heard_bits : List ℕ → Heard
heard_bits s = heard_all s (stretches_of s)

-- ---- what is answered

-- the report on n batches of which this was heard. `Totals` is src/lib.rt's struct
abbrev pub totals_of : ℕ → Heard → Totals
totals_of n h = record {
  batches = n;
  pages = length h.pages;
  lost = h.lost;
  orphans = h.orphans;
  changed = h.changed;
  bytes = length (lines_heard h.pages);
}

-- into room for so many bytes: number 10 where the lines are longer
abbrev pub reported : ℕ → Heard → ℕ → Result Totals Refusal
reported n h room = cond (ltb room (length (lines_heard h.pages))) (Err NoRoom) (Ok (totals_of n h))

-- receiving a recording: over 65,536 bytes are number 28, over 300 batches number 23; then 10
unfoldable pub receive_bits : List ℕ → ℕ → Result Totals Refusal
receive_bits s room =
    cond (ltb 65536 (length s)) (Err TooLong)
    (cond (ltb 300 (batches_found (stretches_of s))) (Err TooMany)
    (reported (batches_found (stretches_of s)) (heard_bits s) room))

-- what is written over the front of the bytes: the lines of all pages, or nothing where the recording is declined
abbrev pub lines_received : Result Totals Refusal → List ℕ → List ℕ
lines_received (Ok t) s = lines_heard (heard_bits s).pages
lines_received (Err why) s = []

-- the report of an answer: all zero where the recording is declined
abbrev pub totals_received : Result Totals Refusal → Totals
totals_received (Ok t) = t
totals_received (Err why) = totals_of 0 nothing

-- the number of an answer, 0 where nothing is declined
abbrev pub number_of : Result Totals Refusal → ℕ
number_of (Ok t) = 0
number_of (Err TooLong) = 28
number_of (Err TooMany) = 23
number_of (Err NoRoom) = 10

-- its place
abbrev pub place_of : Result Totals Refusal → ℕ
place_of r = 0
