-- The transport's half of demand 2 and of R-9: what is heard of a transmission with flipped bits. It knows nothing of lines and texts.
use Rattle.std.specs.Prelude.{◌≡◌, Bool, false, not, cond, ◌&&◌, List, map, ℕ, ◌+◌, ◌-◌, ◌*◌, ◌^◌, ◌≤◌, ◌<◌, length, get_or, take, drop, ltb, leb}
use Rattle.base.specs.Passing.{passing}
use Rattle.base.specs.Search.{least, sum}
use Rattle.codeword.specs.Nearest.{distance}
use Rattle.placement.specs.Placement.{Content, idle, address, message, content_at, batches, slot_of}
use Rattle.transmission.specs.Sending.{Sending, sending_at, placement_of, AllAllowed}
use Rattle.transmission.specs.Transmission.{transmission_of}
use Rattle.transmission.specs.Transmitted.{slot_index}
use Rattle.reader.specs.Reading.{Hearing, Heard, heard_in}
use Rattle.reader.specs.Answers.{unsynced}
use Rattle.reader.specs.declared.Changes.{Changes}
use Rattle.guarantees.specs.Order.{order}

-- ---- received words

-- how many bits of word k are flipped
abbrev pub flip_count : List ℕ → List ℕ → ℕ → ℕ
flip_count sent words k = distance (get_or words k 0) (get_or sent k 0)

-- words received for those that were sent: as many, each of 32 bits. The 18 words of preamble may be anything; of each sync at most two
-- bits are flipped, and of each frame codeword at most so many
pub record Received (most : ℕ) (sent words : List ℕ) : Type 0 where
  pub whole : length words ≡ length sent
  pub fits : (k : ℕ) → k < length words → get_or words k 0 < 2 ^ 32
  pub syncs : (q : ℕ) → 18 + 17 * q < length words → flip_count sent words (18 + 17 * q) ≤ 2
  pub slots : (p : ℕ) → slot_index p < length words → flip_count sent words (slot_index p) ≤ most

-- the word of slot p has more than two flips
abbrev pub lost_at : List ℕ → List ℕ → ℕ → Bool
lost_at sent words p = ltb 2 (flip_count sent words (slot_index p))

-- the flips of all slots and, apart, of all syncs (R-2)
abbrev pub flips_in : List Sending → List ℕ → Changes
flips_in xs words = record {
  slots = sum (λ p. flip_count (transmission_of xs) words (slot_index p)) (16 * batches (placement_of xs));
  syncs = sum (λ q. flip_count (transmission_of xs) words (18 + 17 * q)) (batches (placement_of xs));
}

-- the same without those of lost words
abbrev pub flips_but : (ℕ → Bool) → List Sending → List ℕ → Changes
flips_but lost xs words = record {
  slots = sum (λ p. cond (lost p) 0 (flip_count (transmission_of xs) words (slot_index p))) (16 * batches (placement_of xs));
  syncs = (flips_in xs words).syncs;
}

-- ---- what is heard of sendings where the words of some slots are lost, whichever they are; behind the last slot nothing is

-- the address of page i is read
abbrev pub is_read : (ℕ → Bool) → List Sending → ℕ → Bool
is_read lost xs i = not (lost (slot_of (placement_of xs) i))

-- how many of page i's words are read before the first lost one: its address, those of its message, and the next slot's
abbrev pub reach : (ℕ → Bool) → List Sending → ℕ → ℕ
reach lost xs i = least (λ k. lost (slot_of (placement_of xs) i + k)) (length (sending_at xs i).groups + 2)

-- a sending of which m words are read, the address first: so many groups, and cut short unless the next slot's word is among them
abbrev pub heard_up_to : Sending → ℕ → Hearing
heard_up_to x m = record { identity = x.identity; function = x.function; groups = take (m - 1) x.groups; cut = ltb m (length x.groups + 2) }

-- page i, where its address is read
abbrev pub hearing_in : (ℕ → Bool) → List Sending → ℕ → Hearing
hearing_in lost xs i = heard_up_to (sending_at xs i) (reach lost xs i)

-- of these pages, those whose address is read, each as far as it is read
abbrev pub heard_of : (ℕ → Bool) → List Sending → List ℕ → List Hearing
heard_of lost xs pages = map (hearing_in lost xs) (passing (is_read lost xs) pages)

-- a word of page i before its message word j is lost
abbrev pub spoilt : (ℕ → Bool) → List Sending → ℕ → ℕ → Bool
spoilt lost xs i j = leb (reach lost xs i) j

-- what slot p holds is an orphan: a message word that is not lost itself, behind a word of its page that is
abbrev pub orphaned : (ℕ → Bool) → List Sending → ℕ → Content → Bool
orphaned lost xs p idle = false
orphaned lost xs p (address i) = false
orphaned lost xs p (message i j) = not (lost p) && spoilt lost xs i j

-- how many of the slots before s are lost, and how many hold an orphan
abbrev pub lost_to : (ℕ → Bool) → ℕ → ℕ
lost_to lost s = sum (λ p. cond (lost p) 1 0) s

abbrev pub orphans_to : (ℕ → Bool) → List Sending → ℕ → ℕ
orphans_to lost xs s = sum (λ p. cond (orphaned lost xs p (content_at (placement_of xs) p)) 1 0) s

-- the pages in the order of their slots; the lost words and the orphans; and so many bits changed
unfoldable pub heard_but : (ℕ → Bool) → List Sending → Changes → Heard
heard_but lost xs changes = record {
  pages = heard_of lost xs (order (placement_of xs));
  lost = lost_to lost (16 * batches (placement_of xs));
  orphans = orphans_to lost xs (16 * batches (placement_of xs));
  changed = changes;
}

-- what is heard of the words behind the preamble
pub record HeardAs (xs : List Sending) (h : Heard) (words : List ℕ) : Type 0 where
  -- they are as many batches as were sent, and each begins with sync
  pub whole : length (drop 18 words) ≡ 17 * batches (placement_of xs)
  pub synced : (q : ℕ) → q < batches (placement_of xs) → unsynced (drop 18 words) q ≡ false
  pub heard : heard_in (drop 18 words) ≡ h

-- with up to three flips in each frame codeword the sendings of an accepted job are heard so, the slots with more than two being lost and
-- all other flips mended: `heard_but_lem` in proofs/Transport.antt proves it
abbrev pub Transport : Type 0
Transport =
    (xs : List Sending) → AllAllowed xs → (most : ℕ) → most ≤ 3 → (words : List ℕ) → Received most (transmission_of xs) words
    → HeardAs xs (heard_but (lost_at (transmission_of xs) words) xs (flips_but (lost_at (transmission_of xs) words) xs words)) words

-- ---- where no word is lost

-- a sending that is heard as it was sent
abbrev pub hearing_of : Sending → Hearing
hearing_of x = record { identity = x.identity; function = x.function; groups = x.groups; cut = false }

-- sendings heard as they were sent, in the order of their slots; nothing is lost, there are no orphans, and so many bits are changed
unfoldable pub as_sent : List Sending → Changes → Heard
as_sent xs changes = record {
  pages = map (λ p. hearing_of (sending_at xs p)) (order (placement_of xs));
  lost = 0;
  orphans = 0;
  changed = changes;
}

-- with up to two flips they are heard so, and all flips are mended: `heard_as_sent` in proofs/Transport.antt proves it
abbrev pub WholeTransport : Type 0
WholeTransport =
    (xs : List Sending) → AllAllowed xs → (most : ℕ) → most ≤ 2 → (words : List ℕ) → Received most (transmission_of xs) words
    → HeardAs xs (as_sent xs (flips_in xs words)) words
