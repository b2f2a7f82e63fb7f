-- How sending lays a transmission down: preamble, sync and idle first, then each page's codewords from its slot on. That all of them
-- make the transmission is `written` in proofs/Written.antt.
use Rattle.std.specs.Prelude.{ℕ, zero, suc, ◌+◌, ◌-◌, ◌%◌, ◌<◌, ◌≡◌, cond, List, length, get_or, set, eqb, ltb}
use Rattle.codeword.specs.Code as code
use Rattle.placement.specs.Placement.{slot_of}
use Rattle.transmission.specs.Sending.{Sending, sending_at, counts_of, placement_of}
use Rattle.transmission.specs.Transmission.{address_of, message_of, preamble, word_count}
use Rattle.transmission.specs.Transmitted.{slot_index}

-- word k of a transmission whose slots are all idle
unfoldable pub blank_at : ℕ → ℕ
blank_at k = cond (ltb k 18) preamble (cond (eqb ((k - 18) % 17) 0) code.sync code.idle)

-- codeword j of a sending: its address, then a message codeword for each group
unfoldable pub codeword_at : Sending → ℕ → ℕ
codeword_at x zero = address_of x
codeword_at x (suc j) = message_of x j

-- words with the first n codewords of a sending in the slots from s on
unfoldable pub begun : Sending → ℕ → ℕ → List ℕ → List ℕ
begun x s zero words = words
begun x s (suc n) words = set (begun x s n words) (slot_index (s + n)) (codeword_at x n)

-- words with a whole sending in the slots from s on
abbrev pub with_sending : Sending → ℕ → List ℕ → List ℕ
with_sending x s words = begun x s (suc (length x.groups)) words

-- words with the first n sendings, each in its slots
unfoldable pub with_sendings : List Sending → ℕ → List ℕ → List ℕ
with_sendings xs zero words = words
with_sendings xs (suc n) words = with_sending (sending_at xs n) (slot_of (placement_of xs) n) (with_sendings xs n words)

-- what is known before the first word is written: each sending's number of groups and its slot, and room for just the transmission
pub record Planned (xs : List Sending) (groups places : List ℕ) (room : ℕ) : Type 0 where
  pub counted : groups ≡ counts_of xs
  pub placed : (i : ℕ) → i < length xs → get_or places i 0 ≡ slot_of (placement_of xs) i
  pub exact : room ≡ word_count (placement_of xs)
