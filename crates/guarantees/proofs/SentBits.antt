-- The bits of a transmission as it was sent are a recording of it. Assumes nothing.
use mathlib.Core.Path.{◌≡◌, refl, sym, ap, ap₂, ◌∙◌}
use mathlib.Core.Bool.{Bool, not}
use mathlib.Core.List.{List}
use mathlib.Core.Logic.{⊎_elim}
use Prim.Native.Nat.{ℕ, ◌+◌, ◌-◌, ◌*◌, ◌/◌, ◌%◌, ◌^◌, ◌≤◌, ◌<◌}
use native.Mathlib.Omega.{arith}
use lib.Dec.{ltb}
use lib.Count.{ones_in}
use lib.ListN.{length, get_or, drop, length-drop}
use lib.Pow.{shr-shr}
use lib.Seq.{get_or-drop}
use borrow.Author.Tests.{ltb-true, lt-ltb, not-false}
use Rattle.base.specs.Search.{least}
use Rattle.base.proofs.ListLaws.{tab-length, tab-at}
use Rattle.base.proofs.SearchLaws.{least_is, le_or_lt}
use Rattle.codeword.specs.Code.{sync, weight}
use Rattle.codeword.specs.Nearest.{distance}
use Rattle.codeword.proofs.NearestLaws.{distance_self}
use Rattle.text.specs.Coding.{bits_from}
use Rattle.text.proofs.BitLaws.{cut_bit, bits_of, bits_add, bits_same}
use Rattle.placement.specs.Placement.{batches}
use Rattle.transmission.specs.Sending.{Sending, sendings_of, placement_of, AllAllowed}
use Rattle.transmission.specs.Transmission as transmission
use Rattle.transmission.specs.Transmission.{codewords_of, preamble, batch_word, transmission_of}
use Rattle.transmission.proofs.Sendings.{sendings_limits, accepted_sendings}
use Rattle.transmission.proofs.TransmissionLaws.{word_in_lem, transmission_length, transmission_at, transmission_fits, batches_least}
use Rattle.receiver.specs.Bits.{bit_at, word_from}
use Rattle.guarantees.specs.FromBits.{Recorded, recording_of, SentBits}

-- ---- words as bytes

-- bit j of a word, the first on top
abbrev bit_in : ℕ → ℕ → ℕ
bit_in w j = w / 2 ^ (31 - j) % 2

-- the 32 bits from bit j of one word on, into the next
abbrev window : ℕ → ℕ → ℕ → ℕ
window a c j = bits_from (bit_in a) j (32 - j) 0 * 2 ^ j + bits_from (bit_in c) 0 j 0

-- all bits of a word
whole_word : (w : ℕ) → w < 2 ^ 32 → bits_from (bit_in w) 0 32 0 ≡ w
whole_word w h =
    let up : (b : ℕ) → b < 32 → bit_in w (0 + (32 - (b + 1))) ≡ w / 2 ^ b % 2 =
    λ b l. let e : 31 - (0 + (32 - (b + 1))) ≡ b = omega arith in ap (λ (x : ℕ). w / 2 ^ x % 2) e in
    bits_of (bit_in w) 0 32 w up ∙ omega arith

-- bit j of a word is a bit of its byte j / 8
byte_bit : (w i j : ℕ) → j < 32 → i ≡ j / 8 → w / 2 ^ (24 - 8 * i) % 256 / 2 ^ (7 - j % 8) % 2 ≡ bit_in w j
byte_bit w i j h e =
    let power : 24 - 8 * i + (7 - j % 8) ≡ 31 - j = omega arith in
    cut_bit (w / 2 ^ (24 - 8 * i)) 8 (7 - j % 8) (omega arith)
    ∙ ap (λ (x : ℕ). x % 2) (shr-shr w (24 - 8 * i) (7 - j % 8))
    ∙ ap (λ (x : ℕ). w / 2 ^ x % 2) power

module _ (words : List ℕ) where
  -- four bytes a word
  bytes_length : length (recording_of words) ≡ 4 * length words
  unfolding recording_of
  bytes_length = tab-length (λ i. get_or words (i / 4) 0 / 2 ^ (24 - 8 * (i % 4)) % 256) (4 * length words)

  -- bit j of word k
  sent_bit : (k j : ℕ) → j < 32 → k < length words → bit_at (recording_of words) (32 * k + j) ≡ bit_in (get_or words k 0) j
  unfolding bit_at recording_of
  sent_bit k j h l =
      let p = 32 * k + j in
      let index : p / 8 / 4 ≡ k = omega arith in
      let low : p % 8 ≡ j % 8 = omega arith in
      let byte : p / 8 % 4 ≡ j / 8 = omega arith in
      ap₂ (λ (x y : ℕ). x / 2 ^ (7 - y) % 2)
      (tab-at (λ i. get_or words (i / 4) 0 / 2 ^ (24 - 8 * (i % 4)) % 256) (4 * length words) (p / 8) 0 (omega arith)) low
      ∙ ap (λ (x : ℕ). get_or words x 0 / 2 ^ (24 - 8 * (p / 8 % 4)) % 256 / 2 ^ (7 - j % 8) % 2) index
      ∙ byte_bit (get_or words k 0) (p / 8 % 4) j h byte

  -- the bits from bit j of word k on, where they stay inside it
  bits_inside : (k j n : ℕ) → j + n ≤ 32 → k < length words
      → bits_from (bit_at (recording_of words)) (32 * k + j) n 0 ≡ bits_from (bit_in (get_or words k 0)) j n 0
  bits_inside k j n h l =
      bits_same (bit_at (recording_of words)) (bit_in (get_or words k 0)) (32 * k + j) j n 0
      (λ i m.
      let e : 32 * k + j + i ≡ 32 * k + (j + i) = omega arith in
      ap (bit_at (recording_of words)) e ∙ sent_bit k (j + i) (omega arith) l)

  -- word k stands whole at its place
  word_whole : (k : ℕ) → k < length words → get_or words k 0 < 2 ^ 32 → word_from (recording_of words) (32 * k) ≡ get_or words k 0
  word_whole k l small =
      let at : 32 * k ≡ 32 * k + 0 = omega arith in
      ap (word_from (recording_of words)) at ∙ bits_inside k 0 32 (omega arith) l ∙ whole_word (get_or words k 0) small

  -- 32 bits that start in word k reach into the next
  word_window : (k j : ℕ) → j < 32 → k + 1 < length words
      → word_from (recording_of words) (32 * k + j) ≡ window (get_or words k 0) (get_or words (k + 1) 0) j
  word_window k j h l =
      let bit = bit_at (recording_of words) in
      let parts : 32 ≡ 32 - j + j = omega arith in
      let next : 32 * k + j + (32 - j) ≡ 32 * (k + 1) + 0 = omega arith in
      ap (λ (n : ℕ). bits_from bit (32 * k + j) n 0) parts
      ∙ bits_add bit (32 * k + j) (32 - j) j
      ∙ ap₂ (λ (x y : ℕ). x * 2 ^ j + y) (bits_inside k j (32 - j) (omega arith) (omega arith))
      (ap (λ (p : ℕ). bits_from bit p j 0) next ∙ bits_inside (k + 1) 0 j (omega arith) l)

-- ---- the preamble: all its windows are computed

-- the 32 bits that start at bit j of a word of the preamble and reach into the word c lie within two bits of sync
abbrev near : ℕ → ℕ → Bool
near c j = not (ltb 2 (distance (window preamble c j) sync))

-- none do with the preamble behind it
inside_far : least (near preamble) 32 ≡ 32
unfolding least bits_from distance weight ones_in
inside_far = refl

-- and none with sync behind it
before_far : least (near sync) 32 ≡ 32
unfolding least bits_from distance weight ones_in
before_far = refl

-- so all lie further away
far : (c : ℕ) → least (near c) 32 ≡ 32 → (j : ℕ) → j < 32 → 2 < distance (window preamble c j) sync
far c e j l = ltb-true 2 (distance (window preamble c j) sync) (not-false _ ((least_is (near c) 32).before j (omega arith)))

-- ---- a transmission

module _ (xs : List Sending) (a : AllAllowed xs) where
  abbrev sent : List ℕ
  sent = transmission_of xs

  abbrev b : ℕ
  b = batches (placement_of xs)

  -- how many words it has
  size : length sent ≡ 18 + 17 * b
  size = transmission_length (codewords_of xs) (placement_of xs)

  -- one batch at least
  some : 1 ≤ b
  some = batches_least a

  -- its first 18 words
  opening : (k : ℕ) → k < 18 → get_or sent k 0 ≡ preamble
  unfolding transmission.word_at
  opening k l = transmission_at (codewords_of xs) (placement_of xs) k (omega arith) ∙ rw (lt-ltb k 18 l)

  -- the first sync
  first : get_or sent 18 0 ≡ sync
  unfolding batch_word
  first =
      transmission_at (codewords_of xs) (placement_of xs) 18 (omega (arith, some)) ∙ word_in_lem (codewords_of xs) (placement_of xs) 0 0 (omega arith)

  module _ (p : ℕ) (l : p < 576) where
    -- the 32 bits at position p
    at : word_from (recording_of sent) p ≡ window (get_or sent (p / 32) 0) (get_or sent (p / 32 + 1) 0) (p % 32)
    at =
        let e : p ≡ 32 * (p / 32) + p % 32 = omega arith in
        ap (word_from (recording_of sent)) e ∙ word_window sent (p / 32) (p % 32) (omega arith) (omega (arith, size, some))

    -- inside the preamble
    inside : p / 32 + 1 ≤ 17 → 2 < distance (word_from (recording_of sent) p) sync
    inside m = rw (at, opening (p / 32) (omega arith), opening (p / 32 + 1) (omega arith)) (far preamble inside_far (p % 32) (omega arith))

    -- from its last word into sync
    last : 17 < p / 32 + 1 → 2 < distance (word_from (recording_of sent) p) sync
    last m =
        let e : p / 32 + 1 ≡ 18 = omega arith in
        rw (at, opening (p / 32) (omega arith), e, first) (far sync before_far (p % 32) (omega arith))

    -- anywhere before the first sync
    clear : 2 < distance (word_from (recording_of sent) p) sync
    clear = ⊎_elim inside last (le_or_lt (p / 32 + 1) 17)

  -- its bits are a recording of it
  transmission_bits : Recorded (recording_of sent) 576 (drop 18 sent)
  transmission_bits =
      let few = (sendings_limits a).most in
      let behind : length (drop 18 sent) ≡ 17 * b = omega (arith, length-drop 18 sent, size) in
      record {
        short = omega (arith, bytes_length sent, size, few);
        clear = λ p l. omega (arith, clear p l);
        whole = omega (arith, bytes_length sent, size, behind);
        ends = omega (arith, bytes_length sent, size, behind);
        flips =
            λ k l.
            let place : 576 + 32 * k ≡ 32 * (18 + k) = omega arith in
            let word : word_from (recording_of sent) (576 + 32 * k) ≡ get_or (drop 18 sent) k 0 =
            ap (word_from (recording_of sent)) place
            ∙ word_whole sent (18 + k) (omega (arith, behind, size)) (transmission_fits xs (18 + k))
            ∙ sym (get_or-drop 18 sent k 0) in
            rw word (omega (arith, distance_self (get_or (drop 18 sent) k 0)));
      }

pub sent_bits : SentBits
sent_bits s n ok = transmission_bits (sendings_of s) (accepted_sendings s n ok)
