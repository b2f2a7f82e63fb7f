-- What the words received for a transmission say: what was sent, up to two flips; nothing, with three. Assumes nothing.
use mathlib.Core.Path.{◌≡◌, refl, ap, ◌∙◌}
use mathlib.Core.Bool.{Bool, true, false, cond}
use mathlib.Core.List.{List}
use mathlib.Core.Logic.{⊎_elim}
use Rattle.std.specs.Prelude.{None, Some}
use Prim.Native.Nat.{ℕ, ◌+◌, ◌*◌, ◌/◌, ◌%◌, ◌^◌, ◌≤◌, ◌<◌}
use native.Mathlib.Omega.{arith}
use lib.ListN.{length, get_or, drop, length-drop, get_or-eq_default}
use lib.Seq.{get_or-drop}
use borrow.Author.Tests.{ltb-true, ltb-false}
use Rattle.base.proofs.SearchLaws.{le_or_lt, sum_cong}
use Rattle.codeword.specs.Answer.{changed}
use Rattle.codeword.specs.Code.{sync}
use Rattle.codeword.specs.Nearest.{distance, nearest}
use Rattle.codeword.proofs.NearestLaws.{sync_near, distance_self}
use Rattle.placement.specs.Placement.{Content, content_at, batches}
use Rattle.transmission.specs.Sending.{Sending, placement_of, AllAllowed}
use Rattle.transmission.specs.Transmission.{codewords_of, codeword_in, batch_word, word_at, word_count, transmission_of}
use Rattle.transmission.specs.Transmitted.{slot_index}
use Rattle.transmission.proofs.Sendings.{sendings_placed}
use Rattle.transmission.proofs.TransmissionLaws.{word_in_lem, slot_word_lem, transmission_length, transmission_at, transmission_fits}
use Rattle.reader.specs.Meaning.{meaning}
use Rattle.reader.specs.Changed.{unless_lost, slot_changed}
use Rattle.reader.specs.Reading.{slot_word, sync_word, changes_in}
use Rattle.reader.specs.Answers.{unsynced}
use Rattle.guarantees.specs.Transport.{flip_count, Received, lost_at, flips_but}
use Rattle.guarantees.proofs.Words.{says, sent_counts, corrected, refused}
use Rattle.guarantees.proofs.SoFar.{said_in}

-- a word that isn't there has no flips
no_flips : (sent words : List ℕ) → length words ≡ length sent → (k : ℕ) → length words ≤ k → flip_count sent words k ≡ 0
no_flips sent words e k h =
    rw (get_or-eq_default words 0 {n = k} h, get_or-eq_default sent 0 {n = k} (omega arith)) (distance_self 0)

-- the word of slot s in the batches behind the preamble
pub received_word : (words : List ℕ) (s : ℕ) → slot_word (drop 18 words) s ≡ get_or words (slot_index s) 0
received_word words s =
    let k = 17 * (s / 16) + 1 + s % 16 in
    let same : 18 + k ≡ slot_index s = omega arith in
    get_or-drop 18 words k 0 ∙ ap (λ (m : ℕ). get_or words m 0) same

module _ (xs : List Sending) (most : ℕ) (words : List ℕ) (rec : Received most (transmission_of xs) words) where
  pub size : length words ≡ word_count (placement_of xs)
  size = rec.whole ∙ transmission_length (codewords_of xs) (placement_of xs)

  pub behind_size : length (drop 18 words) ≡ 17 * batches (placement_of xs)
  behind_size = omega (arith, length-drop 18 words, size)

  pub outside : (s : ℕ) → 16 * batches (placement_of xs) ≤ s → flip_count (transmission_of xs) words (slot_index s) ≡ 0
  outside s h = no_flips (transmission_of xs) words rec.whole (slot_index s) (omega (arith, size))

  pub few_flips : (s : ℕ) → flip_count (transmission_of xs) words (slot_index s) ≤ most
  few_flips s =
      ⊎_elim (λ h. omega (arith, outside s h)) (λ h. rec.slots s (omega (arith, size))) (le_or_lt (16 * batches (placement_of xs)) s)

  -- ---- the syncs

  module _ (q : ℕ) (l : q < batches (placement_of xs)) where
    sent_sync : get_or (transmission_of xs) (18 + 17 * q) 0 ≡ sync
    unfolding batch_word
    sent_sync =
        let same : 18 + 17 * q ≡ 18 + 17 * q + 0 = omega arith in
        transmission_at (codewords_of xs) (placement_of xs) (18 + 17 * q) (omega arith)
        ∙ ap (word_at (codewords_of xs) (placement_of xs)) same
        ∙ word_in_lem (codewords_of xs) (placement_of xs) q 0 (omega arith)

    sync_flips : distance (sync_word (drop 18 words) q) sync ≡ flip_count (transmission_of xs) words (18 + 17 * q)
    sync_flips = rw (get_or-drop 18 words (17 * q) 0, sent_sync)

    says_sync : nearest (sync_word (drop 18 words) q) ≡ Some sync
    says_sync =
        let inside : 18 + 17 * q < length words = omega (arith, size) in
        sync_near (sync_word (drop 18 words) q) (rw (get_or-drop 18 words (17 * q) 0) (rec.fits (18 + 17 * q) inside))
        (omega (arith, sync_flips, rec.syncs q inside))

    pub all_synced : unsynced (drop 18 words) q ≡ false
    all_synced = rw says_sync

    changed_sync : changed (sync_word (drop 18 words) q) ≡ flip_count (transmission_of xs) words (18 + 17 * q)
    changed_sync = rw says_sync sync_flips

  -- ---- the word of a slot, and the one that was sent

  module _ (s : ℕ) (l : s < 16 * batches (placement_of xs)) where
    abbrev c : Content
    c = content_at (placement_of xs) s

    abbrev w : ℕ
    w = slot_word (drop 18 words) s

    sent_word : get_or (transmission_of xs) (slot_index s) 0 ≡ codeword_in (codewords_of xs) c
    sent_word = transmission_at (codewords_of xs) (placement_of xs) (slot_index s) (omega arith) ∙ slot_word_lem (codewords_of xs) (placement_of xs) s

    word_fits : w < 2 ^ 32
    word_fits = rw (received_word words s) (rec.fits (slot_index s) (omega (arith, size)))

    word_flips : distance w (codeword_in (codewords_of xs) c) ≡ flip_count (transmission_of xs) words (slot_index s)
    word_flips = rw (received_word words s, sent_word)

    -- it is lost, or corrected to that one
    gone : most ≤ 3 → lost_at (transmission_of xs) words s ≡ true → nearest w ≡ None
    gone m e =
        refused xs c w word_fits
        (omega (arith, word_flips, few_flips s, ltb-true 2 (flip_count (transmission_of xs) words (slot_index s)) e))

    kept : lost_at (transmission_of xs) words s ≡ false → nearest w ≡ Some (codeword_in (codewords_of xs) c)
    kept e =
        corrected xs c w word_fits
        (omega (arith, word_flips, ltb-false 2 (flip_count (transmission_of xs) words (slot_index s)) e))

    module _ (a : AllAllowed xs) (m : most ≤ 3) where
      pub says_slot : meaning (nearest w) ≡ said_in (lost_at (transmission_of xs) words s) xs c
      says_slot = go (lost_at (transmission_of xs) words s) refl
        where
          go : (b : Bool) → lost_at (transmission_of xs) words s ≡ b → meaning (nearest w) ≡ said_in b xs c
          go true e = ap meaning (gone m e)
          go false e = ap meaning (kept e) ∙ says a s c ((sendings_placed a).only s)

      changed_slot : slot_changed w
          ≡ cond (lost_at (transmission_of xs) words s) 0 (flip_count (transmission_of xs) words (slot_index s))
      unfolding slot_changed
      changed_slot = go (lost_at (transmission_of xs) words s) refl
        where
          go : (b : Bool) → lost_at (transmission_of xs) words s ≡ b
              → unless_lost (meaning (nearest w)) (changed w) ≡ cond b 0 (flip_count (transmission_of xs) words (slot_index s))
          go true e = rw (gone m e)
          go false e = rw (kept e, says a s c ((sendings_placed a).only s)) (sent_counts xs c (distance w (codeword_in (codewords_of xs) c)) ∙ word_flips)

  -- ---- the bits changed in all of them

  pub all_changed : AllAllowed xs → most ≤ 3 → changes_in (drop 18 words) ≡ flips_but (lost_at (transmission_of xs) words) xs words
  all_changed a m =
      let b : length (drop 18 words) / 17 ≡ batches (placement_of xs) = omega (arith, behind_size) in
      rw (
        b,
        sum_cong (λ s. slot_changed (slot_word (drop 18 words) s))
            (λ s. cond (lost_at (transmission_of xs) words s) 0 (flip_count (transmission_of xs) words (slot_index s)))
            (16 * batches (placement_of xs)) (λ s l. changed_slot s l a m),
        sum_cong (λ q. changed (sync_word (drop 18 words) q)) (λ q. flip_count (transmission_of xs) words (18 + 17 * q))
            (batches (placement_of xs)) changed_sync,
      )

-- the words as they were sent are received words
pub clean : (xs : List Sending) → Received 2 (transmission_of xs) (transmission_of xs)
clean xs =
    record {
      whole = refl;
      fits = λ k l. transmission_fits xs k;
      syncs = λ q l. omega (arith, distance_self (get_or (transmission_of xs) (18 + 17 * q) 0));
      slots = λ p l. omega (arith, distance_self (get_or (transmission_of xs) (slot_index p) 0));
    }
