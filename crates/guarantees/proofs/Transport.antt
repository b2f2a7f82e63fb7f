-- The transport's half of demand 2 and of R-9. Assumes nothing.
use mathlib.Core.Path.{◌≡◌, refl, ap, ◌∙◌, fun_ext}
use mathlib.Core.Bool.{Bool, false, not, cond}
use mathlib.Core.List.{List}
use Prim.Native.Nat.{ℕ, ◌+◌, ◌-◌, ◌*◌, ◌/◌}
use native.Mathlib.Omega.{arith}
use lib.ListN.{length, drop}
use lib.Seq.{take_all}
use borrow.Author.Tests.{le-ltb, lt-leb}
use Rattle.base.proofs.PassingLaws.{passing_all}
use Rattle.base.proofs.SearchLaws.{least_only, sum_cong, sum_zeros}
use Rattle.placement.specs.Placement.{Content, content_at, batches}
use Rattle.placement.specs.Promise.{Holds, nothing, its_address, its_message}
use Rattle.transmission.specs.Sending.{Sending, sending_at, placement_of, AllAllowed}
use Rattle.transmission.specs.Transmission.{transmission_of}
use Rattle.transmission.specs.Transmitted.{slot_index}
use Rattle.transmission.proofs.Sendings.{words_at, sendable, sendings_placed}
use Rattle.reader.specs.Reading.{read_at, ended, slot_word, heard_stretch}
use Rattle.reader.specs.declared.Changes.{Changes}
use Rattle.guarantees.specs.Order.{order}
use Rattle.guarantees.specs.Transport.{flip_count, lost_at, flips_in, flips_but, is_read, reach, hearing_in, orphaned, heard_but, Transport, hearing_of, as_sent, WholeTransport}
use Rattle.guarantees.proofs.Received.{behind_size, outside, few_flips, says_slot, all_synced, all_changed}
use Rattle.guarantees.proofs.Along.{heard_along}

-- each page whose address is read is heard up to its first lost word, with up to three flips in a codeword
pub heard_but_lem : Transport
unfolding heard_stretch
heard_but_lem xs a most few words rec =
    let lost = lost_at (transmission_of xs) words in
    let size : 16 * (length (drop 18 words) / 17) ≡ 16 * batches (placement_of xs) = omega (arith, behind_size xs most words rec) in
    let n = 16 * (length (drop 18 words) / 17) in
    record {
      whole = behind_size xs most words rec;
      synced = all_synced xs most words rec;
      heard =
          ap (ended false (read_at (slot_word (drop 18 words)) n)) (all_changed xs most words rec a few)
          ∙ heard_along lost xs (sendable a).framed (slot_word (drop 18 words)) n (λ s l. says_slot xs most words rec s (omega arith) a few)
          (flips_but lost xs words) size
          (le-ltb 2 (flip_count (transmission_of xs) words (slot_index n)) (omega (arith, outside xs most words rec n (omega arith))));
    }

-- ---- where no word is lost

module _ (xs : List Sending) (a : AllAllowed xs) (lost : ℕ → Bool) (none : (s : ℕ) → lost s ≡ false) where
  all_read : (i : ℕ) → reach lost xs i ≡ length (sending_at xs i).groups + 2
  all_read i =
      let n = length (sending_at xs i).groups in
      least_only _ (n + 2) (n + 2) (record { within = omega arith; before = λ k l. none _; here = λ l. absurd (omega arith) })

  as_it_was : (i : ℕ) → hearing_in lost xs i ≡ hearing_of (sending_at xs i)
  as_it_was i =
      let n = length (sending_at xs i).groups in
      rw (all_read i, take_all (n + 2 - 1) (sending_at xs i).groups (omega arith), le-ltb (n + 2) (n + 2) (omega arith))

  no_orphan : (s : ℕ) (c : Content) → Holds (placement_of xs) s c → orphaned lost xs s c ≡ false
  no_orphan s c nothing = refl
  no_orphan s c (its_address i l q) = refl
  no_orphan s c (its_message i j l m q) =
      rw (none s, all_read i) (lt-leb (length (sending_at xs i).groups + 2) j (omega (arith, words_at xs i)))

  all_flips : (words : List ℕ) → flips_but lost xs words ≡ flips_in xs words
  all_flips words =
      let flips : ℕ → ℕ = λ p. flip_count (transmission_of xs) words (slot_index p) in
      rw (sum_cong (λ p. cond (lost p) 0 (flips p)) flips (16 * batches (placement_of xs)) (λ p l. rw (none p)))

  none_lost : (changes : Changes) → heard_but lost xs changes ≡ as_sent xs changes
  unfolding heard_but as_sent
  none_lost changes =
      let n = 16 * batches (placement_of xs) in
      rw (
        passing_all (is_read lost xs) (λ p. ap not (none _)) (order (placement_of xs)),
        fun_ext as_it_was,
        sum_cong (λ p. cond (lost p) 1 0) (λ _. 0) n (λ p l. rw (none p)),
        sum_cong (λ p. cond (orphaned lost xs p (content_at (placement_of xs) p)) 1 0) (λ _. 0) n
            (λ p l. rw (no_orphan p (content_at (placement_of xs) p) ((sendings_placed a).only p))),
        sum_zeros n,
      )

-- sendings are heard as they were sent, up to two flips in every codeword
pub heard_as_sent : WholeTransport
heard_as_sent xs a most few words rec =
    let t = heard_but_lem xs a most (omega arith) words rec in
    let lost = lost_at (transmission_of xs) words in
    let none : (s : ℕ) → lost s ≡ false = λ s. le-ltb 2 (flip_count (transmission_of xs) words (slot_index s)) (omega (arith, few_flips xs most words rec s)) in
    record {
      whole = t.whole;
      synced = t.synced;
      heard = t.heard ∙ none_lost xs a lost none (flips_but lost xs words) ∙ ap (as_sent xs) (all_flips xs a lost none words);
    }
