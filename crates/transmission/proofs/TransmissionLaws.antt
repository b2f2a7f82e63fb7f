-- Laws of the card's words: where each stands, how many there are, and that each has 32 bits. Assumes nothing.
use Prim.Native.Nat.{ℕ, zero, suc, ◌+◌, ◌-◌, ◌*◌, ◌/◌, ◌%◌, ◌^◌, ◌≤◌, ◌<◌}
use mathlib.Core.Path.{◌≡◌, ap, ◌∙◌}
use mathlib.Core.Bool.{Bool, true, false, cond}
use mathlib.Core.List.{List}
use mathlib.Core.Logic.{⊎_elim}
use native.Mathlib.Omega.{arith}
use lib.Dec.{ltb}
use lib.ListN.{length, get_or, get_or-eq_default}
use borrow.Author.Tests.{le-ltb}
use Rattle.base.proofs.ListLaws.{tab-length, tab-at}
use Rattle.base.proofs.SearchLaws.{le_or_lt}
use Rattle.codeword.proofs.CorrectionTheorem.{correction_theorem}
use Rattle.placement.specs.Placement.{Job, Content, idle, address, message, content_at, batches}
use Rattle.placement.proofs.Placed.{some_batch}
use Rattle.transmission.specs.Sending.{Sending, placement_of, AllAllowed}
use Rattle.transmission.specs.Transmission.{Codewords, codewords_of, codeword_in, preamble, batch_word, word_at, word_count, transmission, transmission_of}
use Rattle.transmission.specs.Transmitted.{slot_index, slot_word}
use Rattle.transmission.proofs.Sendings.{sendable}

module _ (c : Codewords) (job : Job) where
  -- word r of batch q, behind the preamble
  pub word_in_lem : (q r : ℕ) → r < 17 → word_at c job (18 + 17 * q + r) ≡ batch_word c job q r
  unfolding word_at
  word_in_lem q r h =
      let a : (18 + 17 * q + r - 18) / 17 ≡ q = omega arith in
      let b : (18 + 17 * q + r - 18) % 17 ≡ r = omega arith in
      rw (le-ltb (18 + 17 * q + r) 18 (omega arith), a, b)

  -- the word at a slot's index is the codeword of what the slot holds
  pub slot_word_lem : (s : ℕ) → slot_word c job s ≡ codeword_in c (content_at job s)
  unfolding batch_word
  slot_word_lem s =
      let k : slot_index s ≡ 18 + 17 * (s / 16) + suc (s % 16) = omega arith in
      let e : 16 * (s / 16) + s % 16 ≡ s = omega arith in
      ap (word_at c job) k ∙ word_in_lem (s / 16) (suc (s % 16)) (omega arith) ∙ ap (λ (x : ℕ). codeword_in c (content_at job x)) e

  pub transmission_length : length (transmission c job) ≡ word_count job
  unfolding transmission
  transmission_length = tab-length (word_at c job) (word_count job)

  pub transmission_at : (k : ℕ) → k < word_count job → get_or (transmission c job) k 0 ≡ word_at c job k
  unfolding transmission
  transmission_at k h = tab-at (word_at c job) (word_count job) k 0 h

-- ---- every word has 32 bits

module _ (xs : List Sending) where
  content_fits : (x : Content) → codeword_in (codewords_of xs) x < 2 ^ 32
  unfolding codeword_in
  content_fits idle = omega arith
  content_fits (address i) = (correction_theorem.of_address _ _).fits
  content_fits (message i j) = (correction_theorem.of_message _).fits

  in_batch_fits : (q r : ℕ) → batch_word (codewords_of xs) (placement_of xs) q r < 2 ^ 32
  unfolding batch_word
  in_batch_fits q zero = omega arith
  in_batch_fits q (suc r) = content_fits (content_at (placement_of xs) (16 * q + r))

  pub word_fits : (k : ℕ) → word_at (codewords_of xs) (placement_of xs) k < 2 ^ 32
  unfolding word_at
  word_fits k = go (ltb k 18)
    where
      go : (b : Bool) → cond b preamble (batch_word (codewords_of xs) (placement_of xs) ((k - 18) / 17) ((k - 18) % 17)) < 2 ^ 32
      go true = omega arith
      go false = in_batch_fits ((k - 18) / 17) ((k - 18) % 17)

  pub transmission_fits : (k : ℕ) → get_or (transmission_of xs) k 0 < 2 ^ 32
  transmission_fits k =
      let n = transmission_length (codewords_of xs) (placement_of xs) in
      ⊎_elim
      (λ h. rw (get_or-eq_default (transmission_of xs) 0 {n = k} (omega arith)) (omega arith))
      (λ h. rw (transmission_at (codewords_of xs) (placement_of xs) k h) (word_fits k))
      (le_or_lt (word_count (placement_of xs)) k)

-- ---- an accepted job's sendings take a batch at least

pub batches_least : {xs : List Sending} → AllAllowed xs → 1 ≤ batches (placement_of xs)
batches_least {xs} a = some_batch (placement_of xs) (sendable a).framed
