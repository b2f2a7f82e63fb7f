-- Writing page by page over a blank transmission makes the transmission: `written`. Assumes nothing.
use Prim.Native.Nat.{ℕ, zero, suc, ◌+◌, ◌-◌, ◌*◌, ◌/◌, ◌%◌, ◌≤◌, ◌<◌, zero-le}
use mathlib.Core.Path.{◌≡◌, refl, sym, ap, ◌∙◌}
use mathlib.Core.List.{List}
use mathlib.Core.Logic.{⊎_elim}
use native.Mathlib.Nat.{eq-or-lt_of_le, le_of_suc-le-suc}
use native.Mathlib.Omega.{arith}
use lib.ListN.{length, get_or}
use lib.Seq.{ext_get_or}
use borrow.Author.Tests.{lt-ltb, le-ltb, eq-eqb, ne_eqb}
use Rattle.base.specs.Lists.{tab}
use Rattle.base.proofs.ListLaws.{tab-length, tab-at}
use Rattle.base.proofs.SearchLaws.{le_or_lt}
use Rattle.codeword.specs.Code as code
use Rattle.placement.specs.Placement.{Content, idle, address, message, content_at, slot_of}
use Rattle.placement.specs.Promise.{Holds, nothing, its_address, its_message, Placed}
use Rattle.transmission.specs.Sending.{Sending, sending_at, placement_of}
use Rattle.transmission.specs.Transmission.{codewords_of, codeword_in, preamble, batch_word, word_at, word_count, transmission_of}
use Rattle.transmission.specs.Transmitted.{slot_index}
use Rattle.transmission.specs.Writing.{blank_at, codeword_at, with_sendings}
use Rattle.transmission.proofs.Sendings.{pages_are, words_at}
use Rattle.transmission.proofs.Begun.{slot_index_inj, begun_length, begun_other, begun_at}
use Rattle.transmission.proofs.TransmissionLaws.{word_in_lem, slot_word_lem, transmission_length, transmission_at}

-- ---- all sendings

-- codeword j of page i, as the content of a slot
abbrev held : ℕ → ℕ → Content
held i zero = address i
held i (suc j) = message i j

-- a content's page
abbrev page_in : Content → ℕ
page_in idle = 0
page_in (address i) = i
page_in (message i j) = i

page_held : (i j : ℕ) → page_in (held i j) ≡ i
page_held i zero = refl
page_held i (suc j) = refl

not_idle_lem : (i j : ℕ) → held i j ≡ idle → ⊥
not_idle_lem i zero e = let z : ◌≡◌ {A = ℕ} 0 1 = cc in omega arith
not_idle_lem i (suc j) e = let z : ◌≡◌ {A = ℕ} 0 1 = cc in omega arith

held_codeword : (xs : List Sending) (i j : ℕ) → codeword_in (codewords_of xs) (held i j) ≡ codeword_at (sending_at xs i) j
unfolding codeword_in codeword_at
held_codeword xs i zero = refl
held_codeword xs i (suc j) = refl

-- how many message codewords sending i has
abbrev group_count : List Sending → ℕ → ℕ
group_count xs i = length (sending_at xs i).groups

-- the slot of codeword j of sending i
abbrev slot_for : List Sending → ℕ → ℕ → ℕ
slot_for xs i j = slot_of (placement_of xs) i + j

-- the word at index k is none of the first m sendings'
abbrev Apart : List Sending → ℕ → ℕ → Type 0
Apart xs m k = (i j : ℕ) → i < m → j ≤ group_count xs i → k ≡ slot_index (slot_for xs i j) → ⊥

module _ (xs : List Sending) (words : List ℕ) where
  pub with_length : (m : ℕ) → length (with_sendings xs m words) ≡ length words
  unfolding with_sendings
  with_length zero = refl
  with_length (suc m) = begun_length (sending_at xs m) (slot_of (placement_of xs) m) (with_sendings xs m words) (suc (group_count xs m)) ∙ with_length m

  with_other : (m k : ℕ) → Apart xs m k → get_or (with_sendings xs m words) k 0 ≡ get_or words k 0
  unfolding with_sendings
  with_other zero k f = refl
  with_other (suc m) k f =
      begun_other (sending_at xs m) (slot_of (placement_of xs) m) (with_sendings xs m words) (suc (group_count xs m)) k (λ j h. f m j (omega arith) (le_of_suc-le-suc h))
      ∙ with_other m k (λ i j h. f i j (omega arith))

module _ (xs : List Sending) (p : Placed (placement_of xs)) where
  -- codeword j of sending i stands in its slot
  stands : (i j : ℕ) → i < length xs → j ≤ group_count xs i → content_at (placement_of xs) (slot_for xs i j) ≡ held i j
  stands i zero l h = let e : slot_for xs i 0 ≡ slot_of (placement_of xs) i = omega arith in rw e (p.sent i (omega (arith, pages_are xs)))
  stands i (suc j) l h =
      let e : slot_for xs i (suc j) ≡ slot_of (placement_of xs) i + 1 + j = omega arith in
      rw e (p.behind i j (omega (arith, pages_are xs)) (omega (arith, words_at xs i)))

  -- no slot is two sendings'
  one_sending : (i k j l : ℕ) → i < length xs → k < length xs → j ≤ group_count xs i → l ≤ group_count xs k → slot_for xs i j ≡ slot_for xs k l → i ≡ k
  one_sending i k j l hi hk hj hl e =
      let q : held i j ≡ held k l = sym (stands i j hi hj) ∙ ap (content_at (placement_of xs)) e ∙ stands k l hk hl in
      sym (page_held i j) ∙ ap page_in q ∙ page_held k l

  with_at : (words : List ℕ) (m i j : ℕ) → m ≤ length xs → i < m → j ≤ group_count xs i → slot_index (slot_for xs i j) < length words
      → get_or (with_sendings xs m words) (slot_index (slot_for xs i j)) 0 ≡ codeword_at (sending_at xs i) j
  unfolding with_sendings
  with_at words zero i j hm hi hj l = absurd (omega arith)
  with_at words (suc m) i j hm hi hj l =
      let s = slot_of (placement_of xs) m in
      let before = with_sendings xs m words in
      ⊎_elim
      (λ (e : i ≡ m). rw e (begun_at (sending_at xs m) s before (suc (group_count xs m)) j (rw (← e) (omega arith)) (rw (with_length xs words m, ← e) l)))
      (λ (b : i < m).
      begun_other (sending_at xs m) s before (suc (group_count xs m)) (slot_index (slot_for xs i j))
      (λ k h q. omega (arith, one_sending i m j k (omega arith) (omega arith) hj (le_of_suc-le-suc h) (slot_index_inj (slot_for xs i j) (slot_for xs m k) q)))
      ∙ with_at words m i j (omega arith) b hj l)
      (eq-or-lt_of_le (le_of_suc-le-suc hi))

  -- ---- the words of the transmission, one by one

  blank : List ℕ
  blank = tab blank_at (word_count (placement_of xs))

  blank_length : length blank ≡ word_count (placement_of xs)
  unfolding blank
  blank_length = tab-length blank_at (word_count (placement_of xs))

  -- a word of which no sending has the place
  other_word : (k w : ℕ) → k < word_count (placement_of xs) → Apart xs (length xs) k → blank_at k ≡ w → get_or (with_sendings xs (length xs) blank) k 0 ≡ w
  unfolding blank
  other_word k w h f e = with_other xs blank (length xs) k f ∙ tab-at blank_at (word_count (placement_of xs)) k 0 h ∙ e

  -- a word that a sending has the place of
  own_word : (s i j : ℕ) → i < (placement_of xs).pages → j ≤ (placement_of xs).words i → s ≡ slot_for xs i j → slot_index s < word_count (placement_of xs)
      → get_or (with_sendings xs (length xs) blank) (slot_index s) 0 ≡ codeword_in (codewords_of xs) (held i j)
  own_word s i j l m q h =
      let inside : slot_index (slot_for xs i j) < length blank = omega (arith, blank_length, ap slot_index q) in
      ap (λ (t : ℕ). get_or (with_sendings xs (length xs) blank) (slot_index t) 0) q
      ∙ with_at blank (length xs) i j (omega arith) (omega (arith, pages_are xs)) (omega (arith, words_at xs i)) inside
      ∙ sym (held_codeword xs i j)

  by_content : (s : ℕ) → slot_index s < word_count (placement_of xs) → (x : Content) → Holds (placement_of xs) s x → content_at (placement_of xs) s ≡ x
      → get_or (with_sendings xs (length xs) blank) (slot_index s) 0 ≡ codeword_in (codewords_of xs) x
  unfolding blank_at codeword_in
  by_content s h x nothing e =
      let r : (slot_index s - 18) % 17 ≡ 0 → ⊥ = λ z. omega arith in
      other_word (slot_index s) code.idle h
      (λ i j li hj q. not_idle_lem i j (sym (stands i j li hj) ∙ ap (content_at (placement_of xs)) (sym (slot_index_inj s (slot_for xs i j) q)) ∙ e))
      (rw (le-ltb (slot_index s) 18 (omega arith), ne_eqb ((slot_index s - 18) % 17) 0 r))
  by_content s h x (its_address i l q) e = own_word s i 0 l (omega arith) (omega arith) h
  by_content s h x (its_message i j l m q) e = own_word s i (suc j) l m (omega arith) h

  slot_written : (s : ℕ) → slot_index s < word_count (placement_of xs)
      → get_or (with_sendings xs (length xs) blank) (slot_index s) 0 ≡ word_at (codewords_of xs) (placement_of xs) (slot_index s)
  slot_written s h = by_content s h _ (p.only s) refl ∙ sym (slot_word_lem (codewords_of xs) (placement_of xs) s)

  preamble_written : (k : ℕ) → k < word_count (placement_of xs) → k < 18
      → get_or (with_sendings xs (length xs) blank) k 0 ≡ word_at (codewords_of xs) (placement_of xs) k
  unfolding blank_at word_at
  preamble_written k h l = rw (lt-ltb k 18 l) (other_word k preamble h (λ i j _ _ q. omega arith) (rw (lt-ltb k 18 l)))

  sync_written : (k q : ℕ) → k < word_count (placement_of xs) → k ≡ 18 + 17 * q + 0
      → get_or (with_sendings xs (length xs) blank) k 0 ≡ word_at (codewords_of xs) (placement_of xs) k
  unfolding blank_at batch_word
  sync_written k q h e =
      other_word k code.sync h (λ i j _ _ z. omega arith) (rw (le-ltb k 18 (omega arith), eq-eqb ((k - 18) % 17) 0 (omega arith)))
      ∙ sym (ap (word_at (codewords_of xs) (placement_of xs)) e ∙ word_in_lem (codewords_of xs) (placement_of xs) q 0 (omega arith))

  word_written : (k : ℕ) → k < word_count (placement_of xs)
      → get_or (with_sendings xs (length xs) blank) k 0 ≡ word_at (codewords_of xs) (placement_of xs) k
  word_written k h =
      ⊎_elim
      (λ (b : 18 ≤ k). ⊎_elim
      (λ (z : 0 ≡ (k - 18) % 17). sync_written k ((k - 18) / 17) h (omega arith))
      (λ (z : 0 < (k - 18) % 17).
      let e : k ≡ slot_index (16 * ((k - 18) / 17) + ((k - 18) % 17 - 1)) = omega arith in
      rw e (slot_written (16 * ((k - 18) / 17) + ((k - 18) % 17 - 1)) (omega arith)))
      (eq-or-lt_of_le zero-le))
      (λ (b : k < 18). preamble_written k h b)
      (le_or_lt 18 k)

  pub written : with_sendings xs (length xs) (tab blank_at (word_count (placement_of xs))) ≡ transmission_of xs
  unfolding blank
  written =
      let n : length (with_sendings xs (length xs) blank) ≡ word_count (placement_of xs) = with_length xs blank (length xs) ∙ blank_length in
      ext_get_or 0 (with_sendings xs (length xs) blank) (transmission_of xs)
      (n ∙ sym (transmission_length (codewords_of xs) (placement_of xs)))
      (λ k h. word_written k (omega arith) ∙ sym (transmission_at (codewords_of xs) (placement_of xs) k (omega arith)))
