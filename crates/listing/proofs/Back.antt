-- What is written is read back: `ReadBack` for every transmission of 1 to 300 batches. Assumes nothing.
use Prim.Native.Nat.{ℕ, zero, suc, ◌+◌, ◌-◌, ◌*◌, ◌/◌, ◌%◌, ◌^◌, ◌≤◌, ◌<◌}
use mathlib.Core.Path.{◌≡◌, refl, ap, sym, ◌∙◌}
use mathlib.Core.List.{List}
use mathlib.Core.Bool.{true, false}
use mathlib.Core.Logic.{⊎_elim}
use native.Mathlib.Numerals.{add-one}
use native.Mathlib.Omega.{arith}
use borrow.Author.Tests.{eq-eqb, ne_eqb, eqb-true, eqb-false, lt-ltb, le-ltb}
use lib.Dec.{eqb}
use lib.ListN.{length, get_or, take, drop, drop_of_length-le, length-drop}
use lib.Seq.{drop-cons, drop-drop, get_or-drop, take_all, take_at}
use Rattle.std.specs.Prelude.{Some}
use Rattle.base.specs.Hex.{is_hex}
use Rattle.base.specs.Leading.{leading}
use Rattle.base.specs.Lines.{split}
use Rattle.base.specs.Lists.{tab}
use Rattle.base.proofs.Bools.{either, and_false}
use Rattle.base.proofs.HexLaws.{digits_hex, digits_back}
use Rattle.listing.specs.Text.{opens_frame, end_of, text_of}
use Rattle.listing.specs.Listing.{frames_in, preamble_of, is_due, batches, listing_of, well_formed}
use Rattle.listing.specs.Scan.{line_from}
use Rattle.listing.specs.Writing.{writing_of}
use Rattle.listing.specs.ReadBack.{OfBatches, ReadBack}
use Rattle.listing.proofs.FirstLine.{alone, pair, one_word, two_words}
use Rattle.listing.proofs.BatchLaws.{line_bytes, frames_more, frames_stop, listing_long, batches_more, batches_end, whole_yes}
use Rattle.listing.proofs.Indexed.{word_at, words_from, words_more, words_before, bytes_more, words_indexed}
use Rattle.listing.proofs.TextLaws.{text_length, text_digits_lem, text_end}

-- ---- what stands behind a word, by its place

space : (k : ℕ) → opens_frame k ≡ true → end_of k ≡ 32
unfolding end_of
space k e = rw e

newline : (k : ℕ) → opens_frame k ≡ false → end_of k ≡ 10
unfolding end_of
newline k e = rw e

preamble_word : (k : ℕ) → k < 18 → opens_frame k ≡ eqb (k % 2) 0
unfolding opens_frame
preamble_word k h = rw (lt-ltb k 18 h)

-- word r of the batch behind c batches
batch_word_lem : (c r : ℕ) → r < 17 → opens_frame (18 + 17 * c + r) ≡ eqb (r % 2) 1
unfolding opens_frame
batch_word_lem c r h = let z : (18 + 17 * c + r - 18) % 17 ≡ r = omega arith in rw (le-ltb (18 + 17 * c + r) 18 (omega arith), z)

module _ (ws : List ℕ) where
  -- the text from word k on
  abbrev from : ℕ → List ℕ
  from k = drop (9 * k) (text_of ws)

  next : (k : ℕ) → drop 9 (from k) ≡ from (k + 1)
  next k = let z : 9 * k + 9 ≡ 9 * (k + 1) = omega arith in rw (drop-drop 9 (9 * k) (text_of ws), z)

  module _ (k : ℕ) (h : k < length ws) where
    digits_here : leading is_hex (take 8 (from k)) ≡ 8
    digits_here = rw (text_digits_lem 0 ws k h) (digits_hex 8 (get_or ws k 0))

    end_here : get_or (from k) 8 0 ≡ end_of k
    end_here = let z : 0 + k ≡ k = omega arith in get_or-drop (9 * k) (text_of ws) 8 0 ∙ text_end 0 ws k h ∙ ap end_of z

    alone_here : opens_frame k ≡ false → alone (from k) ≡ true
    alone_here e = rw (end_here, newline k e, digits_here)

    no_pair_here : opens_frame k ≡ false → pair (from k) ≡ false
    no_pair_here e = rw (end_here, newline k e) (and_false (eqb (get_or (from k) 17 0) 10))

  pair_here : (k : ℕ) → k + 1 < length ws → opens_frame k ≡ true → opens_frame (k + 1) ≡ false → pair (from k) ≡ true
  pair_here k h e f =
      let z : get_or (from k) 17 0 ≡ end_of (k + 1) = sym (get_or-drop 9 (from k) 8 0) ∙ ap (λ (d : List ℕ). get_or d 8 0) (next k) ∙ end_here (k + 1) h in
      rw (z, newline (k + 1) f, end_here k (omega arith), space k e, digits_here k (omega arith), next k, digits_here (k + 1) h)

  -- ---- the preamble

  -- m more lines of it
  preamble_rest : (m j : ℕ) → j + m ≡ 9 → 18 < length ws → frames_in (27 + m) (split (drop (18 * j) (text_of ws))) ≡ m
  preamble_rest zero j e h =
      let z : 18 * j ≡ 9 * 18 = omega arith in
      rw z (frames_stop 27 (split (from 18)) (two_words (from 18) ∙ no_pair_here 18 h (batch_word_lem 0 0 (omega arith))))
  preamble_rest (suc m) j e h =
      let z : 27 + suc m ≡ suc (27 + m) = omega arith in
      let y : 18 * j ≡ 9 * (2 * j) = omega arith in
      let x : 9 * (2 * j) + 18 ≡ 18 * (j + 1) = omega arith in
      let first = preamble_word (2 * j) (omega arith) ∙ eq-eqb (2 * j % 2) 0 (omega arith) in
      let second = preamble_word (2 * j + 1) (omega arith) ∙ ne_eqb ((2 * j + 1) % 2) 0 (λ f. omega arith) in
      rw (z, y)
      (frames_more (from (2 * j)) (27 + m) (two_words (from (2 * j)) ∙ pair_here (2 * j) (omega arith) first second)
      ∙ ap suc (rw (drop-drop 18 (9 * (2 * j)) (text_of ws), x) (preamble_rest m (j + 1) (omega arith) h)))

  -- ---- the batches

  -- line q behind the preamble
  abbrev line_word : ℕ → ℕ
  line_word q = 18 + words_before q

  due_here : (q : ℕ) → line_word (q + 1) ≤ length ws → is_due q (line_from (from (line_word q)) 0) ≡ true
  unfolding is_due
  due_here q h =
      ⊎_elim
      (λ (z : eqb (q % 9) 0 ≡ true).
      let y = eqb-true (q % 9) 0 z in
      let x : line_word q ≡ 18 + 17 * (q / 9) + 0 = omega arith in
      rw z (one_word (from (line_word q)) ∙ alone_here (line_word q) (omega arith) (rw x (batch_word_lem (q / 9) 0 (omega arith)))))
      (λ (z : eqb (q % 9) 0 ≡ false).
      let y = eqb-false (q % 9) 0 z in
      let r = 2 * (q % 9) - 1 in
      let x : line_word q ≡ 18 + 17 * (q / 9) + r = omega arith in
      let w : line_word q + 1 ≡ 18 + 17 * (q / 9) + (r + 1) = omega arith in
      rw z (two_words (from (line_word q))
      ∙ pair_here (line_word q) (omega arith)
      (rw x (batch_word_lem (q / 9) r (omega arith) ∙ eq-eqb (r % 2) 1 (omega arith)))
      (rw w (batch_word_lem (q / 9) (r + 1) (omega arith) ∙ ne_eqb ((r + 1) % 2) 1 (λ f. omega arith)))))
      (either (eqb (q % 9) 0))

  next_line : (q : ℕ) → drop (line_bytes q) (from (line_word q)) ≡ from (line_word (q + 1))
  next_line q = let z : 9 * line_word q + line_bytes q ≡ 9 * line_word (q + 1) = omega (arith, bytes_more q) in rw (drop-drop (line_bytes q) (9 * line_word q) (text_of ws), z)

  -- m more lines
  batches_rest : (b m q : ℕ) → q + m ≡ 9 * b → length ws ≡ 18 + 17 * b → 1 ≤ b → b ≤ 300 → batches 9 q (split (from (line_word q))) ≡ well_formed 9 b
  batches_rest b zero q e size some few =
      let z : q / 9 ≡ b = omega arith in
      batches_end 9 q (from (line_word q)) (omega (arith, length-drop (9 * line_word q) (text_of ws), text_length 0 ws))
      ∙ rw (whole_yes q (omega arith) (omega arith), z)
  batches_rest b (suc m) q e size some few =
      batches_more 9 q (from (line_word q)) (due_here q (omega arith)) (λ f. omega arith)
      ∙ ap (λ (d : List ℕ). batches 9 (q + 1) (split d)) (next_line q)
      ∙ batches_rest b m (q + 1) (omega arith) size some few

  -- ---- the words

  word_back : (k : ℕ) → k < length ws → get_or ws k 0 < 2 ^ 32 → word_at (text_of ws) k ≡ get_or ws k 0
  unfolding word_at
  word_back k h small =
      let z : get_or ws k 0 / 16 ^ 8 ≡ 0 = omega arith in
      rw (text_digits_lem 0 ws k h) (rw z at (digits_back 8 (get_or ws k 0)))

  words_back : (n k : ℕ) → k + n ≡ length ws → ((j : ℕ) → get_or ws j 0 < 2 ^ 32) → words_from (text_of ws) k n ≡ drop k ws
  unfolding tab
  words_back zero k e small = sym (drop_of_length-le ws {i = k} (omega arith))
  words_back (suc n) k e small =
      rw (words_more (text_of ws) k n, drop-cons ws k 0 (omega arith), word_back k (omega arith) (small k), words_back n (k + 1) (omega arith) small, add-one)

form_back : (ws : List ℕ) (b : ℕ) → OfBatches ws b → listing_of (text_of ws) ≡ well_formed 9 b
form_back ws b t =
    let nine : 9 ≡ preamble_of (split (text_of ws)) = sym (preamble_rest ws 9 0 refl (omega arith)) in
    listing_long (text_of ws) 9 nine (omega arith) ∙ batches_rest ws b (9 * b) 0 (omega arith) t.size t.some t.few

pub read_back : (words : List ℕ) (b : ℕ) → OfBatches words b → ReadBack words b
read_back ws b t =
    let text = text_of ws in
    let form = form_back ws b t in
    let batches = words_indexed text 9 b form ∙ words_back ws (17 * b) 18 (omega arith) t.small in
    record {
      writing =
          λ old room.
          let answer : writing_of ws (length old) ≡ Some (9 * length ws) = rw (le-ltb (length old) (9 * length ws) room) in
          (answer, rw (answer, take_all (9 * length ws) text (omega (arith, text_length 0 ws))) (take_at text _ (9 * length ws) (text_length 0 ws)));
      form = form;
      batches = batches;
    }
