-- The words of a listing's batches, by lines, are those of the text by index: each takes nine bytes. Assumes nothing.
use Prim.Native.Nat.{ℕ, suc, ◌+◌, ◌-◌, ◌*◌, ◌/◌, ◌%◌, ◌≤◌}
use mathlib.Core.Path.{◌≡◌, refl, ap, ap₂, sym, ◌∙◌}
use mathlib.Core.List.{List, [], ◌∷◌}
use mathlib.Core.Bool.{true, false}
use mathlib.Core.Logic.{⊎_elim}
use native.Mathlib.Omega.{arith}
use borrow.Author.Tests.{eqb-true, eqb-false}
use lib.Dec.{eqb}
use lib.ListN.{length, take, drop, replicate}
use lib.Seq.{take-take, drop-drop, length-take-le}
use Rattle.std.specs.Prelude.{Ok, Err, is_err}
use Rattle.base.specs.Hex.{hex_number}
use Rattle.base.specs.Lines.{Lines, behind, line, split, line_at}
use Rattle.base.specs.Lists.{over, tab, padded}
use Rattle.base.proofs.Bools.{either, true_false}
use Rattle.base.proofs.ListLaws.{drop_take, over_zeros, tab-length, tab-same}
use Rattle.listing.specs.Listing.{has_one, has_two, is_due, batches, listing_of, Listing, well_formed}
use Rattle.listing.specs.Words.{line_words, words_in, words_of}
use Rattle.listing.specs.Scan.{words_decoded}
use Rattle.listing.specs.Formed.{Formed}
use Rattle.listing.specs.Answers.{decoded_of}
use Rattle.listing.specs.declared.Decoded.{Decoded}
use Rattle.listing.specs.declared.Shape.{Shape}
use Rattle.listing.proofs.FirstLine.{alone, pair, alone_line, pair_line, pair_inside, one_word, two_words}
use Rattle.listing.proofs.BatchLaws.{line_bytes, below_limit, line_formed, end_formed, batches_formed, listing_formed, listing_decoded}

-- word k of a text, from 0, the preamble's counted: each word takes nine bytes, its eight digits and the byte behind them
unfoldable pub word_at : List ℕ → ℕ → ℕ
word_at s k = hex_number 0 (take 8 (drop (9 * k) s))

-- n words of a text, from word k on
abbrev pub words_from : List ℕ → ℕ → ℕ → List ℕ
words_from s k n = tab (λ i. word_at s (k + i)) n

line_parts : {l l' : List ℕ} {ls ls' : Lines} → line l ls ≡ line l' ls' → (l ≡ l') × (ls ≡ ls')
line_parts e = (cc, cc)

module _ (s : List ℕ) (k : ℕ) where
  -- one word more of the text
  pub words_more : (n : ℕ) → words_from s k (suc n) ≡ word_at s k ∷ words_from s (k + 1) n
  unfolding tab
  words_more n =
      let z : k + 0 ≡ k = omega arith in
      ap₂ ◌∷◌ (ap (word_at s) z) (tab-same (λ i. word_at s (k + suc i)) (λ i. word_at s (k + 1 + i)) n (λ i h. let y : k + suc i ≡ k + 1 + i = omega arith in ap (word_at s) y))

  abbrev d : List ℕ
  d = drop (9 * k) s

  -- the words of a line at word k
  one_here : (l : List ℕ) (ls : Lines) → split d ≡ line l ls → has_one l ≡ true → (line_words l ≡ word_at s k ∷ []) × (split (drop (9 * (k + 1)) s) ≡ ls)
  unfolding line_at line_words word_at
  one_here l ls e o =
      let here : alone d ≡ true = sym (one_word d) ∙ (rw e o) in
      let p = line_parts (sym (alone_line d here) ∙ e) in
      let z : 9 * (k + 1) ≡ 9 * k + 9 = omega arith in
      (rw (o, ← p.0), rw (z, ← (drop-drop 9 (9 * k) s)) p.1)

  two_here : (l : List ℕ) (ls : Lines) → split d ≡ line l ls → has_two l ≡ true → (line_words l ≡ word_at s k ∷ word_at s (k + 1) ∷ []) × (split (drop (9 * (k + 2)) s) ≡ ls)
  unfolding line_at line_words word_at has_one
  two_here l ls e o =
      let here : pair d ≡ true = sym (two_words d) ∙ (rw e o) in
      let p = line_parts (sym (pair_line d here) ∙ e) in
      let long : length (take 17 d) ≡ 17 = length-take-le 17 d (omega (arith, pair_inside d here)) in
      let y : 9 * (k + 1) ≡ 9 * k + 9 = omega arith in
      let z : 9 * (k + 2) ≡ 9 * k + 18 = omega arith in
      (rw (← p.0, long, take-take 8 17 d (omega arith), drop_take 9 17 d, y, ← (drop-drop 9 (9 * k) s)), rw (z, ← (drop-drop 18 (9 * k) s)) p.1)

-- how many words q lines behind the preamble have: two each, but one where a batch begins
abbrev pub words_before : ℕ → ℕ
words_before q = 2 * q - (q + 8) / 9

-- line q takes nine bytes a word
pub bytes_more : (q : ℕ) → 9 * words_before q + line_bytes q ≡ 9 * words_before (q + 1)
unfolding line_bytes
bytes_more q =
    ⊎_elim
    (λ (z : eqb (q % 9) 0 ≡ true). let y = eqb-true (q % 9) 0 z in rw z (omega arith))
    (λ (z : eqb (q % 9) 0 ≡ false). let y = eqb-false (q % 9) 0 z in rw z (omega arith))
    (either (eqb (q % 9) 0))

module _ (s : List ℕ) (p b : ℕ) where
  -- behind q lines
  indexed : (ls : Lines) (q k n : ℕ) → split (drop (9 * k) s) ≡ ls → batches p q ls ≡ well_formed p b → q ≤ 2700 → k ≡ 2 * p + words_before q → k + n ≡ 2 * p + 17 * b
      → words_in ls ≡ words_from s k n
  unfolding words_in is_due tab
  indexed (behind t) q k n e f h here all =
      let ends = end_formed p q p b t f in
      let z : n ≡ 0 = omega arith in
      rw z
  indexed (line l ls) q k n e f h here all =
      let g = line_formed p q p b l ls f in
      let few : q + 1 ≤ 2700 = below_limit q h g.1 in
      let more = batches_formed p (q + 1) p b ls few g.2 in
      ⊎_elim
      (λ (z : eqb (q % 9) 0 ≡ true).
      let y = eqb-true (q % 9) 0 z in
      let inner : (q + 8) / 9 ≡ q / 9 = omega arith in
      let next : (q + 1 + 8) / 9 ≡ q / 9 + 1 = omega arith in
      let one = one_here s k l ls e (rw z at g.0) in
      let size : n ≡ suc (n - 1) = omega arith in
      let rest = indexed ls (q + 1) (k + 1) (n - 1) one.1 g.2 few (omega arith) (omega arith) in
      rw (one.0, size, words_more s k (n - 1)) (ap (λ (ws : List ℕ). word_at s k ∷ ws) rest))
      (λ (z : eqb (q % 9) 0 ≡ false).
      let y = eqb-false (q % 9) 0 z in
      let inner : (q + 8) / 9 ≡ q / 9 + 1 = omega arith in
      let last : q / 9 + 1 ≤ b = omega arith in
      let two = two_here s k l ls e (rw z at g.0) in
      let size : n ≡ suc (suc (n - 2)) = omega arith in
      let w : k + 1 + 1 ≡ k + 2 = omega arith in
      let rest = indexed ls (q + 1) (k + 2) (n - 2) two.1 g.2 few (omega arith) (omega arith) in
      rw (two.0, size, words_more s k (suc (n - 2)), words_more s (k + 1) (n - 2), w) (ap (λ (ws : List ℕ). word_at s k ∷ word_at s (k + 1) ∷ ws) rest))
      (either (eqb (q % 9) 0))

-- the batches' words stand behind the two of each preamble line
pub words_indexed : (s : List ℕ) (p b : ℕ) → listing_of s ≡ well_formed p b → words_of s ≡ words_from s (2 * p) (17 * b)
words_indexed s p b e =
    let f = listing_formed s p b e in
    let z : 9 * (2 * p) ≡ 18 * p = omega arith in
    rw (e, f.1) (indexed s p b (split (drop (18 * p) s)) 0 (2 * p) (17 * b) (rw z) f.2 (omega arith) (omega arith) refl)

pub formed : (s : List ℕ) (p b : ℕ) → listing_of s ≡ well_formed p b → Formed s p b
formed s p b e = record {
  limits = (listing_formed s p b e).0;
  count = ap length (words_indexed s p b e) ∙ tab-length (λ i. word_at s (2 * p + i)) (17 * b);
}

-- ---- what decoding returns

abbrev decoded : Listing → List ℕ → Decoded
decoded l words = record { listing = l; words = words }

module _ (s : List ℕ) {words : List ℕ} (written : words ≡ over (replicate 5100 0) (words_decoded s)) where
  words_are : (shape : Shape) → listing_of s ≡ Ok shape → words ≡ padded 5100 (words_of s)
  words_are shape e = written ∙ ap (over (replicate 5100 0)) (listing_decoded s shape.preamble shape.batches e) ∙ over_zeros 5100 (words_of s)

  pub decoded_is : (l : Listing) → l ≡ listing_of s → is_err l ≡ false → decoded l words ≡ decoded_of s
  decoded_is (Ok shape) e h = ap₂ decoded e (words_are shape (sym e))
  decoded_is (Err why) e h = absurd (true_false refl h)
