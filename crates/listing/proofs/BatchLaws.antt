-- How the lines of a listing go on, one at a time, and the numbers of a well-formed one. Assumes nothing.
use Rattle.std.specs.Prelude.{Ok, Err}
use Rattle.std.proofs.Common.{one-add}
use Prim.Native.Nat.{ℕ, zero, suc, ◌+◌, ◌*◌, ◌/◌, ◌%◌, ◌≤◌, ◌<◌}
use mathlib.Core.Path.{◌≡◌, refl, ap, sym, ◌∙◌}
use mathlib.Core.List.{List, [], ◌++◌, append-nil}
use mathlib.Core.Bool.{Bool, true, false, cond, ◌&&◌}
use mathlib.Core.Logic.{⊎_elim}
use native.Mathlib.Nat.{eq-or-lt_of_le}
use native.Mathlib.Omega.{arith}
use borrow.Author.Tests.{eq-eqb, ne_eqb, eqb-true, eqb-false, lt-ltb, le-ltb, ltb-true, ltb-false}
use lib.Dec.{eqb, ltb}
use lib.ListN.{length, take, drop, length-drop}
use lib.Seq.{drop-drop}
use Rattle.std.specs.List.{prefix_len}
use Rattle.std.specs.Simd.{first_chunks}
use Rattle.base.specs.Lines.{Lines, behind, line, split, line_at}
use Rattle.base.proofs.Bools.{either, and_true, and_false}
use Rattle.base.proofs.LinesLaws.{none_left}
use Rattle.base.proofs.SearchLaws.{le_or_lt}
use Rattle.listing.specs.Listing.{has_one, has_two, frames_in, preamble_of, skip, is_due, is_whole, batches, listing_of, Listing, well_formed}
use Rattle.listing.specs.Words.{line_words, words_in, batch_words, words_of}
use Rattle.listing.specs.Formed.{Limits}
use Rattle.listing.specs.Scan.{line_from, words_met, words_decoded}
use Rattle.listing.specs.declared.Shape.{Shape}
use Rattle.listing.specs.declared.Fault.{Fault}
use Rattle.listing.specs.declared.Fault.TheVariants.{Malformed, TooMany}
use Rattle.listing.proofs.FirstLine.{false_of, two_front, first_line, lines_of, alone_line, pair_line, alone_inside, pair_inside, one_word, two_words}

-- ---- lines of two words

module _ (d : List ℕ) where
  pub frames_more : (n : ℕ) → has_two (line_from d 0) ≡ true → frames_in (suc n) (split d) ≡ suc (frames_in n (split (drop 18 d)))
  unfolding frames_in line_at
  frames_more n e =
      let cut = pair_line d (sym (two_words d) ∙ e) in
      let here = rw cut at e in
      rw (cut, here)

  pub frame_inside : has_two (line_from d 0) ≡ true → 18 ≤ length d
  frame_inside e = pair_inside d (sym (two_words d) ∙ e)

pub frames_stop : (n : ℕ) (ls : Lines) → has_two (line_at 0 ls) ≡ false → frames_in n ls ≡ 0
unfolding frames_in line_at
frames_stop zero ls e = refl
frames_stop (suc n) (behind t) e = refl
frames_stop (suc n) (line l ls) e = rw e

pub frames_le : (n : ℕ) (ls : Lines) → frames_in n ls ≤ n
unfolding frames_in
frames_le zero ls = omega arith
frames_le (suc n) (behind t) = omega arith
frames_le (suc n) (line l ls) = ⊎_elim (λ (e : has_two l ≡ true). rw e (let h = frames_le n ls in omega arith)) (λ (e : has_two l ≡ false). rw e (omega arith)) (either (has_two l))

-- behind p of them
pub frames_skip : (p n : ℕ) (d : List ℕ) → p ≤ frames_in n (split d) → (skip p (split d) ≡ split (drop (18 * p) d)) × (18 * p ≤ length d)
unfolding skip
frames_skip zero n d h = (refl, omega arith)
frames_skip (suc p) zero d h = absurd (omega (arith, frames_le 0 (split d)))
frames_skip (suc p) (suc n) d h =
    ⊎_elim
    (λ (e : has_two (line_from d 0) ≡ true).
    let more = frames_more d n e in
    let rest = frames_skip p n (drop 18 d) (omega arith) in
    let z : 18 + 18 * p ≡ 18 * suc p = omega arith in
    (rw (pair_line d (sym (two_words d) ∙ e), ← z) (rest.0 ∙ ap split (drop-drop (18 * p) 18 d)), omega (arith, frame_inside d e, length-drop 18 d)))
    (λ (e : has_two (line_from d 0) ≡ false). absurd (omega (arith, frames_stop (suc n) (split d) e)))
    (either (has_two (line_from d 0)))

-- the frame lines in front, counted over the whole pieces of 18 bytes
abbrev pub is_frame : List ℕ → Bool
is_frame d = has_two (line_from d 0)

pub frames_counted : (n : ℕ) (d : List ℕ) → prefix_len is_frame (take n (first_chunks 18 (length d / 18) d)) ≡ frames_in n (split d)
unfolding frames_in
frames_counted zero d = refl
frames_counted (suc n) d =
    ⊎_elim
    (λ (l : 18 ≤ length d).
    let rest = drop 18 d in
    let z : length d / 18 ≡ suc (length rest / 18) = omega (arith, length-drop 18 d) in
    let same = two_front d 18 (omega arith) in
    ⊎_elim
    (λ (e : has_two (line_from d 0) ≡ true). rw (z, same, e, one-add) (ap suc (frames_counted n rest) ∙ sym (frames_more d n e)))
    (λ (e : has_two (line_from d 0) ≡ false). rw (z, same, e, frames_stop (suc n) (split d) e))
    (either (has_two (line_from d 0))))
    (λ (l : length d < 18).
    let z : length d / 18 ≡ 0 = omega arith in
    let none : has_two (line_from d 0) ≡ false = false_of (has_two (line_from d 0)) (λ e. omega (arith, frame_inside d e)) in
    rw (z, frames_stop (suc n) (split d) none))
    (le_or_lt 18 (length d))

-- ---- the preamble, then the batches

module _ (s : List ℕ) (p : ℕ) (e : p ≡ preamble_of (split s)) where
  pub listing_short : p < 9 → listing_of s ≡ Err (Malformed (p + 1))
  unfolding listing_of
  listing_short h = rw (← e, lt-ltb p 9 h)

  pub listing_long : 9 ≤ p → listing_of s ≡ batches p 0 (split (drop (18 * p) s))
  unfolding listing_of
  listing_long h = rw (← e, le-ltb p 9 h, (frames_skip p 36 s (omega arith)).0)

  pub decoded_short : p < 9 → words_decoded s ≡ []
  unfolding words_decoded
  decoded_short h = rw (← e, lt-ltb p 9 h)

  pub decoded_long : 9 ≤ p → words_decoded s ≡ words_met 0 (split (drop (18 * p) s))
  unfolding words_decoded
  decoded_long h = rw (← e, le-ltb p 9 h, (frames_skip p 36 s (omega arith)).0)

-- how many bytes line q of the batches takes, with its newline
unfoldable pub line_bytes : ℕ → ℕ
line_bytes q = cond (eqb (q % 9) 0) 9 18

module _ (p q : ℕ) (d : List ℕ) where
  -- a line that is due stands in front
  pub due_line : is_due q (line_from d 0) ≡ true → split d ≡ line (line_from d 0) (split (drop (line_bytes q) d))
  unfolding is_due line_bytes line_at
  due_line e =
      ⊎_elim
      (λ (z : eqb (q % 9) 0 ≡ true). let cut = alone_line d (sym (one_word d) ∙ (rw z at e)) in rw (z, cut))
      (λ (z : eqb (q % 9) 0 ≡ false). let cut = pair_line d (sym (two_words d) ∙ (rw z at e)) in rw (z, cut))
      (either (eqb (q % 9) 0))

  pub due_inside : is_due q (line_from d 0) ≡ true → line_bytes q ≤ length d
  unfolding is_due line_bytes
  due_inside e =
      ⊎_elim
      (λ (z : eqb (q % 9) 0 ≡ true). rw z (alone_inside d (sym (one_word d) ∙ (rw z at e))))
      (λ (z : eqb (q % 9) 0 ≡ false). rw z (pair_inside d (sym (two_words d) ∙ (rw z at e))))
      (either (eqb (q % 9) 0))

  pub batches_more : is_due q (line_from d 0) ≡ true → (q ≡ 2700 → ⊥) → batches p q (split d) ≡ batches p (q + 1) (split (drop (line_bytes q) d))
  unfolding batches
  batches_more e h = ap (batches p q) (due_line e) ∙ rw (e, ne_eqb q 2700 h)

  pub batches_over : is_due q (line_from d 0) ≡ true → q ≡ 2700 → batches p q (split d) ≡ Err (TooMany (p + q + 1))
  unfolding batches
  batches_over e h = ap (batches p q) (due_line e) ∙ rw (e, eq-eqb q 2700 h)

  pub met_more : is_due q (line_from d 0) ≡ true → (q ≡ 2700 → ⊥) → words_met q (split d) ≡ line_words (line_from d 0) ++ words_met (q + 1) (split (drop (line_bytes q) d))
  unfolding words_met
  met_more e h = ap (words_met q) (due_line e) ∙ rw (e, ne_eqb q 2700 h)

  -- another line, or no newline any more
  pub batches_stray : is_due q (line_from d 0) ≡ false → 0 < length d → batches p q (split d) ≡ Err (Malformed (p + q + 1))
  unfolding batches line_at
  batches_stray e h =
      ⊎_elim
      (λ (b : split d ≡ behind d). rw (b, ne_eqb (length d) 0 (λ z. omega arith)))
      (λ l. let cut = first_line d _ refl l in let here = rw cut at e in rw (cut, here))
      (lines_of d)

  -- a line behind 300 batches
  pub batches_full : q ≡ 2700 → 0 < length d
      → batches p q (split d) ≡ Err (cond (has_one (line_from d 0)) (TooMany (p + q + 1)) (Malformed (p + q + 1)))
  unfolding is_due
  batches_full e h =
      let first = eq-eqb (q % 9) 0 (omega arith) in
      ⊎_elim
      (λ (o : has_one (line_from d 0) ≡ true). rw o (batches_over (rw (first, o)) e))
      (λ (o : has_one (line_from d 0) ≡ false). rw o (batches_stray (rw (first, o)) h))
      (either (has_one (line_from d 0)))

  -- the text ends
  pub batches_end : length d ≡ 0 → batches p q (split d) ≡ cond (is_whole q) (well_formed p (q / 9)) (Err (Malformed (p + q + 1)))
  unfolding batches
  batches_end h = ap (batches p q) (none_left d 0 (omega arith))

-- the words up to there
pub met_stray : (q : ℕ) (ls : Lines) → is_due q (line_at 0 ls) ≡ false → words_met q ls ≡ []
unfolding words_met line_at
met_stray q (behind t) e = refl
met_stray q (line l ls) e = rw e

pub met_full : (q : ℕ) (ls : Lines) → q ≡ 2700 → words_met q ls ≡ []
unfolding words_met
met_full q (behind t) e = refl
met_full q (line l ls) e = rw (eq-eqb q 2700 e, and_false (is_due q l))

-- behind 300 batches done are the words up to there
pub met_full_behind : (done : List ℕ) (q : ℕ) (ls : Lines) → q ≡ 2700 → done ++ words_met q ls ≡ done
met_full_behind done q ls e = ap (λ ws. done ++ ws) (met_full q ls e) ∙ append-nil done

pub met_end : (q : ℕ) (s : List ℕ) (at : ℕ) → length s ≤ at → words_met q (split (drop at s)) ≡ []
unfolding words_met
met_end q s at h = rw (none_left s at h)

pub whole_yes : (q : ℕ) → 0 < q → q % 9 ≡ 0 → is_whole q ≡ true
unfolding is_whole
whole_yes q h e = rw (lt-ltb 0 q h, eq-eqb (q % 9) 0 e)

pub whole_none : (q : ℕ) → q ≡ 0 → is_whole q ≡ false
unfolding is_whole
whole_none q e = rw e

pub whole_part : (q : ℕ) → (q % 9 ≡ 0 → ⊥) → is_whole q ≡ false
unfolding is_whole
whole_part q e = rw (ne_eqb (q % 9) 0 e) (and_false (ltb 0 q))

-- ---- a well-formed listing

ok_shape : {x y : Shape} → ◌≡◌ {A = Listing} (Ok x) (Ok y) → x ≡ y
ok_shape e = cc

-- the tests that led to it
formed_yes : (p b : ℕ) (c : Bool) (x : Listing) (why : Fault) → cond c x (Err why) ≡ well_formed p b → (c ≡ true) × (x ≡ well_formed p b)
formed_yes p b true x why e = (refl, e)
formed_yes p b false x why e = absurd (let z : ◌≡◌ {A = ℕ} 0 1 = cc in omega arith)

formed_no : (p b : ℕ) (c : Bool) (x : Listing) (why : Fault) → cond c (Err why) x ≡ well_formed p b → (c ≡ false) × (x ≡ well_formed p b)
formed_no p b true x why e = absurd (let z : ◌≡◌ {A = ℕ} 0 1 = cc in omega arith)
formed_no p b false x why e = (refl, e)

module _ (p q p' b : ℕ) where
  -- a line of it is due, and the rest is well-formed
  pub line_formed : (l : List ℕ) (ls : Lines) → batches p q (line l ls) ≡ well_formed p' b
      → (is_due q l ≡ true) × (q ≡ 2700 → ⊥) × (batches p (q + 1) ls ≡ well_formed p' b)
  unfolding batches
  line_formed l ls e =
      let due = formed_yes p' b (is_due q l) _ _ e in
      let few = formed_no p' b (eqb q 2700) _ _ due.1 in
      (due.0, eqb-false q 2700 few.0, few.1)

  -- it ends behind whole batches
  pub end_formed : (t : List ℕ) → batches p q (behind t) ≡ well_formed p' b → (p ≡ p') × (q ≡ 9 * b) × (1 ≤ b)
  unfolding batches is_whole
  end_formed t e =
      let ends = formed_yes p' b (eqb (length t) 0 && is_whole q) _ _ e in
      let whole = and_true (ltb 0 q) (eqb (q % 9) 0) (and_true (eqb (length t) 0) (is_whole q) ends.0).1 in
      let some = ltb-true 0 q whole.0 in
      let right = eqb-true (q % 9) 0 whole.1 in
      let same = ok_shape ends.1 in
      let count : q / 9 ≡ b = ap (λ (x : Shape). x.batches) same in
      (ap (λ (x : Shape). x.preamble) same, omega arith, omega arith)

pub below_limit : (q : ℕ) → q ≤ 2700 → (q ≡ 2700 → ⊥) → q + 1 ≤ 2700
below_limit q h few = ⊎_elim (λ e. absurd (few e)) (λ (l : q < 2700). omega arith) (eq-or-lt_of_le h)

-- its numbers are those of the lines
pub batches_formed : (p q p' b : ℕ) (ls : Lines) → q ≤ 2700 → batches p q ls ≡ well_formed p' b → (p ≡ p') × (q ≤ 9 * b) × (1 ≤ b) × (b ≤ 300)
batches_formed p q p' b (behind t) h e = let f = end_formed p q p' b t e in (f.0, omega arith, f.2, omega arith)
batches_formed p q p' b (line l ls) h e =
    let f = line_formed p q p' b l ls e in
    let rest = batches_formed p (q + 1) p' b ls (below_limit q h f.1) f.2 in
    (rest.0, omega arith, rest.2, rest.3)

-- they are within the limits, and the batches' lines start behind the preamble's
pub listing_formed : (s : List ℕ) (p b : ℕ) → listing_of s ≡ well_formed p b
    → Limits p b × (skip p (split s) ≡ split (drop (18 * p) s)) × (batches p 0 (split (drop (18 * p) s)) ≡ well_formed p b) × (p ≡ preamble_of (split s))
unfolding listing_of
listing_formed s p b e =
    let n = preamble_of (split s) in
    let f = formed_no p b (ltb n 9) _ _ e in
    let rest = batches_formed n 0 p b (skip n (split s)) (omega arith) f.1 in
    let same = rest.0 in
    let cut = (frames_skip n 36 s (omega arith)).0 in
    let all = frames_le 36 (split s) in
    let nine = ltb-false n 9 f.0 in (
      record { long = omega arith; short = omega arith; some = rest.2; few = rest.3 },
      rw (← same) cut,
      rw (← same) (ap (batches n 0) (sym cut) ∙ f.1 ∙ ap (λ m. well_formed m b) (sym same)),
      sym same,
    )

-- all its words are met
met_all : (p q p' b : ℕ) (ls : Lines) → batches p q ls ≡ well_formed p' b → words_met q ls ≡ words_in ls
unfolding words_met words_in
met_all p q p' b (behind t) e = refl
met_all p q p' b (line l ls) e =
    let f = line_formed p q p' b l ls e in
    rw (f.0, ne_eqb q 2700 f.1) (ap (λ (ws : List ℕ). line_words l ++ ws) (met_all p (q + 1) p' b ls f.2))

pub listing_decoded : (s : List ℕ) (p b : ℕ) → listing_of s ≡ well_formed p b → words_decoded s ≡ words_of s
listing_decoded s p b e =
    let f = listing_formed s p b e in
    decoded_long s p f.3 f.0.long ∙ met_all p 0 p b (split (drop (18 * p) s)) f.2 ∙ sym (ap (batch_words s) e ∙ ap words_in f.1)
