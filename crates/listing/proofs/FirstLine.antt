-- The first line of a text, told by the bytes at fixed places: which words it has, and what stands behind it. Assumes nothing.
use Prim.Native.Nat.{ℕ, zero, suc, ◌+◌, ◌-◌, ◌≤◌, ◌<◌}
use mathlib.Core.Path.{◌≡◌, refl, sym, ◌∙◌}
use mathlib.Core.List.{List, [], ◌∷◌}
use mathlib.Core.Bool.{Bool, true, false, ◌&&◌}
use mathlib.Core.Logic.{◌⊎◌, inl, inr, ⊎_elim}
use native.Mathlib.Nat.{eq-or-lt_of_le}
use native.Mathlib.Omega.{arith}
use borrow.Author.Tests.{not-false, eq-eqb, ne_eqb, eqb-true, eqb-false, leb-true, leb-false}
use lib.Dec.{eqb, leb}
use lib.ListN.{length, get_or, take, drop, length-drop, get_or-eq_default}
use lib.Seq.{length-take-le, take-take, get_or-take, get_or-drop, drop-cons}
use Rattle.std.specs.Prelude.{Option, Some, None}
use Rattle.base.specs.Hex.{is_hex, hex_number, hex_word}
use Rattle.base.specs.Leading.{leading}
use Rattle.base.specs.Lines.{Lines, behind, line, split, line_at, not_newline, line_end}
use Rattle.base.proofs.Bools.{either, true_false, and_true, and_false}
use Rattle.base.proofs.HexLaws.{number_word, none_word, number_fits}
use Rattle.base.proofs.LeadingLaws.{leading_le, leading_first}
use Rattle.base.proofs.LinesLaws.{cut, uncut}
use Rattle.base.proofs.ListLaws.{drop_take}
use Rattle.listing.specs.Listing.{is_word, has_one, has_two}
use Rattle.listing.specs.Words.{line_words}
use Rattle.listing.specs.Scan.{line_from, one_of, two_of}

-- ---- Booleans and bytes

and_turn : (p q r : Bool) → (p && q) && r ≡ q && (p && r)
and_turn true q r = refl
and_turn false true r = refl
and_turn false false r = refl

pub false_of : (p : Bool) → (p ≡ true → ⊥) → p ≡ false
false_of true f = absurd (f refl)
false_of false f = refl

-- a byte other than 0 stands inside
inside : (d : List ℕ) (n v : ℕ) → get_or d n 0 ≡ v → 0 < v → n < length d
inside d n v e h =
    ⊎_elim
    (λ (f : leb (length d) n ≡ true). absurd (omega (arith, get_or-eq_default d 0 {n = n} (leb-true (length d) n f))))
    (λ (f : leb (length d) n ≡ false). leb-false (length d) n f)
    (either (leb (length d) n))

-- ---- the first newline

-- the byte that stops the count is the newline
newline_at : (s : List ℕ) → leading not_newline s < length s → get_or s (leading not_newline s) 0 ≡ 10
newline_at s h = eqb-true _ 10 (not-false _ (leading_first not_newline s h))

-- a digit is no newline
hex_not_newline : (b : ℕ) → is_hex b ≡ true → eqb b 10 ≡ false
unfolding is_hex
hex_not_newline b h = ne_eqb b 10 (λ e. let z : false ≡ true = rw e at h in true_false z refl)

past_digits : (m : ℕ) (d : List ℕ) → leading is_hex (take m d) ≡ m → leading not_newline d ≡ m + leading not_newline (drop m d)
past_digits zero d h = omega arith
past_digits (suc m) [] h = absurd (omega arith)
past_digits (suc m) (b ∷ d) h =
    ⊎_elim
    (λ (e : is_hex b ≡ true). let h' = simp e at h in let more = past_digits m d (omega arith) in rw (hex_not_newline b e) (omega arith))
    (λ (e : is_hex b ≡ false). absurd (let h' = simp e at h in omega arith))
    (either (is_hex b))

-- eight digits, and the byte behind them
past_word : (d : List ℕ) (v : ℕ) → leading is_hex (take 8 d) ≡ 8 → get_or d 8 0 ≡ v → 0 < v → leading not_newline d ≡ 8 + leading not_newline (v ∷ drop 9 d)
past_word d v q e h = past_digits 8 d q ∙ rw (drop-cons d 8 0 (inside d 8 v e h), e)

pub line_not_behind : {l t : List ℕ} {ls : Lines} → line l ls ≡ behind t → ⊥
line_not_behind e = let z : ◌≡◌ {A = ℕ} 0 1 = cc in omega arith

-- a text has a first line, up to its first newline, or none
pub first_line : (d : List ℕ) (n : ℕ) → leading not_newline d ≡ n → n < length d → split d ≡ line (take n d) (split (drop (suc n) d))
unfolding line_end
first_line d n e h =
    let z : 0 + leading not_newline d ≡ n = omega arith in
    let y : n - 0 ≡ n = omega arith in
    let x : n + 1 ≡ suc n = omega arith in
    rw (z, y, x) at (cut d 0 (omega arith))

pub lines_of : (d : List ℕ) → (split d ≡ behind d) ⊎ (leading not_newline d < length d)
unfolding line_end
lines_of d = ⊎_elim (λ (e : leading not_newline d ≡ length d). inl (uncut d 0 (omega arith) (omega arith))) (λ h. inr h) (eq-or-lt_of_le (leading_le not_newline d))

-- ---- the words of the first line

-- a word alone stands in front; two words stand in front
abbrev pub alone : List ℕ → Bool
alone d = eqb (get_or d 8 0) 10 && eqb (leading is_hex (take 8 d)) 8

abbrev pub pair : List ℕ → Bool
pair d = eqb (get_or d 17 0) 10 && (eqb (get_or d 8 0) 32 && (eqb (leading is_hex (take 8 d)) 8 && eqb (leading is_hex (take 8 (drop 9 d))) 8))

module _ (d : List ℕ) where
  pub alone_inside : alone d ≡ true → 8 < length d
  alone_inside e = inside d 8 10 (eqb-true (get_or d 8 0) 10 (and_true (eqb (get_or d 8 0) 10) _ e).0) (omega arith)

  alone_end : alone d ≡ true → leading not_newline d ≡ 8
  alone_end e =
      let p = and_true (eqb (get_or d 8 0) 10) _ e in
      past_word d 10 (eqb-true (leading is_hex (take 8 d)) 8 p.1) (eqb-true (get_or d 8 0) 10 p.0) (omega arith)

  pub pair_inside : pair d ≡ true → 17 < length d
  pair_inside e = inside d 17 10 (eqb-true (get_or d 17 0) 10 (and_true (eqb (get_or d 17 0) 10) _ e).0) (omega arith)

  pair_end : pair d ≡ true → leading not_newline d ≡ 17
  pair_end e =
      let p = and_true (eqb (get_or d 17 0) 10) _ e in
      let q = and_true (eqb (get_or d 8 0) 32) _ p.1 in
      let r = and_true (eqb (leading is_hex (take 8 d)) 8) _ q.1 in
      let one = past_word d 32 (eqb-true (leading is_hex (take 8 d)) 8 r.0) (eqb-true (get_or d 8 0) 32 q.0) (omega arith) in
      let two = past_word (drop 9 d) 10 (eqb-true (leading is_hex (take 8 (drop 9 d))) 8 r.1) (get_or-drop 9 d 8 0 ∙ eqb-true (get_or d 17 0) 10 p.0) (omega arith) in
      omega arith

  -- what stands behind such a line
  pub alone_line : alone d ≡ true → split d ≡ line (take 8 d) (split (drop 9 d))
  alone_line e = first_line d 8 (alone_end e) (alone_inside e)

  pub pair_line : pair d ≡ true → split d ≡ line (take 17 d) (split (drop 18 d))
  pair_line e = first_line d 17 (pair_end e) (pair_inside e)

  module _ (n : ℕ) (e : leading not_newline d ≡ n) (h : n < length d) where
    ends_at : get_or d n 0 ≡ 10
    ends_at = rw (sym e) (newline_at d (omega arith))

    one_says : has_one (take n d) ≡ alone d
    unfolding has_one
    one_says =
        ⊎_elim
        (λ (f : eqb n 8 ≡ true).
        let z = eqb-true n 8 f in
        let y : get_or d 8 0 ≡ 10 = rw z at ends_at in
        rw (z, length-take-le 8 d (omega arith), eq-eqb (get_or d 8 0) 10 y))
        (λ (f : eqb n 8 ≡ false).
        rw (length-take-le n d (omega arith), f)
        (sym (false_of (alone d) (λ g. eqb-false n 8 f (sym e ∙ alone_end g)))))
        (either (eqb n 8))

    two_says : has_two (take n d) ≡ pair d
    unfolding has_two
    two_says =
        ⊎_elim
        (λ (f : eqb n 17 ≡ true).
        let z = eqb-true n 17 f in
        let y : get_or d 17 0 ≡ 10 = rw z at ends_at in
        let x : length (take 8 (drop 9 d)) ≡ 8 = length-take-le 8 (drop 9 d) (omega (arith, length-drop 9 d)) in
        rw (z, take-take 8 17 d (omega arith), get_or-take 17 d 8 0 (omega arith), drop_take 9 17 d, length-take-le 8 d (omega arith), x, eq-eqb (get_or d 17 0) 10 y)
        (and_turn (eqb (leading is_hex (take 8 d)) 8) (eqb (get_or d 8 0) 32) (eqb (leading is_hex (take 8 (drop 9 d))) 8)))
        (λ (f : eqb n 17 ≡ false).
        let x : eqb (length (drop 9 (take n d))) 8 ≡ false = ne_eqb (length (drop 9 (take n d))) 8 (λ g. eqb-false n 17 f (omega (arith, length-drop 9 (take n d), length-take-le n d (omega arith)))) in
        rw x (and_false (is_word (take 8 (take n d)) && eqb (get_or (take n d) 8 0) 32)
        ∙ sym (false_of (pair d) (λ g. eqb-false n 17 f (sym e ∙ pair_end g)))))
        (either (eqb n 17))

  pub one_word : has_one (line_from d 0) ≡ alone d
  unfolding has_one line_at
  one_word =
      ⊎_elim
      (λ (e : split d ≡ behind d). rw e (sym (false_of (alone d) (λ g. line_not_behind (sym (alone_line g) ∙ e)))))
      (λ (h : leading not_newline d < length d). rw (first_line d (leading not_newline d) refl h) (one_says (leading not_newline d) refl h))
      (lines_of d)

  pub two_words : has_two (line_from d 0) ≡ pair d
  unfolding has_two line_at
  two_words =
      ⊎_elim
      (λ (e : split d ≡ behind d). rw e (sym (false_of (pair d) (λ g. line_not_behind (sym (pair_line g) ∙ e)))))
      (λ (h : leading not_newline d < length d). rw (first_line d (leading not_newline d) refl h) (two_says (leading not_newline d) refl h))
      (lines_of d)

-- the first line of m bytes, where they are as many as it needs to be right
module _ (d : List ℕ) (m : ℕ) where
  pub one_front : 9 ≤ m → has_one (line_from (take m d) 0) ≡ has_one (line_from d 0)
  one_front h = one_word (take m d) ∙ rw (get_or-take m d 8 0 (omega arith), take-take 8 m d (omega arith)) (sym (one_word d))

  pub two_front : 18 ≤ m → has_two (line_from (take m d) 0) ≡ has_two (line_from d 0)
  two_front h =
      two_words (take m d)
      ∙ rw (get_or-take m d 17 0 (omega arith), get_or-take m d 8 0 (omega arith), take-take 8 m d (omega arith), drop_take 9 m d, take-take 8 (m - 9) (drop 9 d) (omega arith))
      (sym (two_words d))

-- a line of two words has not one alone
pub two_not_one : (l : List ℕ) → has_two l ≡ true → has_one l ≡ false
unfolding has_one has_two
two_not_one l e =
    let second = (and_true (is_word (take 8 l) && eqb (get_or l 8 0) 32) (is_word (drop 9 l)) e).1 in
    let size = eqb-true (length (drop 9 l)) 8 (and_true (eqb (length (drop 9 l)) 8) _ second).0 in
    rw (ne_eqb (length l) 8 (λ f. omega (arith, length-drop 9 l)))

-- ---- the line that a text begins with, as tests of single bytes and of eight digits find it

-- eight bytes as a word
module _ (d : List ℕ) (h : 8 ≤ length d) where
  eight : length (take 8 d) ≡ 8
  eight = length-take-le 8 d h

  word_digits : (w : ℕ) → hex_word (take 8 d) ≡ Some w → (leading is_hex (take 8 d) ≡ 8) × (hex_number 0 (take 8 d) ≡ w)
  word_digits w e =
      let n = number_word (take 8 d) w e in
      (n.0 ∙ eight, sym (n.1 ∙ number_fits (take 8 d) (omega (arith, eight))))

  word_other : hex_word (take 8 d) ≡ None → leading is_hex (take 8 d) ≡ 8 → ⊥
  word_other e f = none_word (take 8 d) e (f ∙ sym eight)

module _ (d : List ℕ) where
  pub one_open : (get_or d 8 0 ≡ 10 → ⊥) → one_of (line_from d 0) ≡ None
  one_open h = let no : has_one (line_from d 0) ≡ false = one_word d ∙ rw (ne_eqb (get_or d 8 0) 10 h) in rw no

  module _ (e : get_or d 8 0 ≡ 10) where
    pub one_none : hex_word (take 8 d) ≡ None → one_of (line_from d 0) ≡ None
    one_none n =
        let long = inside d 8 10 e (omega arith) in
        let no : has_one (line_from d 0) ≡ false =
        one_word d ∙ rw (eq-eqb (get_or d 8 0) 10 e, ne_eqb (leading is_hex (take 8 d)) 8 (word_other d (omega arith) n)) in
        rw no

    pub one_some : (w : ℕ) → hex_word (take 8 d) ≡ Some w → one_of (line_from d 0) ≡ Some w
    unfolding line_at
    one_some w n =
        let long = inside d 8 10 e (omega arith) in
        let digits = word_digits d (omega arith) w n in
        let here : alone d ≡ true = rw (eq-eqb (get_or d 8 0) 10 e, digits.0) in
        let right : has_one (line_from d 0) ≡ true = one_word d ∙ here in
        let cut : line_from d 0 ≡ take 8 d = rw (alone_line d here) in
        rw (right, cut, digits.1)

    -- the word of eight digits, if they are digits
    pub one_is : (o : Option ℕ) → hex_word (take 8 d) ≡ o → one_of (line_from d 0) ≡ o
    one_is None n = one_none n
    one_is (Some w) n = one_some w n

  pub two_open : (get_or d 17 0 ≡ 10 → ⊥) → two_of (line_from d 0) ≡ None
  two_open h = let no : has_two (line_from d 0) ≡ false = two_words d ∙ rw (ne_eqb (get_or d 17 0) 10 h) in rw no

  module _ (e : get_or d 17 0 ≡ 10) where
    pub two_apart : (get_or d 8 0 ≡ 32 → ⊥) → two_of (line_from d 0) ≡ None
    two_apart h =
        let no : has_two (line_from d 0) ≡ false = two_words d ∙ rw (eq-eqb (get_or d 17 0) 10 e, ne_eqb (get_or d 8 0) 32 h) in rw no

    module _ (f : get_or d 8 0 ≡ 32) where
      pair_is : pair d ≡ eqb (leading is_hex (take 8 d)) 8 && eqb (leading is_hex (take 8 (drop 9 d))) 8
      pair_is = rw (eq-eqb (get_or d 17 0) 10 e, eq-eqb (get_or d 8 0) 32 f)

      pub two_first : hex_word (take 8 d) ≡ None → two_of (line_from d 0) ≡ None
      two_first n =
          let long = inside d 17 10 e (omega arith) in
          let no : has_two (line_from d 0) ≡ false =
          two_words d ∙ pair_is ∙ rw (ne_eqb (leading is_hex (take 8 d)) 8 (word_other d (omega arith) n)) in
          rw no

      pub two_second : hex_word (take 8 (drop 9 d)) ≡ None → two_of (line_from d 0) ≡ None
      two_second n =
          let long = inside d 17 10 e (omega arith) in
          let no : has_two (line_from d 0) ≡ false =
          two_words d
          ∙ pair_is
          ∙ rw (ne_eqb (leading is_hex (take 8 (drop 9 d))) 8 (word_other (drop 9 d) (omega (arith, length-drop 9 d)) n))
          (and_false (eqb (leading is_hex (take 8 d)) 8)) in
          rw no

      pub two_some : (v w : ℕ) → hex_word (take 8 d) ≡ Some v → hex_word (take 8 (drop 9 d)) ≡ Some w → two_of (line_from d 0) ≡ Some (v ∷ w ∷ [])
      unfolding line_at line_words
      two_some v w m n =
          let long = inside d 17 10 e (omega arith) in
          let one = word_digits d (omega arith) v m in
          let two = word_digits (drop 9 d) (omega (arith, length-drop 9 d)) w n in
          let here : pair d ≡ true = pair_is ∙ rw (one.0, two.0) in
          let right : has_two (line_from d 0) ≡ true = two_words d ∙ here in
          let other = two_not_one (line_from d 0) right in
          let cut : line_from d 0 ≡ take 17 d = rw (pair_line d here) in
          rw (right, other, cut, take-take 8 17 d (omega arith), drop_take 9 17 d, one.1, two.1)
