-- The words of the batches, read line by line: how many a line has, and what holds before each line. Assumes nothing.
use Prim.Native.Nat.{ℕ, ◌+◌, ◌-◌, ◌*◌, ◌%◌, ◌≤◌}
use mathlib.Core.Path.{◌≡◌, refl, ap, sym, ◌∙◌}
use mathlib.Core.List.{List, [], ◌∷◌, ◌++◌, append-nil, append_assoc}
use mathlib.Core.Bool.{Bool, true, false, cond}
use mathlib.Core.Logic.{⊎_elim}
use native.Mathlib.Omega.{arith}
use borrow.Author.Tests.{eq-eqb, ne_eqb}
use lib.Dec.{eqb}
use lib.ListN.{length, get_or, set, take, drop, length-append, length-drop}
use lib.Seq.{drop-drop}
use Rattle.std.specs.Prelude.{Some, None}
use Rattle.base.specs.Hex.{hex_number}
use Rattle.base.specs.Lines.{split}
use Rattle.base.specs.Lists.{over}
use Rattle.base.proofs.Bools.{either}
use Rattle.base.proofs.ListLaws.{over_behind, over_byte, over_length}
use Rattle.listing.specs.Listing.{has_one, has_two, is_due, batches}
use Rattle.listing.specs.Words.{line_words}
use Rattle.listing.specs.Scan.{line_from, one_of, two_of, count_if, words_if, words_met}
use Rattle.listing.proofs.FirstLine.{two_not_one}
use Rattle.listing.proofs.BatchLaws.{line_bytes, due_inside, batches_more, met_more, met_stray, below_limit}
use Rattle.listing.proofs.Indexed.{words_before, bytes_more}

-- ---- one line

some_if : {A : Type 0} {x y : A} (right : Bool) → cond right (Some x) None ≡ Some y → (right ≡ true) × (x ≡ y)
some_if true e = (refl, cc)
some_if {x} {y} false e = absurd (let z : ◌≡◌ {A = ℕ} 0 1 = cc in omega arith)

none_if : {A : Type 0} (x : A) (right : Bool) → cond right (Some x) None ≡ None → right ≡ false
none_if x true e = absurd (let z : ◌≡◌ {A = ℕ} 0 1 = cc in omega arith)
none_if x false e = refl

-- how many words are read tells whether the line is right
pub none_read : {right : Bool} (l : List ℕ) → count_if right l ≡ None → right ≡ false
none_read {right} l e = none_if _ right e

pub some_read : {right : Bool} {n : ℕ} (l : List ℕ) → count_if right l ≡ Some n → (right ≡ true) × (length (line_words l) ≡ n)
some_read {right} l e = some_if right e

-- what is read of line q of the batches, and what is then written
module _ (q : ℕ) (l old : List ℕ) where
  nothing : is_due q l ≡ false → (None ≡ count_if (is_due q l) l) × (old ≡ over old (words_if (is_due q l) l))
  nothing e = (rw e, rw e)

  module _ (first : q % 9 ≡ 0) where
    due_one : is_due q l ≡ has_one l
    unfolding is_due
    due_one = rw (eq-eqb (q % 9) 0 first)

    pub one_missing : one_of l ≡ None → (None ≡ count_if (is_due q l) l) × (old ≡ over old (words_if (is_due q l) l))
    one_missing e = nothing (due_one ∙ none_if _ (has_one l) e)

    pub one_written : {w : ℕ} → one_of l ≡ Some w → 1 ≤ length old → (Some 1 ≡ count_if (is_due q l) l) × (set old 0 w ≡ over old (words_if (is_due q l) l))
    unfolding line_words
    one_written {w} e room =
        let read = some_if (has_one l) e in
        (rw (due_one, read.0), over_byte old [] 0 w refl refl (omega arith) ∙ rw (due_one, read.0, read.1))

  module _ (later : q % 9 ≡ 0 → ⊥) where
    due_two : is_due q l ≡ has_two l
    unfolding is_due
    due_two = rw (ne_eqb (q % 9) 0 later)

    pub two_missing : two_of l ≡ None → (None ≡ count_if (is_due q l) l) × (old ≡ over old (words_if (is_due q l) l))
    two_missing e = nothing (due_two ∙ none_if _ (has_two l) e)

    pub two_written : {ws : List ℕ} → two_of l ≡ Some ws → 2 ≤ length old
        → (Some 2 ≡ count_if (is_due q l) l) × (set (set old 0 (get_or ws 0 0)) 1 (get_or ws 1 0) ≡ over old (words_if (is_due q l) l))
    unfolding line_words
    two_written {ws} e room =
        let read = some_if (has_two l) e in
        let one = two_not_one l read.0 in
        let v = hex_number 0 (take 8 l) in
        let w = hex_number 0 (drop 9 l) in
        let pair : ws ≡ v ∷ w ∷ [] = sym read.1 ∙ rw one in
        let words : set (set old 0 v) 1 w ≡ over old (v ∷ w ∷ []) = over_byte old (v ∷ []) 1 w (over_byte old [] 0 v refl refl (omega arith)) refl (omega arith) in
        (rw (due_two, read.0, one), rw (due_two, read.0, one, pair) words)

-- line q of the batches: nine bytes a word
due_words : (q : ℕ) (l : List ℕ) → is_due q l ≡ true → (9 * length (line_words l) ≡ line_bytes q) × (words_before q + length (line_words l) ≡ words_before (q + 1))
unfolding is_due line_bytes line_words
due_words q l e = (size, omega (arith, size, bytes_more q))
  where
    size : 9 * length (line_words l) ≡ line_bytes q
    size =
        ⊎_elim
        (λ (z : eqb (q % 9) 0 ≡ true). let one : has_one l ≡ true = rw z at e in rw (z, one))
        (λ (z : eqb (q % 9) 0 ≡ false). let one = two_not_one l (rw z at e) in rw (z, one))
        (either (eqb (q % 9) 0))

-- ---- before line q

-- the words so far are written, and these and those still to be met make the whole
pub record Going (s : List ℕ) (p : ℕ) (old new : List ℕ) (at k q : ℕ) : Type 0 where
  pub few : q ≤ 2700
  pub inside : at ≤ length s
  pub left : batches p 0 (split (drop (18 * p) s)) ≡ batches p q (split (drop at s))
  pub done : List ℕ
  pub size : length done ≡ k
  pub count : k ≡ words_before q
  pub written : new ≡ over old done
  pub words : words_met 0 (split (drop (18 * p) s)) ≡ done ++ words_met q (split (drop at s))

pub begun : (s : List ℕ) (p : ℕ) (old : List ℕ) → 18 * p ≤ length s → Going s p old old (18 * p) 0 0
begun s p old h = record { few = omega arith; inside = h; left = refl; done = []; size = refl; count = refl; written = refl; words = refl }

module _ {s old new : List ℕ} {p at k q : ℕ} (room : 5100 ≤ length old) (g : Going s p old new at k q) where
  pub same_size : length new ≡ length old
  same_size = ap length g.written ∙ over_length old g.done (omega (arith, g.few, g.size, g.count))

  -- there is room for two words more
  pub fits : (q ≡ 2700 → ⊥) → k + 2 ≤ length new
  fits few = omega (arith, below_limit q g.few few, same_size, g.count)

  -- the line's words go behind them
  pub read_on : {n : ℕ} {part : List ℕ} → (q ≡ 2700 → ⊥) → is_due q (line_from s at) ≡ true → length (line_words (line_from s at)) ≡ n
      → part ≡ over (take (length new - k) (drop k new)) (words_if (is_due q (line_from s at)) (line_from s at))
      → Going s p old (take k new ++ (part ++ drop (length new - k) (drop k new))) (at + 9 * n) (k + n) (q + 1)
  read_on {n} {part} few due size here =
      let l = line_from s at in
      let d = drop at s in
      let counts = due_words q l due in
      let long : n ≡ length (line_words l) = sym size in
      let bytes : 9 * n ≡ line_bytes q = omega (arith, counts.0) in
      let rest : drop (at + 9 * n) s ≡ drop (line_bytes q) d = rw (bytes) (sym (drop-drop (line_bytes q) at s)) in
      record {
        few = below_limit q g.few few;
        inside = omega (arith, due_inside p q d due, length-drop at s, g.inside);
        left = rw rest (g.left ∙ batches_more p q d due few);
        done = g.done ++ line_words l;
        size = length-append g.done (line_words l) ∙ omega (arith, g.size);
        count = omega (arith, g.count, counts.1);
        written = over_behind old g.done (line_words l) k g.written g.size (omega (arith, same_size, g.few, g.count)) (here ∙ rw due);
        words = rw rest (g.words ∙ ap (λ ws. g.done ++ ws) (met_more p q d due few) ∙ sym (append_assoc g.done (line_words l) (words_met (q + 1) (split (drop (line_bytes q) d)))));
      }

  -- no more are met
  pub met : words_met q (split (drop at s)) ≡ [] → new ≡ over old (words_met 0 (split (drop (18 * p) s)))
  met none = g.written ∙ ap (over old) (sym (g.words ∙ ap (λ ws. g.done ++ ws) none ∙ append-nil g.done))

  -- the line is not right
  pub read_none : {part : List ℕ} → (q ≡ 2700 → ⊥) → is_due q (line_from s at) ≡ false
      → part ≡ over (take (length new - k) (drop k new)) (words_if (is_due q (line_from s at)) (line_from s at))
      → take k new ++ (part ++ drop (length new - k) (drop k new)) ≡ over old (words_met 0 (split (drop (18 * p) s)))
  read_none few stray here =
      over_behind old g.done [] k g.written g.size (omega (arith, fits few)) (here ∙ rw stray)
      ∙ ap (over old) (append-nil g.done)
      ∙ sym g.written
      ∙ met (met_stray q (split (drop at s)) stray)
