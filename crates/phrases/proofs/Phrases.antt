-- Laws of a phrase book: what a phrase is, the first line that is none, and where a phrase stands. Assumes nothing.
use Prim.Native.Nat.{ℕ, suc, ◌+◌, ◌-◌, ◌*◌, ◌≤◌, ◌<◌}
use mathlib.Core.Path.{◌≡◌, refl, sym, ap, ◌∙◌}
use mathlib.Core.List.{List}
use mathlib.Core.Bool.{Bool, true, false, cond, ◌||◌}
use mathlib.Core.Logic.{⊎_elim}
use native.Mathlib.Nat.{eq-or-lt_of_le}
use native.Mathlib.Omega.{arith}
use lib.ListN.{length, get_or, take, drop, length-drop}
use lib.Dec.{leb, ltb, eqb}
use borrow.Author.Tests.{le-leb, lt-leb, lt-ltb, le-ltb, eq-eqb, ne_eqb, leb-true, eqb-true}
use Rattle.std.specs.Prelude.{Option, Some, None}
use Rattle.base.specs.Hex.{between, hex_of}
use Rattle.base.specs.Lines.{Lines, line, split, line_at, line_count, line_start, line_end}
use Rattle.base.proofs.Bools.{either, and_true}
use Rattle.base.proofs.SearchLaws.{le_or_lt}
use Rattle.base.proofs.LinesLaws.{end_inside, none_left, cut, uncut, first, first_length, first_next}
use Rattle.text.specs.Coding.{char_run}
use Rattle.text.specs.declared.Coding.TheVariants.{Alphanumeric}
use Rattle.phrases.specs.Book.{is_phrase, fault_from, book_fault, first_fault, newline_from, is_decimal, is_two_digits, phrase_at, phrase_for, phrase_number}
use Rattle.phrases.specs.declared.Phrase.{Phrase}

-- ---- a phrase, by the characters at its front

pub phrase_parts : (l : List ℕ) → is_phrase l ≡ true → (1 ≤ char_run Alphanumeric l) × (char_run Alphanumeric l ≤ 240) × (2 * char_run Alphanumeric l ≡ length l)
unfolding is_phrase
phrase_parts l e =
    let p = and_true (between 1 240 (char_run Alphanumeric l)) _ e in
    let q = and_true (leb 1 (char_run Alphanumeric l)) _ p.0 in
    (leb-true 1 _ q.0, leb-true _ 240 q.1, eqb-true _ (length l) p.1)

-- ---- an answer that may be none

pub no_fault : (b : List ℕ) → book_fault b ≡ 0 → None ≡ first_fault b
no_fault b e = rw e

pub a_fault : (b : List ℕ) (k : ℕ) → book_fault b ≡ k + 1 → Some (k + 1) ≡ first_fault b
a_fault b k e = rw (e, ne_eqb (k + 1) 0 (λ z. omega arith))

-- and what such an answer says
pub sound_of : (b : List ℕ) → None ≡ first_fault b → book_fault b ≡ 0
sound_of b e =
    ⊎_elim
    (λ (l : book_fault b ≤ 0). omega arith)
    (λ (l : 0 < book_fault b). let f : None ≡ Some (book_fault b) = e ∙ rw (ne_eqb (book_fault b) 0 (λ z. omega arith)) in cc)
    (le_or_lt (book_fault b) 0)

pub fault_of : (b : List ℕ) {k : ℕ} → Some k ≡ first_fault b → (book_fault b ≡ k) × (0 < k)
fault_of b {k} e =
    ⊎_elim
    (λ (l : book_fault b ≤ 0). let f : Some k ≡ None = e ∙ rw (eq-eqb (book_fault b) 0 (omega arith)) in cc)
    (λ (l : 0 < book_fault b).
    let f : Some k ≡ Some (book_fault b) = e ∙ rw (ne_eqb (book_fault b) 0 (λ z. omega arith)) in
    let q : book_fault b ≡ k = cc in (q, omega arith))
    (le_or_lt (book_fault b) 0)

pub newline_some : (b : List ℕ) (at : ℕ) {end : ℕ} → Some end ≡ newline_from b at → (end ≡ line_end b at) × (end < length b)
newline_some b at {end} e =
    ⊎_elim
    (λ (m : length b ≤ line_end b at). let f : Some end ≡ None = e ∙ rw (le-ltb (line_end b at) (length b) m) in cc)
    (λ (l : line_end b at < length b).
    let f : Some end ≡ Some (line_end b at) = e ∙ rw (lt-ltb (line_end b at) (length b) l) in
    let q : end ≡ line_end b at = cc in (q, omega arith))
    (le_or_lt (length b) (line_end b at))

pub newline_none : (b : List ℕ) (at : ℕ) → None ≡ newline_from b at → length b ≤ line_end b at
newline_none b at e =
    ⊎_elim
    (λ (m : length b ≤ line_end b at). m)
    (λ (l : line_end b at < length b). let f : None ≡ Some (line_end b at) = e ∙ rw (lt-ltb (line_end b at) (length b) l) in cc)
    (le_or_lt (length b) (line_end b at))

-- ---- what is left of a book from the byte `at` on, behind k phrases

module _ (b : List ℕ) (at k : ℕ) where
  pub fault_none : length b ≤ at → fault_from k (split (drop at b)) ≡ 0
  unfolding fault_from
  fault_none h = rw (none_left b at h)

  pub fault_many : at < length b → 100 ≤ k → fault_from k (split (drop at b)) ≡ k + 1
  unfolding fault_from
  fault_many h m =
      let d = length-drop at b in
      ⊎_elim
      (λ u. rw (uncut b at (omega arith) (omega arith)) (simp (ne_eqb (length (drop at b)) 0 (λ z. omega arith))))
      (λ l. rw (cut b at l) (simp (le-leb 100 k m)))
      (eq-or-lt_of_le (end_inside b at (omega arith)))

  pub fault_unended : at < length b → length b ≤ line_end b at → fault_from k (split (drop at b)) ≡ k + 1
  unfolding fault_from
  fault_unended h u =
      let d = length-drop at b in
      rw (uncut b at (omega arith) u) (simp (ne_eqb (length (drop at b)) 0 (λ z. omega arith)))

  pub fault_line : {end : ℕ} → end ≡ line_end b at → end < length b → is_phrase (take (end - at) (drop at b)) ≡ false → fault_from k (split (drop at b)) ≡ k + 1
  unfolding fault_from
  fault_line q h e = rw (cut b at (rw q at h), ← q, e) (go (leb 100 k) _)
    where
      go : (t : Bool) (x : ℕ) → cond (t || true) (k + 1) x ≡ k + 1
      go true x = refl
      go false x = refl

  pub fault_next : {end : ℕ} → k < 100 → end ≡ line_end b at → end < length b → is_phrase (take (end - at) (drop at b)) ≡ true
      → fault_from k (split (drop at b)) ≡ fault_from (k + 1) (split (drop (end + 1) b))
  unfolding fault_from
  fault_next m q h e = rw (cut b at (rw q at h), ← q, e, lt-leb 100 k m)

-- ---- where a phrase stands

-- bytes `start` to `start` + n
abbrev pub stretch : ℕ → ℕ → Phrase
stretch start n = record { start = start; length = n }

-- a phrase of what is left from the byte `at` on, as one of the whole book
abbrev pub moved : ℕ → Option Phrase → Option Phrase
moved at (Some f) = Some (stretch (at + f.start) f.length)
moved at None = None

pub moved_none : (x : Option Phrase) → x ≡ moved 0 x
moved_none (Some f) = ap (λ (a : ℕ). Some (stretch a f.length)) (omega arith)
moved_none None = refl

moved_on : (at size end : ℕ) (x : Option Phrase) → at + size ≡ end → moved at (moved size x) ≡ moved end x
moved_on at size end (Some f) e = ap (λ (a : ℕ). Some (stretch a f.length)) (omega arith)
moved_on at size end None e = refl

less_suc : (p n : ℕ) → ltb (suc p) (suc n) ≡ ltb p n
less_suc p n =
    ⊎_elim
    (λ (h : n ≤ p). le-ltb (suc p) (suc n) (omega arith) ∙ sym (le-ltb p n h))
    (λ (h : p < n). lt-ltb (suc p) (suc n) (omega arith) ∙ sym (lt-ltb p n h))
    (le_or_lt n p)

-- behind a line
phrase_behind : (p : ℕ) (l : List ℕ) (ls : Lines) → phrase_at (suc p) (line l ls) ≡ moved (length l + 1) (phrase_at p ls)
unfolding phrase_at line_count line_start line_at
phrase_behind p l ls = rw (less_suc p (line_count ls)) (go (ltb p (line_count ls)) (line_start p ls) (length (line_at p ls)))
  where
    go : (t : Bool) (a n : ℕ) → cond t (Some (stretch (length l + 1 + a) n)) None ≡ moved (length l + 1) (cond t (Some (stretch a n)) None)
    go true a n = refl
    go false a n = refl

module _ (b : List ℕ) (at : ℕ) where
  -- no line is left
  pub phrase_none : (p : ℕ) → at ≤ length b → length b ≤ line_end b at → moved at (phrase_at p (split (drop at b))) ≡ None
  unfolding phrase_at line_count
  phrase_none p h u = rw (uncut b at h u, le-ltb p 0 (omega arith))

  pub phrase_here : {end : ℕ} → end ≡ line_end b at → end < length b → moved at (phrase_at 0 (split (drop at b))) ≡ Some (stretch at (end - at))
  unfolding phrase_at line_count line_start line_at
  phrase_here q h =
      rw (cut b at (rw q at h), q, first_length b at (rw q at h), lt-ltb 0 (suc (line_count (split (drop (line_end b at + 1) b)))) (omega arith))
      (ap (λ (x : ℕ). Some (stretch x (line_end b at - at))) (omega arith))

  pub phrase_next : (p : ℕ) {end : ℕ} → end ≡ line_end b at → end < length b
      → moved at (phrase_at (suc p) (split (drop at b))) ≡ moved (end + 1) (phrase_at p (split (drop (end + 1) b)))
  phrase_next p q h =
      let l = first b at in
      let ls = split (drop (line_end b at + 1) b) in
      rw (q, cut b at (rw q at h), phrase_behind p l ls) (moved_on at (length l + 1) (line_end b at + 1) (phrase_at p ls) (omega (arith, first_next b at (rw q at h))))

-- ---- the digits that name one

pub two_digits : (ds : List ℕ) → is_two_digits ds ≡ true → length ds ≡ 2
unfolding is_two_digits
two_digits ds e = eqb-true (length ds) 2 (and_true (eqb (length ds) 2) _ e).0

-- that they are two decimal ones, as facts
pub record TwoDigits (ds : List ℕ) : Type 0 where
  pub two : length ds ≡ 2
  pub first : (48 ≤ get_or ds 0 0) × (get_or ds 0 0 ≤ 57)
  pub second : (48 ≤ get_or ds 1 0) × (get_or ds 1 0 ≤ 57)

decimal_is : (d : ℕ) → is_decimal d ≡ true → (48 ≤ d) × (d ≤ 57)
decimal_is d e = let p = and_true (leb 48 d) (leb d 57) e in (leb-true 48 d p.0, leb-true d 57 p.1)

two_digits_of : (ds : List ℕ) → is_two_digits ds ≡ true → TwoDigits ds
unfolding is_two_digits
two_digits_of ds e =
    let p = and_true (eqb (length ds) 2) _ e in
    let q = and_true (is_decimal (get_or ds 0 0)) (is_decimal (get_or ds 1 0)) p.1 in
    record { two = eqb-true (length ds) 2 p.0; first = decimal_is _ q.0; second = decimal_is _ q.1 }

of_two_digits : (ds : List ℕ) → TwoDigits ds → is_two_digits ds ≡ true
unfolding is_two_digits
of_two_digits ds t =
    simp (eq-eqb (length ds) 2 t.two, le-leb 48 _ t.first.0, le-leb _ 57 t.first.1, le-leb 48 _ t.second.0, le-leb _ 57 t.second.1)

pub unnamed : (b ds : List ℕ) → (TwoDigits ds → ⊥) → None ≡ phrase_for b ds
unfolding phrase_for
unnamed b ds h = ⊎_elim (λ e. absurd (h (two_digits_of ds e))) (λ e. rw e) (either (is_two_digits ds))

pub named : (b ds : List ℕ) {number : ℕ} {x : Option Phrase} → TwoDigits ds → number ≡ (get_or ds 0 0 - 48) * 10 + (get_or ds 1 0 - 48) → x ≡ phrase_at number (split b)
    → x ≡ phrase_for b ds
unfolding phrase_for phrase_number hex_of
named b ds t q f =
    let n : phrase_number ds ≡ (get_or ds 0 0 - 48) * 10 + (get_or ds 1 0 - 48) = simp (le-leb 48 _ t.first.0, le-leb _ 57 t.first.1, le-leb 48 _ t.second.0, le-leb _ 57 t.second.1) in
    rw (of_two_digits ds t, n, ← q) f
