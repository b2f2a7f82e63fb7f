-- How much of a book decides: one byte more than the phrases can have that are still allowed. Assumes nothing.
use Prim.Native.Nat.{ℕ, zero, suc, ◌+◌, ◌-◌, ◌*◌, ◌≤◌, ◌<◌}
use mathlib.Core.Path.{◌≡◌, refl, sym, ap, ◌∙◌}
use mathlib.Core.List.{List}
use mathlib.Core.Bool.{Bool, true, false, cond, not, ◌||◌}
use mathlib.Core.Logic.{⊎_elim}
use native.Mathlib.Nat.{eq-or-lt_of_le}
use native.Mathlib.Omega.{arith}
use lib.ListN.{length, take, drop, length-drop}
use lib.Seq.{length-take-le, take_all, take-take}
use lib.Dec.{leb, eqb}
use borrow.Author.Tests.{le-leb}
use Rattle.base.specs.Lines.{Lines, behind, line, split, line_end}
use Rattle.base.proofs.Bools.{either}
use Rattle.base.proofs.ListLaws.{drop_take}
use Rattle.base.proofs.SearchLaws.{le_or_lt}
use Rattle.base.proofs.LinesLaws.{end_inside, end_take, first, first_length}
use Rattle.phrases.specs.Book.{is_phrase, fault_from, book_fault}
use Rattle.phrases.specs.Front.{BookFront}
use Rattle.phrases.proofs.Phrases.{phrase_parts, fault_many, fault_unended, fault_line, fault_next}

-- ---- what more bytes change

-- the first line is longer than a phrase, or has no newline
fault_long : (s : List ℕ) (k : ℕ) → 480 < line_end s 0 → fault_from k (split s) ≡ k + 1
fault_long s k h =
    ⊎_elim
    (λ (u : line_end s 0 ≡ length s). fault_unended s 0 k (omega arith) (omega arith))
    (λ (l : line_end s 0 < length s). fault_line s 0 k refl l (too_long l))
    (eq-or-lt_of_le (end_inside s 0 (omega arith)))
  where
    too_long : line_end s 0 < length s → is_phrase (first s 0) ≡ false
    too_long l = ⊎_elim (λ e. absurd (omega (arith, phrase_parts (first s 0) e, first_length s 0 l))) (λ e. e) (either (is_phrase (first s 0)))

-- behind k phrases: there is a fault, and m bytes show which
abbrev Decided : ℕ → ℕ → List ℕ → Type 0
Decided k m s = (0 < fault_from k (split s)) × (fault_from k (split (take m s)) ≡ fault_from k (split s))

-- they show that it is the next line
here : (k m : ℕ) (s : List ℕ) → fault_from k (split s) ≡ k + 1 → fault_from k (split (take m s)) ≡ k + 1 → Decided k m s
here k m s e f = (omega arith, omega arith)

-- they have the next line whole
whole : (k m : ℕ) (s : List ℕ) → k < 100 → line_end s 0 < m → m ≤ length s
    → (line_end s 0 ≤ 480 → Decided (k + 1) (m - (line_end s 0 + 1)) (drop (line_end s 0 + 1) s)) → Decided k m s
whole k m s h l c next = go (is_phrase (first s 0)) refl
  where
    ends : line_end s 0 ≡ line_end (take m s) 0
    ends = omega (arith, end_take s m)

    inside : line_end s 0 < length (take m s)
    inside = omega (arith, length-take-le m s c)

    same : take (line_end s 0 - 0) (take m s) ≡ first s 0
    same = take-take (line_end s 0 - 0) m s (omega arith)

    go : (t : Bool) → is_phrase (first s 0) ≡ t → Decided k m s
    go true e =
        let r = next (omega (arith, phrase_parts (first s 0) e, first_length s 0 (omega arith))) in
        let x = fault_next s 0 k h refl (omega arith) e in
        let y = fault_next (take m s) 0 k h ends inside (rw same e) in
        (omega arith, y ∙ rw (drop_take (line_end s 0 + 1) m s) (r.1 ∙ sym x))
    go false e = here k m s (fault_line s 0 k refl (omega arith) e) (fault_line (take m s) 0 k ends inside (rw same e))

-- n more phrases are allowed, and m bytes are more than these have
decided : (n k m : ℕ) (s : List ℕ) → k + n ≡ 100 → 481 * n < m → m ≤ length s → Decided k m s
decided zero k m s a b c =
    here k m s (fault_many s 0 k (omega arith) (omega arith)) (fault_many (take m s) 0 k (omega (arith, length-take-le m s c)) (omega arith))
decided (suc n) k m s a b c =
    let d = length-drop (line_end s 0 + 1) s in
    ⊎_elim
    (λ (l : m ≤ line_end s 0). here k m s (fault_long s k (omega arith)) (fault_long (take m s) k (omega (arith, end_take s m))))
    (λ (l : line_end s 0 < m). whole k m s (omega arith) l c (λ f. decided n (k + 1) (m - (line_end s 0 + 1)) (drop (line_end s 0 + 1) s) (omega arith) (omega arith) (omega arith)))
    (le_or_lt m (line_end s 0))

-- ---- a fault's place

of_two : (t : Bool) {x y n : ℕ} → x ≤ n → y ≤ n → cond t x y ≤ n
of_two true h g = h
of_two false h g = g

place_from : (k : ℕ) (ls : Lines) → k ≤ 100 → fault_from k ls ≤ 101
unfolding fault_from
place_from k (behind p) h = of_two (eqb (length p) 0) (omega arith) (omega arith)
place_from k (line l ls) h =
    ⊎_elim
    (λ m. rw (le-leb 100 k m) (omega arith))
    (λ m. of_two (leb 100 k || not (is_phrase l)) (omega arith) (place_from (k + 1) ls (omega arith)))
    (le_or_lt 100 k)

pub book_front : (b : List ℕ) → BookFront b
unfolding book_fault
book_front b =
    record {
      short = λ e. ⊎_elim (λ h. h) (λ h. absurd (omega (arith, (decided 100 0 (length b) b (omega arith) (omega arith) (omega arith)).0))) (le_or_lt (length b) 48100);
      place = place_from 0 (split b) (omega arith);
      front = λ m h.
          ⊎_elim
          (λ l. ap (λ (x : List ℕ). fault_from 0 (split x)) (take_all m b l))
          (λ l. (decided 100 0 m b (omega arith) (omega arith) (omega arith)).1)
          (le_or_lt (length b) m);
    }
