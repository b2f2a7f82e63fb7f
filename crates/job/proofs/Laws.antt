-- Laws of the definitions of `specs/`: what a line and a job say, case by case. Assumes nothing.
use Prim.Native.Nat.{ℕ, ◌+◌, ◌-◌, ◌%◌, ◌≤◌, ◌<◌}
use mathlib.Core.Path.{◌≡◌, ap, ◌∙◌}
use mathlib.Core.List.{List, ◌∷◌}
use mathlib.Core.Bool.{Bool, true, false, cond, not}
use mathlib.Core.Logic.{◌⊎◌, ⊎_elim, inl, inr}
use native.Mathlib.Omega.{arith}
use lib.ListN.{length, get_or, take, drop, length-drop}
use lib.Seq.{drop-drop}
use lib.Dec.{leb, eqb}
use borrow.Author.Tests.{le-leb, lt-leb, ne_eqb, leb-true, eqb-true, eqb-false, not-true}
use native.Mathlib.Nat.{eq-or-lt_of_le}
use Rattle.job.specs.Refusal.{refused}
use Rattle.std.specs.Prelude.{Result, Ok}
use Rattle.base.specs.Hex.{is_hex, bytes_of}
use Rattle.base.specs.Leading.{leading}
use Rattle.base.specs.Lines.{split, line_end}
use Rattle.base.proofs.Bools.{and_true, or_true}
use Rattle.base.proofs.HexLaws.{bytes_length}
use Rattle.base.proofs.LeadingLaws.{leading_le}
use Rattle.base.proofs.LinesLaws.{end_inside, none_left, cut, uncut, first, first_next}
use Rattle.text.specs.Coding.{char_ok, char_run}
use Rattle.text.proofs.RunLaws.{run_chars}
use Rattle.job.specs.declared.Refusal.{Refusal}
use Rattle.job.specs.declared.Page.{Page}
use Rattle.job.specs.Line.{is_data, all_hex, is_digits, is_pairs, head_formed, text_formed, tail_formed, well_formed, coding_of, good_run, kind_of, text_digits, line_of}
use Rattle.job.specs.Pages.{page_in, pages_from}
use Rattle.job.specs.Job.{after, judge}
use Rattle.job.specs.declared.Refusal.TheVariants.{Malformed, TooManyLines}

pub head_long : (l : List ℕ) → head_formed l ≡ true → 8 ≤ length l
unfolding head_formed
head_long l e = leb-true 8 (length l) (and_true (leb 8 (length l)) _ e).0

-- A text that has its form is digits, at least one, all of them upper-case; pairs are an even number.
pub digits_some : (t : List ℕ) → is_digits t ≡ true → 0 < length t
unfolding is_digits
digits_some t e =
    let some : length t ≡ 0 → ⊥ = eqb-false (length t) 0 (not-true (eqb (length t) 0) (and_true (not (eqb (length t) 0)) (all_hex t) e).0) in
    omega arith

pub digits_all : (t : List ℕ) → is_digits t ≡ true → leading is_hex t ≡ length t
unfolding is_digits
digits_all t e = eqb-true _ _ (and_true (not (eqb (length t) 0)) (all_hex t) e).1

pub formed_digits : (kind : ℕ) (t : List ℕ) → text_formed kind t ≡ true → is_digits t ≡ true
unfolding text_formed is_pairs
formed_digits kind t = go (is_data kind)
  where
    go : (d : Bool) → cond d (is_digits t) (is_pairs t) ≡ true → is_digits t ≡ true
    go true e = e
    go false e = (and_true (eqb (length t % 2) 0) (is_digits t) e).1

formed_even : (kind : ℕ) (t : List ℕ) → is_data kind ≡ false → text_formed kind t ≡ true → length t % 2 ≡ 0
unfolding text_formed is_pairs
formed_even kind t d e = eqb-true _ _ (and_true (eqb (length t % 2) 0) (is_digits t) (rw d at e)).0

-- The digits of a line's text: none, or a text that has its form.
text_formed_lem : (l : List ℕ) → well_formed l ≡ true → (length (text_digits l) ≡ 0) ⊎ (text_formed (kind_of l) (text_digits l) ≡ true)
unfolding well_formed tail_formed
text_formed_lem l e =
    let t = drop 8 l in
    rw (← drop-drop 1 8 l)
    (⊎_elim
    (λ z. inl (omega (arith, length-drop 1 t, eqb-true (length t) 0 z)))
    (λ z. inr (and_true (eqb (get_or t 0 0) 32) (text_formed (kind_of l) (drop 1 t)) z).1)
    (or_true (eqb (length t) 0) _ (and_true (head_formed l) (tail_formed (kind_of l) t) e).1))

pub text_even : (l : List ℕ) → is_data (kind_of l) ≡ false → well_formed l ≡ true → length (text_digits l) % 2 ≡ 0
text_even l d e = ⊎_elim (λ z. omega arith) (formed_even (kind_of l) (text_digits l) d) (text_formed_lem l e)

pub text_hex : (l : List ℕ) → well_formed l ≡ true → length (text_digits l) ≤ leading is_hex (text_digits l)
text_hex l e =
    ⊎_elim
    (λ z. omega arith)
    (λ z. let all = digits_all (text_digits l) (formed_digits (kind_of l) (text_digits l) z) in omega arith)
    (text_formed_lem l e)

-- The characters at a text's front: an empty one has none, and of pairs they are those that `text::char_run` counts.
module _ (t : List ℕ) (kind : ℕ) where
  pub empty_run : length t ≡ 0 → 0 ≡ good_run kind (bytes_of t)
  empty_run e = omega (arith, bytes_length t, leading_le (char_ok (coding_of kind)) (bytes_of t))

  pub pairs_run : is_pairs t ≡ true → char_run (coding_of kind) t ≡ good_run kind (bytes_of t)
  unfolding is_pairs
  pairs_run e =
      let p = and_true (eqb (length t % 2) 0) (is_digits t) e in
      run_chars (coding_of kind) t (omega (arith, digits_all t p.1))

-- The answer to what is left from the byte `at` on, behind k good lines, with the book b.
module _ (b job : List ℕ) (at k : ℕ) where
  pub judge_done : length job ≤ at → judge b at k (split (drop at job)) ≡ Ok k
  unfolding judge
  judge_done h = rw (none_left job at h)

  pub judge_many : at < length job → 48 ≤ k → judge b at k (split (drop at job)) ≡ refused TooManyLines 49
  unfolding judge
  judge_many h m =
      let d = length-drop at job in
      ⊎_elim
      (λ u. rw (uncut job at (omega arith) (omega arith)) (simp (ne_eqb (length (drop at job)) 0 (λ z. omega arith), le-leb 48 k m)))
      (λ l. rw (cut job at l) (simp (le-leb 48 k m)))
      (eq-or-lt_of_le (end_inside job at (omega arith)))

  pub judge_unended : k < 48 → at < length job → length job ≤ line_end job at → judge b at k (split (drop at job)) ≡ refused Malformed (k + 1)
  unfolding judge
  judge_unended m h u =
      let d = length-drop at job in
      rw (uncut job at (omega arith) u) (simp (ne_eqb (length (drop at job)) 0 (λ z. omega arith), lt-leb 48 k m))

  pub judge_line : {end : ℕ} {x : Result Page Refusal} → end ≡ line_end job at → k < 48 → end < length job → x ≡ line_of b at (take (end - at) (drop at job))
      → judge b at k (split (drop at job)) ≡ after x (k + 1) (judge b (end + 1) (k + 1) (split (drop (end + 1) job)))
  unfolding judge
  judge_line {end} q m h e = rw (e, q, cut job at (rw q at h)) (rw (first_next job at (rw q at h)) (simp (lt-leb 48 k m)))

-- The page of the first line that is left, and those that follow it.
module _ (b s : List ℕ) (at : ℕ) where
  pub pages_next : line_end s at < length s
      → pages_from b at (split (drop at s)) ≡ page_in (line_of b at (first s at)) ∷ pages_from b (line_end s at + 1) (split (drop (line_end s at + 1) s))
  unfolding pages_from
  pages_next h =
      ap (pages_from b at) (cut s at h)
      ∙ ap (λ (x : ℕ). page_in (line_of b at (first s at)) ∷ pages_from b x (split (drop (line_end s at + 1) s))) (first_next s at h)
