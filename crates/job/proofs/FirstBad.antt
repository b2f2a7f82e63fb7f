-- Number 6 names the first bad character. Assumes nothing.
use Prim.Native.Nat.{ℕ, zero, suc, ◌+◌, ◌-◌, ◌/◌, ◌%◌, ◌≤◌, ◌<◌}
use mathlib.Core.Path.{◌≡◌, refl}
use mathlib.Core.List.{List}
use mathlib.Core.Bool.{Bool, true, false, cond, ◌&&◌}
use native.Mathlib.Omega.{arith}
use lib.ListN.{length}
use lib.Dec.{leb, ltb, eqb}
use borrow.Author.Tests.{ltb-true}
use Rattle.std.specs.Prelude.{Result, Ok, Err}
use Rattle.base.specs.Hex.{between, bytes_of}
use Rattle.base.specs.Lines.{Lines, behind, line, split, line_at}
use Rattle.base.proofs.LeadingLaws.{leading_each, leading_first}
use Rattle.text.specs.Coding.{char_ok, ends_in_space}
use Rattle.phrases.specs.Book.{has_book, book_fault, phrase_for}
use Rattle.phrases.specs.declared.Phrase.{Phrase}
use Rattle.std.specs.Prelude.{Option, Some, None}
use Rattle.job.specs.Line.{well_formed, is_reserved, longest_of, coding_of, is_data, good_run, tone_page_of, text_page_of, data_page_of, phrase_page_of, kind_page_of, page_of, line_of, identity_of, kind_of, text_digits, text_of, page_from}
use Rattle.job.specs.Job.{after, judge, job_of}
use Rattle.job.specs.Refusal.{number_of, position_of, job_number, job_place, job_position, JobAnswer, refused}
use Rattle.job.specs.FirstBad.{FirstBad, Positioned}
use Rattle.job.specs.declared.Refusal.{Refusal}
use Rattle.job.specs.declared.Refusal.TheVariants.{Malformed, IdentityRange, IdentityReserved, UnknownKind, PartialGroup, ToneWithText, TextMissing, TextTooLong, Character, TrailingSpace, TooManyLines, EmptyJob, BadBook}
use Rattle.job.specs.declared.Page.{Page}

-- a line's number and position
abbrev line_number : Result Page Refusal → ℕ
line_number (Ok page) = 0
line_number (Err why) = number_of why

abbrev line_position : Result Page Refusal → ℕ
line_position (Ok page) = 0
line_position (Err why) = position_of why

-- what number 6 says of a text
abbrev Bad6 : ℕ → List ℕ → Result Page Refusal → Type 0
Bad6 kind bytes a = line_number a ≡ 6 → FirstBad kind bytes (line_position a)

-- a test for another number comes first
other : (kind : ℕ) (bytes : List ℕ) (t : Bool) (why : Refusal) (rest : Result Page Refusal) → (number_of why ≡ 6 → ⊥) → Bad6 kind bytes rest → Bad6 kind bytes (cond t (Err why) rest)
other kind bytes true why rest n r e = absurd (n e)
other kind bytes false why rest n r e = r e

run_bad : (kind : ℕ) (bytes : List ℕ) → good_run kind bytes < length bytes → FirstBad kind bytes (good_run kind bytes + 1)
run_bad kind bytes h =
    let p = char_ok (coding_of kind) in
    let one : good_run kind bytes + 1 - 1 ≡ good_run kind bytes = omega arith in
    record { inside = (omega arith, omega arith); bad = rw one (leading_first p bytes h); before = λ i l. leading_each p bytes i (omega arith) }

module _ (page : Page) (bytes : List ℕ) where
  abbrev kind : ℕ
  kind = page.kind

  text_bad : Bad6 kind bytes (text_page_of page bytes)
  unfolding text_page_of
  text_bad =
      other kind bytes (eqb (length bytes) 0) TextMissing _ (λ n. omega arith)
      (other kind bytes (ltb (longest_of kind) (length bytes)) TextTooLong _ (λ n. omega arith)
      (char (ltb (good_run kind bytes) (length bytes)) refl))
    where
      spaced : Bad6 kind bytes (cond (ends_in_space (coding_of kind) bytes) (Err TrailingSpace) (Ok page))
      spaced = other kind bytes (ends_in_space (coding_of kind) bytes) TrailingSpace _ (λ n. omega arith) (λ e. absurd (omega arith))

      char : (t : Bool) → ltb (good_run kind bytes) (length bytes) ≡ t
          → Bad6 kind bytes (cond t (Err (Character (good_run kind bytes + 1))) (cond (ends_in_space (coding_of kind) bytes) (Err TrailingSpace) (Ok page)))
      char true h e = run_bad kind bytes (ltb-true _ _ h)
      char false h e = spaced e

kind_bad : (b : List ℕ) (page : Page) (digits : List ℕ) → Bad6 page.kind (bytes_of digits) (kind_page_of b page digits)
unfolding kind_page_of tone_page_of data_page_of
kind_bad b page digits = by_kind (between 0 3 page.kind) (between 4 5 page.kind) (is_data page.kind) (eqb page.kind 9 && has_book b)
  where
    tone : (t : Bool) → Bad6 page.kind (bytes_of digits) (cond t (Ok page) (Err ToneWithText))
    tone true e = absurd (omega arith)
    tone false e = absurd (omega arith)

    fives : Bad6 page.kind (bytes_of digits) (data_page_of page digits)
    fives =
        other page.kind (bytes_of digits) (ltb 0 (length digits % 5)) PartialGroup _ (λ n. omega arith)
        (other page.kind (bytes_of digits) (eqb (length digits) 0) TextMissing _ (λ n. omega arith)
        (other page.kind (bytes_of digits) (ltb 84 (length digits / 5)) TextTooLong _ (λ n. omega arith) (λ e. absurd (omega arith))))

    phrase : (f : Option Phrase) → Bad6 page.kind (bytes_of digits) (phrase_page_of page f)
    phrase (Some f) e = absurd (omega arith)
    phrase None e = absurd (omega arith)

    by_kind : (t u d v : Bool)
        → Bad6 page.kind (bytes_of digits) (cond t (tone_page_of page digits) (cond u (text_page_of page (bytes_of digits)) (cond d (data_page_of page digits) (cond v (phrase_page_of page (phrase_for b digits)) (Err UnknownKind)))))
    by_kind true u d v = tone (eqb (length digits) 0)
    by_kind false true d v = text_bad page (bytes_of digits)
    by_kind false false true v = fives
    by_kind false false false true = phrase (phrase_for b digits)
    by_kind false false false false = λ e. absurd (omega arith)

line_bad : (b : List ℕ) (at : ℕ) (l : List ℕ) → Bad6 (kind_of l) (text_of l) (line_of b at l)
unfolding line_of page_of
line_bad b at l = formed (well_formed l)
  where
    page : Bad6 (kind_of l) (text_of l) (page_of b (page_from at l) (text_digits l))
    page =
        other (kind_of l) (text_of l) (ltb 0x1FFFFF (identity_of l)) IdentityRange _ (λ n. omega arith)
        (other (kind_of l) (text_of l) (is_reserved (identity_of l)) IdentityReserved _ (λ n. omega arith) (kind_bad b (page_from at l) (text_digits l)))

    formed : (t : Bool) → Bad6 (kind_of l) (text_of l) (cond t (page_of b (page_from at l) (text_digits l)) (Err Malformed))
    formed true = page
    formed false = λ e. absurd (omega arith)

-- what number 6 says of the lines behind k good ones
abbrev Lines6 : ℕ → Lines → JobAnswer → Type 0
Lines6 k ls a =
    job_number a ≡ 6
    → (k + 1 ≤ job_place a) × FirstBad (kind_of (line_at (job_place a - (k + 1)) ls)) (text_of (line_at (job_place a - (k + 1)) ls)) (job_position a)

first_line : (k : ℕ) (l : List ℕ) (ls : Lines) (a : Result Page Refusal) → Bad6 (kind_of l) (text_of l) a → (r : JobAnswer) → Lines6 (k + 1) ls r → Lines6 k (line l ls) (after a (k + 1) r)
unfolding line_at
first_line k l ls (Err why) b r rest e = let none : k + 1 - (k + 1) ≡ zero = omega arith in (omega arith, rw none (b e))
first_line k l ls (Ok page) b r rest e =
    let h = rest e in
    let next : job_place r - (k + 1) ≡ suc (job_place r - (k + 1 + 1)) = omega (arith, h.0) in
    (omega (arith, h.0), rw next h.1)

lines_bad : (b : List ℕ) (at k : ℕ) (ls : Lines) → Lines6 k ls (judge b at k ls)
unfolding judge
lines_bad b at k (behind p) = by_end (eqb (length p) 0) (leb 48 k)
  where
    by_end : (t u : Bool) → Lines6 k (behind p) (cond t (Ok k) (cond u (refused TooManyLines 49) (refused Malformed (k + 1))))
    by_end true u e = absurd (omega arith)
    by_end false true e = absurd (omega arith)
    by_end false false e = absurd (omega arith)
lines_bad b at k (line l ls) =
    let next = at + length l + 1 in
    many (leb 48 k) (after (line_of b at l) (k + 1) (judge b next (k + 1) ls)) (first_line k l ls (line_of b at l) (line_bad b at l) (judge b next (k + 1) ls) (lines_bad b next (k + 1) ls))
  where
    many : (t : Bool) (a : JobAnswer) → Lines6 k (line l ls) a → Lines6 k (line l ls) (cond t (refused TooManyLines 49) a)
    many true a r e = absurd (omega arith)
    many false a r e = r e

pub first_bad : Positioned
unfolding job_of
first_bad s = by_book (ltb 0 (book_fault s.book)) (eqb (length s.job) 0)
  where
    by_book : (u t : Bool)
        → Lines6 0 (split s.job) (cond u (refused BadBook (book_fault s.book)) (cond t (refused EmptyJob 0) (judge s.book 0 0 (split s.job))))
    by_book true t e = absurd (omega arith)
    by_book false true e = absurd (omega arith)
    by_book false false e = lines_bad s.book 0 0 (split s.job) e
