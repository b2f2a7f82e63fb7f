-- An accepted job: its pages, each of a good line that stands for a sound one. Assumes nothing.
use Prim.Native.Nat.{ℕ, zero, suc, ◌+◌, ◌-◌, ◌*◌, ◌≤◌, ◌<◌, zero-le}
use mathlib.Core.Path.{◌≡◌, refl, sym, ap, ◌∙◌}
use mathlib.Core.List.{List, [], ◌∷◌}
use mathlib.Core.Bool.{Bool, true, false, cond}
use mathlib.Core.Logic.{⊎_elim}
use native.Mathlib.Nat.{eq-or-lt_of_le}
use native.Mathlib.Omega.{arith}
use lib.ListN.{length, get_or, replicate, get_or-append}
use lib.Dec.{leb, ltb, eqb}
use borrow.Author.Tests.{leb-false, ltb-false, eqb-true, eqb-false}
use Rattle.job.specs.Refusal.{JobAnswer, refused}
use Rattle.std.specs.Prelude.{Result, Ok, Err}
use Rattle.base.specs.Lines.{Lines, behind, line, onto, split, line_at, line_count, line_start}
use Rattle.base.proofs.LinesLaws.{end_inside, line_there}
use Rattle.phrases.specs.Book.{book_fault}
use Rattle.job.specs.Submission.{Submission}
use Rattle.job.specs.Line.{line_of, text_digits}
use Rattle.job.specs.Pages.{page_in, pages_from, pages_of, no_page, page_at, digits_at, plain_at}
use Rattle.job.specs.Job.{after, judge, job_of, table_of, answer_with, reading_of}
use Rattle.job.specs.Accepted.{PageRead, AcceptedJob}
use Rattle.job.specs.declared.Refusal.{Refusal}
use Rattle.job.specs.declared.Refusal.TheVariants.{Malformed, TooManyLines, EmptyJob, BadBook}
use Rattle.job.specs.declared.Page.{Page}
use Rattle.job.proofs.Laws.{judge_unended, pages_next}
use Rattle.job.proofs.Plain.{Fine, fine}

-- ---- what an accepting answer says of the tests that led to it

not_refused : (b : Bool) (w : Refusal) (p : ℕ) (x : JobAnswer) {n : ℕ} → cond b (refused w p) x ≡ Ok n → (b ≡ false) × (x ≡ Ok n)
not_refused true w p x e = let z : ◌≡◌ {A = ℕ} 0 1 = cc in absurd (omega arith)
not_refused false w p x e = (refl, e)

end_accepted : (b : Bool) (k : ℕ) (x : JobAnswer) {n : ℕ} → ((m : ℕ) → x ≡ Ok m → ⊥) → cond b (Ok k) x ≡ Ok n → (k ≡ n) × (b ≡ true)
end_accepted true k x f e = (cc, refl)
end_accepted false k x {n} f e = absurd (f n e)

after_good : (x : Result Page Refusal) (p : ℕ) (r : JobAnswer) {n : ℕ} → after x p r ≡ Ok n → (r ≡ Ok n) × (x ≡ Ok (page_in x))
after_good (Ok page) p r e = (e, refl)
after_good (Err w) p r e = let z : ◌≡◌ {A = ℕ} 0 1 = cc in absurd (omega arith)

-- ---- how long a job is

-- the bytes of lines, their newlines among them
unfoldable bytes_in : Lines → ℕ
bytes_in (behind t) = length t
bytes_in (line l ls) = length l + 1 + bytes_in ls

onto_bytes : (b : ℕ) (ls : Lines) → bytes_in (onto b ls) ≡ suc (bytes_in ls)
unfolding bytes_in
onto_bytes b (behind t) = refl
onto_bytes b (line l ls) = omega arith

split_bytes : (s : List ℕ) → bytes_in (split s) ≡ length s
unfolding bytes_in split
split_bytes [] = refl
split_bytes (b ∷ s) = go (eqb b 10) (split_bytes s)
  where
    go : (x : Bool) → bytes_in (split s) ≡ length s → bytes_in (cond x (line [] (split s)) (onto b (split s))) ≡ suc (length s)
    go true e = omega arith
    go false e = onto_bytes b (split s) ∙ ap suc e

-- ---- the lines

-- the line at index p is good with the book b, and the page at this index is its page
abbrev GoodAt : List ℕ → ℕ → ℕ → Lines → Type 0
GoodAt b at p ls = line_of b (at + line_start p ls) (line_at p ls) ≡ Ok (get_or (pages_from b at ls) p no_page)

-- lines that are accepted behind k good ones
record Judged (b : List ℕ) (at k n : ℕ) (ls : Lines) : Type 0 where
  count : k + length (pages_from b at ls) ≡ n
  few : n ≤ 48
  each : (p : ℕ) → k + p < n → GoodAt b at p ls
  short : 490 * k + bytes_in ls ≤ 490 * n

each_more : (b : List ℕ) (at : ℕ) (l : List ℕ) (ls : Lines) (k n : ℕ) → line_of b at l ≡ Ok (page_in (line_of b at l))
    → ((p : ℕ) → k + 1 + p < n → GoodAt b (at + length l + 1) p ls) → (p : ℕ) → k + p < n → GoodAt b at p (line l ls)
unfolding line_at line_start pages_from
each_more b at l ls k n g f zero h = let z : at + 0 ≡ at = omega arith in rw z g
each_more b at l ls k n g f (suc p) h = let e : at + (length l + 1 + line_start p ls) ≡ at + length l + 1 + line_start p ls = omega arith in rw e (f p (omega arith))

judged : (b : List ℕ) → book_fault b ≡ 0 → (ls : Lines) (at k n : ℕ) → k ≤ 48 → judge b at k ls ≡ Ok n → Judged b at k n ls
unfolding judge pages_from bytes_in
judged b ok (behind p) at k n h e =
    let q = end_accepted (eqb (length p) 0) k (cond (leb 48 k) (refused TooManyLines 49) (refused Malformed (k + 1)))
    (λ m f. let x = not_refused (leb 48 k) TooManyLines 49 (refused Malformed (k + 1)) f in
    let z : ◌≡◌ {A = ℕ} 0 1 = cc in omega arith) e in
    record { count = omega (arith, q.0); few = omega (arith, q.0); each = λ i l. absurd (omega (arith, q.0)); short = omega (arith, q.0, eqb-true (length p) 0 q.1) }
judged b ok (line l ls) at k n h e =
    let x = not_refused (leb 48 k) TooManyLines 49 (after (line_of b at l) (k + 1) (judge b (at + length l + 1) (k + 1) ls)) e in
    let a = after_good (line_of b at l) (k + 1) (judge b (at + length l + 1) (k + 1) ls) x.1 in
    let r = judged b ok ls (at + length l + 1) (k + 1) n (omega (arith, leb-false 48 k x.0)) a.0 in
    record { count = omega (arith, r.count); few = r.few; each = each_more b at l ls k n a.1 r.each; short = omega (arith, r.short, (fine b at l ok a.1).short) }

page_each : (b : List ℕ) (ls : Lines) (at : ℕ) → length (pages_from b at ls) ≡ line_count ls
unfolding pages_from line_count
page_each b (behind p) at = refl
page_each b (line l ls) at = ap suc (page_each b ls (at + length l + 1))

-- ---- an accepted job

module _ (s : Submission) (n : ℕ) (ok : job_of s ≡ Ok n) where
  abbrev b : List ℕ
  b = s.book

  abbrev ls : Lines
  ls = split s.job

  nonempty : (book_fault b ≡ 0) × (length s.job ≡ 0 → ⊥) × (judge b 0 0 ls ≡ Ok n)
  unfolding job_of
  nonempty =
      let x = not_refused (ltb 0 (book_fault b)) BadBook (book_fault b) _ ok in
      let y = not_refused (eqb (length s.job) 0) EmptyJob 0 (judge b 0 0 ls) x.1 in
      let good : book_fault b ≤ 0 = ltb-false 0 (book_fault b) x.0 in
      (omega arith, eqb-false (length s.job) 0 y.0, y.1)

  all : Judged b 0 0 n ls
  all = judged b nonempty.0 ls 0 0 n zero-le nonempty.2

  counted : length (pages_of s) ≡ n
  unfolding pages_of
  counted = omega (arith, all.count)

  least : 1 ≤ n
  unfolding pages_of
  least =
      ⊎_elim
      (λ u. let q : refused Malformed (0 + 1) ≡ Ok n = sym (judge_unended b s.job 0 0 (omega arith) (let h = nonempty.1 in omega arith) (omega arith)) ∙ nonempty.2 in
      let z : ◌≡◌ {A = ℕ} 0 1 = cc in absurd (omega arith))
      (λ c. omega (arith, counted, ap length (pages_next b s.job 0 c)))
      (eq-or-lt_of_le (end_inside s.job 0 zero-le))

  -- line p is good, and stands in the job
  module _ (p : ℕ) (h : p < n) where
    its : Fine b (line_start p ls) (line_at p ls) (page_at s p) (plain_at s p)
    unfolding pages_of
    its = fine b (line_start p ls) (line_at p ls) nonempty.0 (let z : 0 + line_start p ls ≡ line_start p ls = omega arith in rw z at (all.each p (omega arith)))

    digits : digits_at s p ≡ text_digits (plain_at s p)
    unfolding pages_of
    digits = its.digits_are s.job (line_there p s.job (omega (arith, counted, page_each b ls 0)))

    page : PageRead s p
    unfolding reading_of answer_with table_of
    page =
        record {
          identity_is = its.identity_is;
          kind_is = its.kind_is;
          digits_are = digits;
          length_is = its.length_is ∙ sym (ap length digits);
          line_kind = its.line_kind;
          phrased = λ k. let x = its.phrased (sym its.line_kind ∙ k) in (its.kind_is ∙ x.0, digits ∙ x.1);
          read = rw ok (get_or-append (pages_of s) (replicate (48 - length (pages_of s)) no_page) no_page p (omega (arith, counted)));
        }

  -- 48 lines of 490 bytes
  pub accepted_short : length s.job ≤ 23520
  accepted_short = omega (arith, all.short, all.few, split_bytes s.job)

  pub accepted_job : AcceptedJob s n
  accepted_job = record { least = least; most = all.few; pages = counted; sound = λ p h. (its p h).sounds; page = page }

-- ---- what reading a job answers is the job's answer

answer_of : (a : JobAnswer) (ps : List Page) → (answer_with a ps).answer ≡ a
unfolding answer_with table_of
answer_of (Ok n) ps = refl
answer_of (Err r) ps = refl

pub answered : (s : Submission) → (reading_of s).answer ≡ job_of s
unfolding reading_of
answered s = answer_of (job_of s) (pages_of s)
