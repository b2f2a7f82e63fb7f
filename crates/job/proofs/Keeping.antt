-- Reading a job line by line: the pages passed, which are kept, and what is left. Assumes nothing.
use Prim.Native.Nat.{ℕ, zero, suc, ◌+◌, ◌-◌, ◌≤◌, ◌<◌, zero-le, suc-le-suc}
use mathlib.Core.Path.{◌≡◌, refl, sym, ap, ap₂, ◌∙◌}
use mathlib.Core.List.{List, [], ◌∷◌, ◌++◌}
use native.Mathlib.Numerals.{add-one}
use native.Mathlib.Omega.{arith}
use lib.ListN.{length, set, get_or, take, drop, replicate, length-drop}
use Rattle.job.specs.Refusal.{JobAnswer, refused}
use Rattle.std.specs.Prelude.{Ok}
use Rattle.base.specs.Lines.{split, line_end}
use Rattle.base.proofs.LinesLaws.{none_left, first}
use Rattle.base.proofs.ListLaws.{filled, filled-suc, equal-left}
use lib.Seq.{take_all}
use Rattle.job.specs.Submission.{with_book}
use Rattle.job.specs.Line.{line_of}
use Rattle.job.specs.Pages.{page_in, pages_from, pages_of, no_page}
use Rattle.job.specs.Job.{judge, table_of, answer_with}
use Rattle.job.specs.declared.Refusal.{Refusal}
use Rattle.job.specs.declared.Page.{Page}
use Rattle.job.specs.declared.Pages.{Pages}
use Rattle.job.proofs.Laws.{judge_done, judge_line, pages_next}

-- the element at k of a list, and what follows it, by what is left from there on
from-drop {ℓ} : {A : Type ℓ} (l : List A) (k : ℕ) (d : A) {x : A} {xs : List A} → drop k l ≡ x ∷ xs → (k < length l) × (get_or l k d ≡ x) × (drop (suc k) l ≡ xs)
from-drop [] zero d e = let z : ◌≡◌ {A = ℕ} 0 1 = cc in absurd (omega arith)
from-drop [] (suc k) d e = let z : ◌≡◌ {A = ℕ} 0 1 = cc in absurd (omega arith)
from-drop (y ∷ l) zero d e = (suc-le-suc zero-le, (cc), (cc))
from-drop (y ∷ l) (suc k) d e = let r = from-drop l k d e in (suc-le-suc r.0, r.1, r.2)

abbrev pub nobody : List Page
nobody = replicate 48 no_page

-- before the line that starts at byte `at`, k pages are passed and kept
pub record Keeping (b job : List ℕ) (at k : ℕ) (pages : List Page) : Type 0 where
  pub inside : at ≤ length job
  pub few : k ≤ 48
  pub passed : k ≤ length (pages_of (with_book job b))
  pub answer : judge b 0 0 (split job) ≡ judge b at k (split (drop at job))
  pub left : drop k (pages_of (with_book job b)) ≡ pages_from b at (split (drop at job))
  pub kept : pages ≡ filled nobody (pages_of (with_book job b)) k

-- none yet
pub keeping_none : (b job : List ℕ) → Keeping b job 0 0 nobody
unfolding pages_of
keeping_none b job = record { inside = zero-le; few = zero-le; passed = zero-le; answer = refl; left = refl; kept = refl }

module _ (b job : List ℕ) (at k : ℕ) {pages : List Page} (so : Keeping b job at k pages) where
  abbrev ps : List Page
  ps = pages_of (with_book job b)

  one_more : {p : Page} → k < 48 → line_end job at < length job → line_of b at (first job at) ≡ Ok p → Keeping b job (line_end job at + 1) (k + 1) (set pages k p)
  one_more {p} m h e =
      let f = from-drop ps k no_page (so.left ∙ pages_next b job at h) in
      let here : k < length ps = f.0 in
      let is : p ≡ get_or ps k no_page = sym (f.1 ∙ ap page_in e) in
      record {
        inside = omega arith;
        few = omega arith;
        passed = omega arith;
        answer = so.answer ∙ judge_line b job at k refl m h (sym e);
        left = rw (add-one k) f.2;
        kept = rw (is, so.kept, add-one k) (filled-suc nobody ps k no_page m here);
      }

  -- one more page
  pub keeping_more : {end : ℕ} {p : Page} → end ≡ line_end job at → k < 48 → end < length job → line_of b at (take (end - at) (drop at job)) ≡ Ok p
      → Keeping b job (end + 1) (k + 1) (set pages k p)
  keeping_more q m h e = rw q (one_more m (rw q at h) (rw q at e))

  -- all of them
  all_passed : length job ≤ at → k ≡ length ps
  unfolding pages_from
  all_passed h =
      let none : drop k ps ≡ [] = so.left ∙ ap (pages_from b at) (none_left job at h) in
      omega (arith, length-drop k ps, ap length none, so.passed)

  whole : length job ≤ at → pages ≡ ps ++ replicate (48 - length ps) no_page
  whole h =
      so.kept
      ∙ ap₂ ◌++◌ (take_all k ps (omega (arith, all_passed h))) (equal-left no_page 48 k ∙ ap (λ (i : ℕ). replicate (48 - i) no_page) (all_passed h))

  pub keeping_all : length job ≤ at → ◌≡◌ {A = Pages} (record { answer = Ok k; pages = pages }) (answer_with (judge b 0 0 (split job)) ps)
  unfolding answer_with table_of
  keeping_all h = rw (so.answer ∙ judge_done b job at k h, whole h)

-- a refused job
pub answer_refused : (a : JobAnswer) (ps : List Page) {why : Refusal} {place : ℕ} → a ≡ refused why place → table_of (refused why place) [] ≡ answer_with a ps
unfolding answer_with
answer_refused a ps e = rw e
