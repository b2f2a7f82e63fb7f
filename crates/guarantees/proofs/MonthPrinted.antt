-- What the coverage program prints, by the month's theorem. Assumes nothing.
use mathlib.Core.Path.{◌≡◌, refl, sym, ap, ◌∙◌}
use mathlib.Core.Logic.{⊎_elim}
use mathlib.Core.List.Permᴰ
use mathlib.Core.List.{List, [], ◌∷◌, map, Permᴰ}
use Prim.Native.Nat.{ℕ, ◌≤◌, ◌<◌}
use lib.ListN.{length, take}
use Rattle.base.proofs.SearchLaws.{le_or_lt}
use Rattle.coverage.specs.Month.{fed, totals}
use Rattle.coverage.specs.Report.{no_coverage, added_to}
use Rattle.std.specs.Prelude.{Ok}
use Rattle.coverage.specs.declared.Covered.{Covered}
use Rattle.coverage.proofs.Month.{month_theorem}
use Rattle.program.specs.CoverageText.{coverage_text}
use Rattle.program.specs.Prints.{refusal_line, cover_prints}
use Rattle.program.proofs.ListingFront.{listing_front}
use Rattle.guarantees.specs.MonthPrinted.{month_prints, EveryMonth}
use Rattle.guarantees.proofs.Programs.{printed}

-- what is printed for an answer and a report
abbrev prints : Covered → List ℕ
prints k = cover_prints k.answer k.coverage

-- the first m bytes of each listing add what the whole adds
fed_front : (m : ℕ) → 46557 ≤ m → (ss : List (List ℕ)) (k : Covered) → fed k (map (take m) ss) ≡ fed k ss
unfolding fed
fed_front m h [] k = refl
fed_front m h (s ∷ ss) k = ap (λ (a : Covered). fed a (map (take m) ss)) (listing_front k.coverage s m h) ∙ fed_front m h ss (added_to k.coverage s)

month_front : (ss : List (List ℕ)) (m : ℕ) → 46557 ≤ m → month_prints (map (take m) ss) ≡ month_prints ss
month_front ss m h = ap prints (fed_front m h ss (record { answer = Ok tt; coverage = no_coverage }))

month_report : (ss : List (List ℕ)) → length ss ≤ 1000 → month_prints ss ≡ coverage_text (totals ss)
unfolding cover_prints
month_report ss h = ap prints (month_theorem.added ss h)

month_full : (ss : List (List ℕ)) → 1000 < length ss → month_prints ss ≡ refusal_line 23 1001 0
unfolding cover_prints
month_full ss h = ap prints (month_theorem.full ss h)

month_order : (ss ts : List (List ℕ)) → Permᴰ ss ts → month_prints ts ≡ month_prints ss
month_order ss ts d =
    ⊎_elim
    (λ (h : length ss ≤ 1000). sym (ap prints (month_theorem.any_order ss ts h d)))
    (λ (h : 1000 < length ss).
    ⊎_elim (λ k. ap prints (month_theorem.any_order ts ss k (Permᴰ.symm d))) (λ k. month_full ts k ∙ sym (month_full ss h)) (le_or_lt (length ts) 1000))
    (le_or_lt (length ss) 1000)

pub month_printed : EveryMonth
month_printed ss = record {
  report = month_report ss;
  too_many = month_full ss;
  front = month_front ss;
  printed = λ m old left n h call. printed month_prints call ∙ month_front ss m h;
  any_order = month_order ss;
}
