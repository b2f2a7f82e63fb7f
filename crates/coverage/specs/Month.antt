-- A month of listings, one after another from an empty report (document 02, R-12). `month_theorem` in proofs/Month.antt proves it.
use Rattle.std.specs.Prelude.{◌≡◌, false, ℕ, ◌+◌, ◌*◌, ◌≤◌, ◌<◌, length, get_or, take, Ok, Err}
use mathlib.Core.List.{List, [], ◌∷◌, Permᴰ}
use Rattle.base.specs.Lists.{tab}
use Rattle.coverage.specs.Report.{no_coverage, coverage_of, is_over, added_to}
use Rattle.coverage.specs.declared.AddError.TheVariants.{Full}
use Rattle.coverage.specs.declared.Coverage.{Coverage}
use Rattle.coverage.specs.declared.Covered.{Covered}

-- the last answer, and the report then, once listings are added one after another
unfoldable pub fed : Covered → List (List ℕ) → Covered
fed k [] = k
fed k (s ∷ ss) = fed (added_to k.coverage s) ss

-- from an empty report
abbrev pub month : List (List ℕ) → Covered
month ss = fed (record { answer = Ok tt; coverage = no_coverage }) ss

-- the sum of a number over listings
unfoldable pub over_all : (List ℕ → ℕ) → List (List ℕ) → ℕ
over_all f [] = 0
over_all f (s ∷ ss) = f s + over_all f ss

-- each count is the sum of that count over the single readings
abbrev pub totals : List (List ℕ) → Coverage
totals ss = record {
  listings = length ss;
  refused = tab (λ i. over_all (λ s. get_or (coverage_of s).refused i 0) ss) 3;
  frames = tab (λ i. over_all (λ s. get_or (coverage_of s).frames i 0) ss) 32;
  sync = tab (λ i. over_all (λ s. get_or (coverage_of s).sync i 0) ss) 3;
  pages = tab (λ i. over_all (λ s. get_or (coverage_of s).pages i 0) ss) 16;
}

-- no count is over its limit
pub record InBounds (c : Coverage) : Type 0 where
  pub listings : c.listings ≤ 1000
  pub refused : (i : ℕ) → get_or c.refused i 0 ≤ 600 * c.listings
  pub frames : (i : ℕ) → get_or c.frames i 0 ≤ 600 * c.listings
  pub sync : (i : ℕ) → get_or c.sync i 0 ≤ 600 * c.listings
  pub pages : (i : ℕ) → get_or c.pages i 0 ≤ 600 * c.listings

pub record MonthTheorem : Type 0 where
  -- number 11 is given exactly where a report is not in bounds
  pub in_bounds : (c : Coverage) → is_over c ≡ false → InBounds c
  pub passes : (c : Coverage) → InBounds c → is_over c ≡ false
  -- from an empty report up to 1,000 listings are added, and the totals are the sums over the single readings
  pub added : (ss : List (List ℕ)) → length ss ≤ 1000 → month ss ≡ record { answer = Ok tt; coverage = totals ss }
  -- a report so made is never number 11
  pub sound : (ss : List (List ℕ)) → is_over (month ss).coverage ≡ false
  -- each listing more is one too many, whatever it is, and leaves the report as the first 1,000 made it
  pub full : (ss : List (List ℕ)) → 1000 < length ss → month ss ≡ record { answer = Err Full; coverage = totals (take 1000 ss) }
  -- the report is the same for any order of the listings
  pub any_order : (ss ts : List (List ℕ)) → length ss ≤ 1000 → Permᴰ ss ts → month ss ≡ month ts
