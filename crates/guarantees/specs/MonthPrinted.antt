-- What the coverage program prints (document 02, R-12): it adds the contents of its files one after another, from an empty report, and prints
-- the report then, or the last answer's refusal. `month_printed` in proofs/MonthPrinted.antt proves it.
use Rattle.std.specs.Prelude.{◌≡◌, ℕ, ◌≤◌, ◌<◌, length, take}
use mathlib.Core.List.{List, map, Permᴰ}
use Rattle.coverage.specs.Month.{month, totals}
use Rattle.program.specs.CoverageText.{coverage_text}
use Rattle.program.specs.Prints.{refusal_line, cover_prints}
use Rattle.guarantees.specs.Programs.{ProgramCall, output}

-- what `program::cover` writes once files with these contents are added
abbrev pub month_prints : List (List ℕ) → List ℕ
month_prints ss = cover_prints (month ss).answer (month ss).coverage

pub record MonthPrinted (ss : List (List ℕ)) : Type 0 where
  -- of up to 1,000 files: the report in which each count is the sum over the single readings
  pub report : length ss ≤ 1000 → month_prints ss ≡ coverage_text (totals ss)
  -- of more: `refused 23 place 1001`
  pub too_many : 1000 < length ss → month_prints ss ≡ refusal_line 23 1001 0
  -- what stands behind the first m bytes of each file, 46,557 at least, changes nothing
  pub front : (m : ℕ) → 46557 ≤ m → month_prints (map (take m) ss) ≡ month_prints ss
  -- so this is what the program prints that reads no more of them
  pub printed : (m : ℕ) (old left : List ℕ) (n : ℕ) → 46557 ≤ m → ProgramCall month_prints (map (take m) ss) old n left → output n left ≡ month_prints ss
  -- and it prints the same for any order of the files
  pub any_order : (ts : List (List ℕ)) → Permᴰ ss ts → month_prints ts ≡ month_prints ss

abbrev pub EveryMonth : Type 0
EveryMonth = (ss : List (List ℕ)) → MonthPrinted ss
