-- `coverage::cover_fault` meets its contract. Assumes nothing.
use mathlib.Core.Path.{◌≡◌, ap, ◌∙◌}
use Prim.Native.Nat.{ℕ}
use lib.ListN.{set}
use Rattle.base.specs.Lists.{tab}
use Rattle.base.specs.Passing.{passing}
use Rattle.reader.specs.declared.Fault.{Fault}
use Rattle.reader.specs.declared.Fault.TheVariants.{Malformed, TooMany, Unsynced}
use Rattle.coverage.specs.Tally.{tally}
use Rattle.coverage.specs.Report.{no_coverage, of_fault}
use Rattle.coverage.specs.declared.Coverage.{Coverage}
use Rattle.coverage.proofs.cover_fault.Goals as goal

-- an empty report with one refused listing
abbrev one : Coverage → ℕ → Coverage
one k i = record { listings = 1; refused = set k.refused i 1; frames = k.frames; sync = k.sync; pages = k.pages }

module _ {why : Fault} (n : ℕ) where
  malformed : why ≡ Malformed n → one no_coverage 0 ≡ of_fault why
  unfolding of_fault tally tab passing
  malformed e = rw e

  unsynced : why ≡ Unsynced n → one no_coverage 1 ≡ of_fault why
  unfolding of_fault tally tab passing
  unsynced e = rw e

  too_many : why ≡ TooMany n → one no_coverage 2 ≡ of_fault why
  unfolding of_fault tally tab passing
  too_many e = rw e

pub returns-in-Malformed : goal.returns-in-Malformed
returns-in-Malformed c = ap (λ (k : Coverage). one k 0) c.empty-c.ensures ∙ malformed _ c.in-Malformed.is

pub returns-in-Unsynced : goal.returns-in-Unsynced
returns-in-Unsynced c = ap (λ (k : Coverage). one k 1) c.empty-c.ensures ∙ unsynced _ c.in-Unsynced.is

pub returns-in-TooMany : goal.returns-in-TooMany
returns-in-TooMany c = ap (λ (k : Coverage). one k 2) c.empty-c.ensures ∙ too_many _ c.in-TooMany.is
