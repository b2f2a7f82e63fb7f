-- Every count of a single listing is at most 600: 300 batches have two slots a frame. Assumes nothing.
use mathlib.Core.Path.{◌≡◌, refl, sym}
use mathlib.Core.List.{List, [], ◌∷◌, map}
use Prim.Native.Nat.{ℕ, ◌-◌, ◌*◌, ◌/◌, ◌≤◌}
use native.Mathlib.Omega.{arith}
use lib.Dec.{eqb}
use lib.ListN.{length, replicate}
use borrow.Author.Tests.{eq-eqb, eqb-true}
use Rattle.base.specs.Lists.{tab}
use Rattle.base.proofs.CountLaws.{one, one_most}
use Rattle.base.proofs.ListLaws.{tab-length}
use Rattle.base.proofs.SearchLaws.{sum_le}
use Rattle.listing.specs.Words.{words_of}
use Rattle.placement.specs.Placement.{frame_of}
use Rattle.reader.specs.Answers as reading
use Rattle.reader.specs.Answers.{Verdict, judge_listing}
use Rattle.reader.specs.Reading.{slot_word, heard_in}
use Rattle.reader.specs.declared.Fault.{Fault}
use Rattle.reader.specs.declared.ReadError.TheVariants.{Fault as Faulty}
use Rattle.std.specs.Prelude.{Ok, Err}
use Rattle.reader.proofs.Laws.{readable}
use Rattle.coverage.specs.Progress.{UpTo}
use Rattle.coverage.specs.Report.{of_batches, of_fault, of_verdict, coverage_of}
use Rattle.coverage.specs.Tally.{slot_place, sync_place, page_place}
use Rattle.coverage.specs.declared.Coverage.{Coverage}
use Rattle.coverage.proofs.FrameLaws.{slots_few, pages_at}
use Rattle.coverage.proofs.SlotLaws.{slot_class_lem}
use Rattle.coverage.proofs.TallyLaws.{times_in, times_tab, tally_few, tally_within, tally_none}

-- the report of one listing: no count is over 600
pub record Single (c : Coverage) : Type 0 where
  pub listings : c.listings ≡ 1
  pub refused : UpTo 3 600 c.refused
  pub frames : UpTo 32 600 c.frames
  pub sync : UpTo 3 600 c.sync
  pub pages : UpTo 16 600 c.pages

none_few : (m : ℕ) → UpTo m 600 (replicate m 0)
none_few m = tally_within m 600 [] (sym (tally_none m)) (omega arith)

fault_single : (why : Fault) → Single (of_fault why)
unfolding of_fault
fault_single why =
    let places = (reading.number_of (Err (Faulty why)) - 21) ∷ [] in
    record {
      listings = refl;
      refused = tally_within 3 600 places refl (omega arith);
      frames = none_few 32;
      sync = none_few 3;
      pages = none_few 16;
    }

module _ (words : List ℕ) where
  abbrev batches : ℕ
  batches = length words / 17

  -- words at one place are of one frame
  slots_at : (i : ℕ) → times_in (tab (slot_place words) (16 * batches)) i ≤ 2 * batches
  slots_at i =
      omega (
        arith,
        times_tab (slot_place words) (16 * batches) i,
        sum_le (λ s. one (eqb (slot_place words s) i)) (λ s. one (eqb (frame_of s) (i / 4))) (16 * batches)
            (λ s h.
            one_most (eqb (slot_place words s) i) (eqb (frame_of s) (i / 4))
            (λ e. eq-eqb (frame_of s) (i / 4) (omega (arith, eqb-true (slot_place words s) i e, slot_class_lem (slot_word words s))))),
        slots_few (i / 4) batches,
      )

  batches_single : length words ≤ 5100 → Single (of_batches words)
  unfolding of_batches
  batches_single h = record {
    listings = refl;
    refused = none_few 3;
    frames = tally_few 32 (tab (slot_place words) (16 * batches)) 600 (λ i. omega (arith, slots_at i));
    sync = tally_within 3 600 (tab (sync_place words) batches) refl (omega (arith, tab-length (sync_place words) batches));
    pages = tally_few 16 (map page_place (heard_in words).pages) 600 (λ i. omega (arith, pages_at words i));
  }

pub single_few : (s : List ℕ) → Single (coverage_of s)
unfolding coverage_of
single_few s = go (judge_listing s) refl
  where
    go : (v : Verdict) → judge_listing s ≡ v → Single (of_verdict v (words_of s))
    go (Ok sound) e = batches_single (words_of s) (readable.of_listing s e).few
    go (Err why) e = fault_single why
