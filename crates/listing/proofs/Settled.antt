-- What the answers settle, case by case. Assumes nothing.
use Prim.Native.Nat.{ℕ, ◌-◌, ◌*◌, ◌≤◌}
use mathlib.Core.Path.{◌≡◌, refl}
use mathlib.Core.List.{List}
use native.Mathlib.Omega.{arith}
use lib.ListN.{length, replicate, length-append}
use lib.Seq.{take_at}
use borrow.Author.Tests.{lt-ltb, le-ltb}
use Rattle.std.specs.Prelude.{Ok, Err}
use Rattle.listing.specs.Answers.{number_of, place_of, preamble_lines, batches_of}
use Rattle.listing.specs.Listing.{listing_of, Listing}
use Rattle.listing.specs.Words.{words_of}
use Rattle.listing.specs.Formed.{Front}
use Rattle.listing.specs.Settled.{TextSettled, ListingSettled}
use Rattle.listing.specs.declared.Fault.TheVariants.{Malformed, TooMany}
use Rattle.listing.proofs.Indexed.{formed}

pub text_settled : (words : List ℕ) (room : ℕ) → TextSettled words room
text_settled words room = record {
  short = λ h. let e = lt-ltb room (9 * length words) h in (rw e, rw e);
  whole = λ h. let e = le-ltb room (9 * length words) h in (rw e, rw e);
  unplaced = refl;
}

none_by : (l : Listing) → (number_of l ≡ 0 → ⊥) → (batches_of l ≡ 0) × (preamble_lines l ≡ 0)
none_by (Ok shape) h = absurd (h refl)
none_by (Err why) h = (refl, refl)

unplaced_by : (l : Listing) → number_of l ≡ 0 → place_of l ≡ 0
unplaced_by (Ok shape) h = refl
unplaced_by (Err (Malformed line)) h = absurd (omega arith)
unplaced_by (Err (TooMany line)) h = absurd (omega arith)

module _ (s : List ℕ) where
  words_by_lem : (l : Listing) → listing_of s ≡ l → length (words_of s) ≡ 17 * batches_of l
  words_by_lem (Ok shape) e = (formed s shape.preamble shape.batches e).count
  words_by_lem (Err why) e = rw e

  few_by : (l : Listing) → listing_of s ≡ l → (batches_of l ≤ 300) × (preamble_lines l ≤ 36)
  few_by (Ok shape) e = let f = (formed s shape.preamble shape.batches e).limits in (f.few, f.short)
  few_by (Err why) e = (omega arith, omega arith)

  pub listing_settled : ListingSettled s
  listing_settled = record {
    words = words_by_lem (listing_of s) refl;
    few = (few_by (listing_of s) refl).0;
    short = (few_by (listing_of s) refl).1;
    none = none_by (listing_of s);
    unplaced = unplaced_by (listing_of s);
  }

  pub front : Front s
  front =
      let words = words_of s in
      let zeros = replicate {A = ℕ} (5100 - length words) 0 in
      let size = listing_settled.words in
      record {
        few = listing_settled.few;
        inside = omega (arith, listing_settled.few, length-append words zeros);
        words = take_at words zeros (17 * batches_of (listing_of s)) size;
      }
