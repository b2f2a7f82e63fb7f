-- How much of a listing's file decides what the coverage program adds (request R-12). `listing_front` in proofs/ListingFront.antt proves it.
use Rattle.std.specs.Prelude.{ℕ, ◌≤◌, ◌≡◌, List, take}
use Rattle.coverage.specs.Report.{added_to}
use Rattle.coverage.specs.declared.Coverage.{Coverage}

-- what stands behind the first 46,557 bytes of a file changes nothing, whatever the report so far
abbrev pub ListingFront : Type 0
ListingFront = (c : Coverage) (s : List ℕ) (m : ℕ) → 46557 ≤ m → added_to c (take m s) ≡ added_to c s
