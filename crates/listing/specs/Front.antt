-- How much of a text decides what it is as a listing: 36 preamble lines, 300 batches and the line of a 301st sync word.
-- `front_settles` in proofs/Front.antt proves it.
use Rattle.std.specs.Prelude.{ℕ, ◌≤◌, ◌≡◌, List, take}
use Rattle.listing.specs.Listing.{listing_of}
use Rattle.listing.specs.Words.{words_of}

abbrev pub FrontSettles : Type 0
FrontSettles = (s : List ℕ) (m : ℕ) → 46557 ≤ m → (listing_of (take m s) ≡ listing_of s) × (words_of (take m s) ≡ words_of s)
