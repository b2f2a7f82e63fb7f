-- What the numbers, places and values of this crate's answers settle. `text_settled` and `listing_settled` in proofs/Settled.antt prove it.
use Rattle.std.specs.Prelude.{ℕ, ◌*◌, ◌≤◌, ◌<◌, ◌≡◌, List, length}
use Rattle.listing.specs.Answers as text
use Rattle.listing.specs.Answers.{preamble_lines, batches_of}
use Rattle.listing.specs.Listing.{listing_of}
use Rattle.listing.specs.Words.{words_of}
use Rattle.listing.specs.Writing.{writing_of, bytes_written, number_of, place_of}

-- words into room for so many bytes: number 10 exactly where their text is longer, and then no byte of it is written, else nine a word
pub record TextSettled (words : List ℕ) (room : ℕ) : Type 0 where
  pub short : room < 9 * length words → (number_of (writing_of words room) ≡ 10) × (bytes_written (writing_of words room) ≡ 0)
  pub whole : 9 * length words ≤ room → (number_of (writing_of words room) ≡ 0) × (bytes_written (writing_of words room) ≡ 9 * length words)
  pub unplaced : place_of (writing_of words room) ≡ 0

-- any byte string as a listing: 17 words a batch, at most 300 batches and 36 preamble lines; none of them where it is declined
pub record ListingSettled (s : List ℕ) : Type 0 where
  pub words : length (words_of s) ≡ 17 * batches_of (listing_of s)
  pub few : batches_of (listing_of s) ≤ 300
  pub short : preamble_lines (listing_of s) ≤ 36
  pub none : (text.number_of (listing_of s) ≡ 0 → ⊥) → (batches_of (listing_of s) ≡ 0) × (preamble_lines (listing_of s) ≡ 0)
  pub unplaced : text.number_of (listing_of s) ≡ 0 → text.place_of (listing_of s) ≡ 0
