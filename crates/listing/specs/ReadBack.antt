-- What is written is read back: the listing of a transmission of 1 to 300 batches, the limits of document 01, has its words.
use Rattle.std.specs.Prelude.{ℕ, ◌+◌, ◌*◌, ◌^◌, ◌≤◌, ◌<◌, List, ◌≡◌, length, get_or, take, drop, Some}
use Rattle.listing.specs.Text.{text_of}
use Rattle.listing.specs.Listing.{listing_of, well_formed}
use Rattle.listing.specs.Words.{words_of}
use Rattle.listing.specs.Writing.{writing_of, after_write}

-- 18 words of preamble and 17 a batch, each below 2^32, whatever they are
pub record OfBatches (words : List ℕ) (b : ℕ) : Type 0 where
  pub size : length words ≡ 18 + 17 * b
  pub some : 1 ≤ b
  pub few : b ≤ 300
  pub small : (k : ℕ) → get_or words k 0 < 2 ^ 32

-- what the calls `write` and `decode` promise of such words, and of their text
pub record ReadBack (words : List ℕ) (b : ℕ) : Type 0 where
  -- writing into a slice with room answers how many bytes the text has, and the slice then begins with them
  pub writing : (old : List ℕ) → 9 * length words ≤ length old
      → (writing_of words (length old) ≡ Some (9 * length words)) × (take (9 * length words) (after_write words old) ≡ text_of words)
  -- the text is a listing of nine preamble lines and b batches
  pub form : listing_of (text_of words) ≡ well_formed 9 b
  -- the words of its batches are those behind the preamble
  pub batches : words_of (text_of words) ≡ drop 18 words
