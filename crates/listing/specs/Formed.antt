-- What holds of every well-formed listing, and of what is decoded of any text.
use Rattle.std.specs.Prelude.{ℕ, ◌*◌, ◌≤◌, ◌≡◌, List, length, take}
use Rattle.listing.specs.Listing.{listing_of}
use Rattle.listing.specs.Words.{words_of}
use Rattle.listing.specs.Answers.{batches_of, decoded_of}

-- 9 to 36 preamble lines, and 1 to 300 batches
pub record Limits (p b : ℕ) : Type 0 where
  pub long : 9 ≤ p
  pub short : p ≤ 36
  pub some : 1 ≤ b
  pub few : b ≤ 300

-- a listing with p preamble lines and b batches has 17 words a batch
pub record Formed (s : List ℕ) (p b : ℕ) : Type 0 where
  pub limits : Limits p b
  pub count : length (words_of s) ≡ 17 * b

-- of the words that are decoded of any text those of its batches stand first; `front` in proofs/Settled.antt proves it
pub record Front (s : List ℕ) : Type 0 where
  pub few : batches_of (listing_of s) ≤ 300
  pub inside : 17 * batches_of (listing_of s) ≤ length (decoded_of s).words
  pub words : take (17 * batches_of (listing_of s)) (decoded_of s).words ≡ words_of s
