-- How much room the lines take at most.
use Rattle.std.specs.Prelude.{◌≡◌, List, ℕ, ◌≤◌}
use Rattle.reader.specs.Answers.{read_words, read_listing, number_of}

-- 48,000 bytes, ten for each slot of 300 batches, suffice for the lines of all words and of every listing: no reading into so much room
-- is number 10. `enough` in proofs/RoomLaws.antt proves it
pub record Enough : Type 0 where
  pub of_words : (words : List ℕ) (room : ℕ) → 48000 ≤ room → number_of (read_words words room) ≡ 10 → ⊥
  pub of_listing : (s : List ℕ) (room : ℕ) → 48000 ≤ room → number_of (read_listing s room) ≡ 10 → ⊥
