-- How much room the lines of one identity take at most.
use Rattle.std.specs.Prelude.{◌≡◌, List, ℕ, ◌≤◌}
use Rattle.follower.specs.Answers.{follow_words, follow_listing, number_of}

-- 48,000 bytes, which suffice for the lines of all pages, suffice for those of one identity: no following into so much room is number 10.
-- `enough` in proofs/RoomLaws.antt proves it
pub record Enough (i : ℕ) : Type 0 where
  pub of_words : (words : List ℕ) (room : ℕ) → 48000 ≤ room → number_of (follow_words i words room) ≡ 10 → ⊥
  pub of_listing : (s : List ℕ) (room : ℕ) → 48000 ≤ room → number_of (follow_listing i s room) ≡ 10 → ⊥
