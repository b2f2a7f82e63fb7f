-- What digits of a job find in a good phrase book (request R-6). `found` in proofs/Found.antt proves it.
use Rattle.std.specs.Prelude.{ℕ, ◌≡◌, true, List, length, take, drop}
use Rattle.phrases.specs.Book.{is_phrase, is_two_digits, phrase_of}

-- n bytes from `start` on
pub record Found (b ds : List ℕ) (start n : ℕ) : Type 0 where
  -- the digits are two decimal ones
  pub named : is_two_digits ds ≡ true
  -- the line that they name is a phrase
  pub phrase : is_phrase (phrase_of b ds) ≡ true
  -- and it is these bytes
  pub size : n ≡ length (phrase_of b ds)
  pub there : take n (drop start b) ≡ phrase_of b ds
