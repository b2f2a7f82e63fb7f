-- A phrase of a book is a text of kind 5, and every such text is one (request R-6). `phrase_text` in proofs/PhraseText.antt proves it.
use Rattle.std.specs.Prelude.{ℕ, ◌≡◌, true, List}
use Rattle.base.specs.Hex.{bytes_of}
use Rattle.phrases.specs.Book.{is_phrase}
use Rattle.job.specs.Line.{is_pairs}
use Rattle.job.specs.Accepted.{TextSound}

pub record PhraseText (l : List ℕ) : Type 0 where
  pub text : is_phrase l ≡ true → (is_pairs l ≡ true) × TextSound 5 (bytes_of l)
  pub phrase : is_pairs l ≡ true → TextSound 5 (bytes_of l) → is_phrase l ≡ true
