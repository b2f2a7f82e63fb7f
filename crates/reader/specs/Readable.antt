-- What holds of words that can be read, and when they can. `readable` in proofs/AnswerLaws.antt proves it.
use Rattle.std.specs.Prelude.{◌≡◌, false, List, ℕ, ◌*◌, ◌/◌, ◌≤◌, ◌<◌, length, take, Ok}
use Rattle.codeword.specs.Answer.{changed}
use Rattle.codeword.specs.Code.{sync}
use Rattle.codeword.specs.Nearest.{distance}
use Rattle.listing.specs.Listing.{Listing}
use Rattle.listing.specs.Answers.{batches_of, decoded_of}
use Rattle.listing.specs.Words.{words_of}
use Rattle.listing.specs.declared.Decoded.{Decoded}
use Rattle.reader.specs.Answers.{unsynced, first_unsynced, judge_batches, judge_words, judge_decoded, judge_listing}
use Rattle.reader.specs.Reading.{sync_word}

-- at most 300 batches, which all begin with sync
pub record Readable (words : List ℕ) : Type 0 where
  pub few : length words ≤ 5100
  pub synced : length words / 17 ≤ first_unsynced words

-- of the words that are decoded with this answer, those of the batches
abbrev pub batches_first : Listing → List ℕ → List ℕ
batches_first l words = take (17 * batches_of l) words

-- an answer of `listing::decode`, with words in which those of the batches stand first
pub record Decoding (l : Listing) (words : List ℕ) : Type 0 where
  pub few : batches_of l ≤ 300
  pub inside : 17 * batches_of l ≤ length words
  pub sound : judge_decoded l (batches_first l words) ≡ Ok tt → Readable (batches_first l words)

-- a slice of words, the words of a listing, and whatever is decoded of a text, which has the listing's words and verdict
pub record AllReadable : Type 0 where
  pub of_words : (words : List ℕ) → judge_words words ≡ Ok tt → Readable words
  pub of_listing : (s : List ℕ) → judge_listing s ≡ Ok tt → Readable (words_of s)
  pub of_decoded : (s : List ℕ) {d : Decoded} → d ≡ decoded_of s → Decoding d.listing d.words
  pub first : (s : List ℕ) {d : Decoded} → d ≡ decoded_of s → batches_first d.listing d.words ≡ words_of s
  pub verdict : (s : List ℕ) {d : Decoded} → d ≡ decoded_of s → judge_decoded d.listing (words_of s) ≡ judge_listing s

-- whole batches that all begin with sync can be read. `sound_batches` and `sound_words` in proofs/AnswerLaws.antt prove it
abbrev pub SoundBatches : Type 0
SoundBatches =
    (words : List ℕ) (b : ℕ) → length words ≡ 17 * b → ((q : ℕ) → q < b → unsynced words q ≡ false) → judge_batches words ≡ Ok tt

abbrev pub SoundWords : Type 0
SoundWords =
    (words : List ℕ) (b : ℕ) → 1 ≤ b → b ≤ 300 → length words ≡ 17 * b → ((q : ℕ) → q < b → unsynced words q ≡ false)
    → judge_words words ≡ Ok tt

-- in a sync word of words that can be read those bits are changed that differ from sync. `sync_same` in proofs/SyncLaws.antt proves it
abbrev pub SyncSame : Type 0
SyncSame = (words : List ℕ) → Readable words → (q : ℕ) → q < length words / 17 → distance (sync_word words q) sync ≡ changed (sync_word words q)
