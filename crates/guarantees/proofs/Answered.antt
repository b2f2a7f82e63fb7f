-- What the answers give where it is known what is heard, of words and of a listing. Assumes nothing.
use mathlib.Core.Path.{◌≡◌, refl, ap, ap₂}
use mathlib.Core.List.{List, [], ◌∷◌, ◌++◌, map, flat_map}
use mathlib.Core.Logic.{⊎_elim}
use Prim.Native.Nat.{ℕ, suc, ◌<◌, zero-le, suc-le-suc}
use native.Mathlib.Omega.{arith}
use lib.ListN.{length, get_or, drop, get_or-eq_default}
use borrow.Author.Tests.{lt-ltb, le-ltb}
use Rattle.base.proofs.SearchLaws.{le_or_lt}
use Rattle.placement.specs.Placement.{batches}
use Rattle.transmission.specs.Sending.{Sending, placement_of, AllAllowed}
use Rattle.transmission.specs.Transmission.{transmission_of}
use Rattle.transmission.proofs.Sendings.{sendings_limits}
use Rattle.transmission.proofs.TransmissionLaws.{batches_least}
use Rattle.listing.specs.Text.{text_of}
use Rattle.listing.specs.Words.{words_of}
use Rattle.listing.specs.ReadBack.{OfBatches, ReadBack}
use Rattle.listing.proofs.Back.{read_back}
use Rattle.reader.specs.Reading.{Hearing, Heard, heard_in}
use Rattle.reader.specs.Lines.{line_heard, lines_heard}
use Rattle.reader.specs.Answers.{Reading, judge_listing, printed_into, read_stretch, read_words, read_listing}
use Rattle.reader.proofs.Laws.{sound_batches, sound_words}
use Rattle.guarantees.specs.Transport.{Received, HeardAs}
use Rattle.guarantees.specs.Gives.{Gives}
use Rattle.guarantees.proofs.Received.{size}

-- the lines of pages, each heard as f says, are these
pub lines_are : (f : ℕ → Hearing) (line : ℕ → List ℕ) (ps : List ℕ)
    → ((k : ℕ) → k < length ps → line_heard (f (get_or ps k 0)) ≡ line (get_or ps k 0)) → lines_heard (map f ps) ≡ flat_map line ps
unfolding lines_heard flat_map
lines_are f line [] h = refl
lines_are f line (p ∷ ps) h =
    ap₂ (λ (x y : List ℕ). x ++ y) (h 0 (suc-le-suc zero-le)) (lines_are f line ps (λ k l. h (suc k) (suc-le-suc l)))

-- ---- an answer by its room

-- what was heard is given: its lines, and its numbers of pages, lost words, orphans and changed bits
abbrev pub GivesHeard : Heard → ℕ → Reading → List ℕ → Type 0
GivesHeard h room answer words = Gives (lines_heard h.pages) (length h.pages) h.lost h.orphans h.changed room answer words

gives : (h : Heard) (room : ℕ) (words : List ℕ) → heard_in words ≡ h → GivesHeard h room (printed_into h room) words
gives h room words e =
    let n = length (lines_heard h.pages) in
    record {
      answered = λ l. rw (le-ltb room n l);
      written = λ l. rw (le-ltb room n l) (ap (λ (x : Heard). lines_heard x.pages) e);
      declined = λ l. rw (lt-ltb room n l) (refl, refl);
      untouched = λ l. rw (lt-ltb room n l);
    }

-- ---- the transmission of an accepted job, received with flips

module _ (xs : List Sending) (a : AllAllowed xs) (most : ℕ) (words : List ℕ) (rec : Received most (transmission_of xs) words)
    (h : Heard) (t : HeardAs xs h words) (room : ℕ) where
  abbrev b : ℕ
  b = batches (placement_of xs)

  given : printed_into (heard_in (drop 18 words)) room ≡ printed_into h room
  given = ap (λ (x : Heard). printed_into x room) t.heard

  words_given : read_words (drop 18 words) room ≡ printed_into h room
  unfolding read_stretch
  words_given = rw (sound_words (drop 18 words) b (batches_least a) (sendings_limits a).most t.whole t.synced) given

  of_batches_lem : OfBatches words b
  of_batches_lem =
      record {
        size = size xs most words rec;
        some = batches_least a;
        few = (sendings_limits a).most;
        small = λ k. ⊎_elim (λ l. rw (get_or-eq_default words 0 {n = k} l) (omega arith)) (λ l. rec.fits k l) (le_or_lt (length words) k);
      }

  listed : ReadBack words b
  listed = read_back words b of_batches_lem

  listing_given : read_listing (text_of words) room ≡ printed_into h room
  unfolding read_listing judge_listing
  listing_given = rw (listed.batches, listed.form, sound_batches (drop 18 words) b t.whole t.synced) given

  pub from_words : GivesHeard h room (read_words (drop 18 words) room) (drop 18 words)
  from_words = rw words_given (gives h room (drop 18 words) t.heard)

  pub from_listing : GivesHeard h room (read_listing (text_of words) room) (words_of (text_of words))
  from_listing = rw (listing_given, listed.batches) (gives h room (drop 18 words) t.heard)
