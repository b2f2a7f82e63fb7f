-- Demand 2 of the calls that write a job's listing: `list_job`, and `card_list` for C. `listing_back` and `listed_then_read` in
-- proofs/Listed.antt prove it.
use Rattle.std.specs.Prelude.{◌≡◌, List, ℕ, ◌≤◌, length, take, Ok}
use Rattle.base.specs.Lists.{over}
use Rattle.job.specs.Submission.{Submission}
use Rattle.job.specs.Job.{job_of}
use Rattle.transmission.specs.Sending.{sendings_of}
use Rattle.transmission.specs.Transmission.{transmission_of}
use Rattle.listing.specs.Words.{words_of}
use Rattle.reader.specs.Answers.{read_listing}
use Rattle.job_listing.specs.Listed.{Listed, listing_text, listed_of, bytes_listed}
use Rattle.card.specs.Answers.{bytes_for}
use Rattle.card.specs.declared.CardBytes.{CardBytes}
use Rattle.guarantees.specs.Gives.{Gives}
use Rattle.guarantees.specs.Transport.{Received}
use Rattle.guarantees.specs.Demand2.{lines_in_order, SamePages}

-- reading this text as a listing gives the n pages of a job back: its lines in the order of their slots, nothing lost, no orphans, and
-- no bit changed
abbrev pub ListsPages : Submission → ℕ → List ℕ → Type 0
ListsPages s n text =
    (room : ℕ) → Gives (lines_in_order s) n 0 0 (record { slots = 0; syncs = 0 }) room (read_listing text room) (words_of text)

-- so it is with the listing of every accepted job
abbrev pub ListingBack : Type 0
ListingBack = (s : Submission) (n : ℕ) → job_of s ≡ Ok n → ListsPages s n (listing_text s)

-- ---- the calls, each by its two promises: with the job s and lent bytes that held `old` it answers r and leaves `left`

pub record ListJob (s : Submission) (old : List ℕ) (r : Listed) (left : List ℕ) : Type 0 where
  pub answer : r ≡ listed_of s (length old)
  pub bytes : left ≡ over old (bytes_listed r (listing_text s))

pub record CardList (s : Submission) (old : List ℕ) (r : CardBytes) (left : List ℕ) : Type 0 where
  pub answer : r ≡ bytes_for (listed_of s (length old))
  pub bytes : left ≡ over old (bytes_listed (listed_of s (length old)) (listing_text s))

-- what holds of the bytes left where n are reported
pub record ReadAfterListing (s : Submission) (n : ℕ) (left : List ℕ) : Type 0 where
  -- the job is accepted, with so many pages
  pub pages : ℕ
  pub accepted : job_of s ≡ Ok pages
  -- the first n bytes are the listing of its transmission
  pub fits : n ≤ length left
  pub listed : take n left ≡ listing_text s
  -- read as a listing they give the same pages
  pub clean : ListsPages s pages (take n left)
  -- and so does the listing of all words received for the listed ones with at most two flips in each sync and each frame codeword
  pub flipped : (words : List ℕ) → Received 2 (transmission_of (sendings_of s)) words → SamePages s pages words

-- every call that doesn't decline, whatever the job and the lent slice are
pub record ListedThenRead : Type 0 where
  pub list_job : (s : Submission) (old left : List ℕ) (n : ℕ) → ListJob s old (Ok n) left → ReadAfterListing s n left
  pub card_list : (s : Submission) (old left : List ℕ) (r : CardBytes) → CardList s old r left → r.number ≡ 0 → ReadAfterListing s r.bytes left
