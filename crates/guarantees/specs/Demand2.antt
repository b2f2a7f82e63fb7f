-- Demand 2: what is read of a job's transmission, with at most two flips in each sync and each frame codeword, is the job's own pages,
-- ordered by slot. `demand2` and `sent_then_read` in proofs/Demand2.antt prove it.
use Rattle.std.specs.Prelude.{◌≡◌, ℕ, ◌<◌, length, take, drop, Ok}
use mathlib.Core.List.{List, [], ◌∷◌, ◌++◌, flat_map}
use Rattle.base.specs.Lists.{over}
use Rattle.job.specs.Submission.{Submission}
use Rattle.job.specs.Pages.{plain_at}
use Rattle.job.specs.Job.{job_of}
use Rattle.transmission.specs.Sending.{sendings_of, sending_at, placement_of}
use Rattle.transmission.specs.Transmission.{transmission_of}
use Rattle.transmission.specs.Report.{sent, report_of, words_sent}
use Rattle.listing.specs.Text.{text_of}
use Rattle.listing.specs.Words.{words_of}
use Rattle.reader.specs.Lines.{line_heard}
use Rattle.reader.specs.Answers.{Reading, read_words, read_listing}
use Rattle.guarantees.specs.Order.{order, InOrder}
use Rattle.guarantees.specs.Transport.{Received, flips_in, hearing_of}
use Rattle.guarantees.specs.Gives.{Gives}

-- what line p of a job stands for, with its newline: the line itself, but for a phrase of the book a line of kind 5 (request R-6)
abbrev pub page_line : Submission → ℕ → List ℕ
page_line s p = plain_at s p ++ (10 ∷ [])

-- a job's pages in the order of their slots
abbrev pub in_slot_order : Submission → List ℕ
in_slot_order s = order (placement_of (sendings_of s))

-- the lines of its pages in that order, one after the other
abbrev pub lines_in_order : Submission → List ℕ
lines_in_order s = flat_map (page_line s) (in_slot_order s)

-- the texts' half: a page that is heard as it was sent has the line that its job's line stands for. `line_back` in proofs/LineBack.antt
abbrev pub LineBack : Type 0
LineBack = (s : Submission) (n : ℕ) → job_of s ≡ Ok n → (p : ℕ) → p < n → line_heard (hearing_of (sending_at (sendings_of s) p)) ≡ page_line s p

-- an answer to reading the words behind the preamble that gives the n pages of a job back: nothing lost, no orphans, its lines in
-- the order of their slots, and as many bits changed as were flipped
abbrev pub GivesBack : Submission → ℕ → List ℕ → ℕ → Reading → List ℕ → Type 0
GivesBack s n words room answer behind = Gives (lines_in_order s) n 0 0 (flips_in (sendings_of s) words) room answer behind

-- what reading these words gives of a job of n pages
pub record SamePages (s : Submission) (n : ℕ) (words : List ℕ) : Type 0 where
  -- the order is that of the slots: every page once, by rising slots
  pub in_order : InOrder (placement_of (sendings_of s)) (in_slot_order s)
  -- the words behind the preamble, read as a slice of words
  pub from_words : (room : ℕ) → GivesBack s n words room (read_words (drop 18 words) room) (drop 18 words)
  -- all the words, read as a listing
  pub from_listing : (room : ℕ) → GivesBack s n words room (read_listing (text_of words) room) (words_of (text_of words))

-- every accepted job, and all words that are received for its transmission with at most two flips in each sync and each frame codeword
abbrev pub Demand2 : Type 0
Demand2 =
    (s : Submission) (n : ℕ) → job_of s ≡ Ok n → (words : List ℕ) → Received 2 (transmission_of (sendings_of s)) words → SamePages s n words

-- the first m of the words that `send` leaves in a slice that held `old`, where the other has room for so many slots
abbrev pub words_left : Submission → List ℕ → ℕ → ℕ → List ℕ
words_left s old slots m = take m (over old (words_sent (report_of s (length old) slots) (sendings_of s)))

-- what holds of them where m words are reported
pub record ReadAfterSending (s : Submission) (old : List ℕ) (slots m : ℕ) : Type 0 where
  -- the job is accepted, with so many pages
  pub pages : ℕ
  pub accepted : job_of s ≡ Ok pages
  -- they are its transmission
  pub transmitted : words_left s old slots m ≡ transmission_of (sendings_of s)
  -- as they are, and with at most two flips in each sync and each frame codeword, they give the same pages
  pub clean : SamePages s pages (words_left s old slots m)
  pub flipped : (words : List ℕ) → Received 2 (words_left s old slots m) words → SamePages s pages words

-- every job that `send` reports as sent, whatever the lent slices are
abbrev pub SentThenRead : Type 0
SentThenRead = (s : Submission) (old : List ℕ) (slots b m : ℕ) → report_of s (length old) slots ≡ sent b m → ReadAfterSending s old slots m
