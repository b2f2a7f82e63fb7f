-- The programs: what one prints goes into the other, and their buffers and the header's sizes suffice. `programs` and `sizes` in
-- proofs/Programs.antt prove it.
use Rattle.std.specs.Prelude.{◌≡◌, List, ℕ, ◌≤◌, length, take, Ok}
use Rattle.base.specs.Lists.{over}
use Rattle.job.specs.Submission.{Submission}
use Rattle.job.specs.Job.{job_of}
use Rattle.job.specs.Refusal.{job_number, job_place, job_position}
use Rattle.transmission.specs.Sending.{sendings_of}
use Rattle.transmission.specs.Transmission.{transmission_of}
use Rattle.transmission.specs.Report as report
use Rattle.transmission.specs.Report.{report_of}
use Rattle.listing.specs.Text.{text_of}
use Rattle.listing.specs.Words.{words_of}
use Rattle.reader.specs.Answers.{read_words, read_listing, lines_read, number_of, place_of}
use Rattle.follower.specs.Answers as following
use Rattle.follower.specs.Answers.{follow_words, follow_listing}
use Rattle.receiver.specs.Answers as receiving
use Rattle.receiver.specs.Answers.{receive_bits}
use Rattle.job_listing.specs.Listed as listed
use Rattle.job_listing.specs.Listed.{listing_text, listed_of}
use Rattle.program.specs.Prints.{answer_text, unless_long, send_prints, read_prints}
use Rattle.guarantees.specs.Transport.{Received}
use Rattle.guarantees.specs.Demand2.{lines_in_order}

-- a call of `program::send`, `program::read`, `program::receive`, for one identity `program::follow` or, with what its files add up to,
-- `program::cover`, by its promises: with standard input s, which for the first has its phrase book and for the last is the files, and lent
-- bytes that held `old` it answers n and leaves `left`
pub record ProgramCall {X : Type 0} (prints : X → List ℕ) (s : X) (old : List ℕ) (n : ℕ) (left : List ℕ) : Type 0 where
  pub count : n ≡ length (prints s)
  pub bytes : left ≡ over old (prints s)

-- the bytes that are printed of it
abbrev pub output : ℕ → List ℕ → List ℕ
output n left = take n left

-- Demand 2 of the programs, of an accepted job
pub record Programs (s : Submission) : Type 0 where
  -- the sending program prints its listing
  pub sent : (old left : List ℕ) (n : ℕ) → ProgramCall send_prints s old n left → output n left ≡ listing_text s
  -- what it prints, read by a reading program, gives the lines of the job's pages in the order of their slots
  pub read_back : (old left old' left' : List ℕ) (n n' : ℕ) → ProgramCall send_prints s old n left → ProgramCall read_prints (output n left) old' n' left'
      → output n' left' ≡ lines_in_order s
  -- and so does the listing of all words received for the listed ones with at most two flips in each sync and each frame codeword
  pub flipped : (words old left : List ℕ) (n : ℕ) → Received 2 (transmission_of (sendings_of s)) words → ProgramCall read_prints (text_of words) old n left
      → output n left ≡ lines_in_order s

abbrev pub OneIntoTheOther : Type 0
OneIntoTheOther = (s : Submission) (n : ℕ) → job_of s ≡ Ok n → Programs s

-- the sizes that suffice for every job, every listing and every recording, in the library, for C and in the programs: no number 10
pub record Sizes : Type 0 where
  -- CARD_WORDS and CARD_PAGES
  pub words_and_slots : (s : Submission) (words slots : ℕ) → 5118 ≤ words → 48 ≤ slots → report.number_of (report_of s words slots) ≡ 10 → ⊥
  -- CARD_LISTING_BYTES
  pub listing : (s : Submission) (room : ℕ) → 46062 ≤ room → listed.number_of (listed_of s room) ≡ 10 → ⊥
  -- CARD_LINES_BYTES
  pub lines_of_words : (words : List ℕ) (room : ℕ) → 48000 ≤ room → number_of (read_words words room) ≡ 10 → ⊥
  pub lines_of_listing : (s : List ℕ) (room : ℕ) → 48000 ≤ room → number_of (read_listing s room) ≡ 10 → ⊥
  pub identity_in_words : (i : ℕ) (words : List ℕ) (room : ℕ) → 48000 ≤ room → following.number_of (follow_words i words room) ≡ 10 → ⊥
  pub identity_in_listing : (i : ℕ) (s : List ℕ) (room : ℕ) → 48000 ≤ room → following.number_of (follow_listing i s room) ≡ 10 → ⊥
  -- CARD_RECEIVED_BYTES
  pub lines_of_recording : (bits : List ℕ) (room : ℕ) → 48300 ≤ room → receiving.number_of (receive_bits bits room) ≡ 10 → ⊥
  -- so the sending program prints number 24, or the refusal of the job or its book, or its listing
  pub sending_program : (s : Submission) → send_prints s ≡ unless_long s.job (answer_text (job_number (job_of s)) (job_place (job_of s)) (job_position (job_of s)) (listing_text s))
  -- and a reading program what it would print with any more room
  pub reading_program : (s : List ℕ) (room : ℕ) → 48000 ≤ room
      → read_prints s ≡ unless_long s (answer_text (number_of (read_listing s room)) (place_of (read_listing s room)) 0 (lines_read (read_listing s room) (words_of s)))
