-- R-10, the radio's bits read directly: where a transmission follows whole in a recording, the lines and the counts are those of its
-- listing. `from_bits` in proofs/FromBits.antt, `job_from_bits`, `sent_then_received` and `program_receives` in proofs/JobFromBits.antt and
-- `sent_bits` in proofs/SentBits.antt prove it.
use Rattle.std.specs.Prelude.{◌≡◌, true, List, [], ◌++◌, ℕ, ◌+◌, ◌-◌, ◌*◌, ◌/◌, ◌%◌, ◌^◌, ◌≤◌, ◌<◌, length, get_or, take, drop, Ok, Err}
use Rattle.base.specs.Lists.{tab}
use Rattle.codeword.specs.Code.{obeys, sync}
use Rattle.codeword.specs.Nearest.{distance}
use Rattle.job.specs.Submission.{Submission}
use Rattle.job.specs.Job.{job_of}
use Rattle.placement.specs.Placement.{batches}
use Rattle.transmission.specs.Sending.{sendings_of, placement_of}
use Rattle.transmission.specs.Transmission.{transmission_of}
use Rattle.transmission.specs.Report.{sent, report_of}
use Rattle.listing.specs.Words.{words_of}
use Rattle.reader.specs.Reading.{changes_in}
use Rattle.reader.specs.Answers.{judge_listing, read_listing, lines_read}
use Rattle.reader.specs.declared.Read.{Read}
use Rattle.reader.specs.declared.ReadError.TheVariants as read-error
use Rattle.receiver.specs.Bits.{bit_count, word_from}
use Rattle.receiver.specs.Answers.{receive_bits, lines_received}
use Rattle.receiver.specs.declared.Refusal.TheVariants.{NoRoom}
use Rattle.program.specs.Prints.{receive_prints}
use Rattle.guarantees.specs.Transport.{flips_in}
use Rattle.guarantees.specs.Demand2.{lines_in_order, words_left}
use Rattle.guarantees.specs.Programs.{ProgramCall, output}

-- ---- a recording of a transmission

-- In a recording the true first sync is at position t, behind any number of any bits, but that no 32 bits which start before it lie within
-- two bits of sync. From there on the words that were sent follow whole, with at most two flips a word, and at most seven bits stand behind
-- them.
pub record Recorded (bits : List ℕ) (t : ℕ) (sent : List ℕ) : Type 0 where
  pub short : length bits ≤ 65536
  pub clear : (p : ℕ) → p < t → 2 < distance (word_from bits p) sync
  pub whole : t + 32 * length sent ≤ bit_count bits
  pub ends : bit_count bits ≤ t + 32 * length sent + 7
  pub flips : (k : ℕ) → k < length sent → distance (word_from bits (t + 32 * k)) (get_or sent k 0) ≤ 2

-- the n words that stand in it from position t on
abbrev pub words_from : List ℕ → ℕ → ℕ → List ℕ
words_from bits t n = tab (λ k. word_from bits (t + 32 * k)) n

-- ---- any transmission beside its listing

-- a listing that can be read, of codewords alone
pub record Clean (l : List ℕ) : Type 0 where
  pub sound : judge_listing l ≡ Ok tt
  pub codewords : (k : ℕ) → k < length (words_of l) → obeys (get_or (words_of l) k 0) ≡ true

-- what receiving a recording answers and writes, into room for so many bytes, beside what reading this listing does
pub record AsListed (bits : List ℕ) (t : ℕ) (l : List ℕ) (room : ℕ) : Type 0 where
  -- the listing is read: the counts are the same, the batches are its own, and the changed bits those of the words as they were recorded
  pub counts : {read : Read} → read_listing l room ≡ Ok read
      → receive_bits bits room ≡ Ok (record {
        batches = length (words_of l) / 17;
        pages = read.pages;
        lost = read.lost;
        orphans = read.orphans;
        changed = changes_in (words_from bits t (length (words_of l)));
        bytes = read.bytes;
      })
  -- there is no room for its lines: number 10 of both
  pub no_room : read_listing l room ≡ Err read-error.NoRoom → receive_bits bits room ≡ Err NoRoom
  -- what is written is the same
  pub lines : lines_received (receive_bits bits room) bits ≡ lines_read (read_listing l room) (words_of l)

abbrev pub FromBits : Type 0
FromBits = (l : List ℕ) → Clean l → (bits : List ℕ) (t : ℕ) → Recorded bits t (words_of l) → (room : ℕ) → AsListed bits t l room

-- ---- a job's transmission

-- what receiving a recording gives of a job of n pages, into room for so many bytes; its words are these, a preamble first
pub record PagesReceived (s : Submission) (n : ℕ) (words bits : List ℕ) (room : ℕ) : Type 0 where
  -- there is room for its lines: n pages, nothing lost, no orphans, as many bits changed as were flipped, and its lines in the order of
  -- their slots
  pub answered : length (lines_in_order s) ≤ room → receive_bits bits room ≡ Ok (record {
    batches = batches (placement_of (sendings_of s));
    pages = n;
    lost = 0;
    orphans = 0;
    changed = flips_in (sendings_of s) words;
    bytes = length (lines_in_order s);
  })
  pub written : length (lines_in_order s) ≤ room → lines_received (receive_bits bits room) bits ≡ lines_in_order s
  -- there is less: number 10, and nothing is written
  pub declined : room < length (lines_in_order s) → receive_bits bits room ≡ Err NoRoom
  pub untouched : room < length (lines_in_order s) → lines_received (receive_bits bits room) bits ≡ []

-- the words of a recording of what was sent, from position t on, with the preamble as it was sent
abbrev pub received_from : List ℕ → ℕ → List ℕ → List ℕ
received_from bits t sent = take 18 sent ++ words_from bits t (length sent - 18)

-- every accepted job, and every recording in which its transmission, but for the preamble, follows whole
abbrev pub JobFromBits : Type 0
JobFromBits =
    (s : Submission) (n : ℕ) → job_of s ≡ Ok n → (bits : List ℕ) (t : ℕ) → Recorded bits t (drop 18 (transmission_of (sendings_of s)))
    → (room : ℕ) → PagesReceived s n (received_from bits t (transmission_of (sendings_of s))) bits room

-- every job that `send` reports as sent, whatever the lent slices are, and every recording of the m words that it reports
abbrev pub SentThenReceived : Type 0
SentThenReceived =
    (s : Submission) (old : List ℕ) (slots b m : ℕ) → report_of s (length old) slots ≡ sent b m → (bits : List ℕ) (t : ℕ)
    → Recorded bits t (drop 18 (words_left s old slots m)) → (room : ℕ)
    → (n : ℕ) × (job_of s ≡ Ok n) × PagesReceived s n (received_from bits t (words_left s old slots m)) bits room

-- ---- the transmission as it was sent

-- words as a recording: four bytes a word, the top one first
unfoldable pub recording_of : List ℕ → List ℕ
recording_of words = tab (λ i. get_or words (i / 4) 0 / 2 ^ (24 - 8 * (i % 4)) % 256) (4 * length words)

-- the bits that the card sends, clean preamble first, are such a recording: no 32 bits that start in the preamble lie within two bits of sync
abbrev pub SentBits : Type 0
SentBits =
    (s : Submission) (n : ℕ) → job_of s ≡ Ok n
    → Recorded (recording_of (transmission_of (sendings_of s))) 576 (drop 18 (transmission_of (sendings_of s)))

-- ---- the receiving program

-- every recording in which the transmission of an accepted job, but for the preamble, follows whole: the lines of its pages in the order of
-- their slots are printed
abbrev pub ProgramReceives : Type 0
ProgramReceives =
    (s : Submission) (n : ℕ) → job_of s ≡ Ok n → (bits : List ℕ) (t : ℕ) → Recorded bits t (drop 18 (transmission_of (sendings_of s)))
    → (old left : List ℕ) (m : ℕ) → ProgramCall receive_prints bits old m left → output m left ≡ lines_in_order s
