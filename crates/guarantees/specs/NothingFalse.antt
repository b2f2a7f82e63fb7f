-- R-9, nothing false with three wrong bits: what is read of a job's transmission with up to two flips in a sync and three in a frame codeword.
-- `nothing_false` in proofs/NothingFalse.antt proves it.
use Rattle.std.specs.Prelude.{◌≡◌, Bool, true, false, cond, ℕ, ◌+◌, ◌*◌, ◌%◌, ◌≤◌, ◌<◌, length, get_or, take, drop, Ok}
use mathlib.Core.List.{List, flat_map}
use Rattle.base.specs.Lists.{Begins, has}
use Rattle.codeword.specs.Nearest.{nearest}
use Rattle.job.specs.Submission.{Submission}
use Rattle.job.specs.Line.{is_data, function_of}
use Rattle.job.specs.Pages.{page_at, kind_at, digits_at}
use Rattle.job.specs.Print.{printed}
use Rattle.job.specs.Job.{job_of}
use Rattle.placement.specs.Placement.{batches, slot_of}
use Rattle.transmission.specs.Sending.{sendings_of, placement_of}
use Rattle.transmission.specs.Transmission.{transmission_of}
use Rattle.transmission.specs.Transmitted.{slot_index}
use Rattle.transmission.specs.Report.{sent, report_of}
use Rattle.listing.specs.Text.{text_of}
use Rattle.listing.specs.Words.{words_of}
use Rattle.reader.specs.Meaning.{meaning}
use Rattle.reader.specs.Lines.{digits_heard}
use Rattle.reader.specs.Answers.{Reading, read_words, read_listing}
use Rattle.reader.specs.declared.Meaning.TheVariants.{Lost}
use Rattle.guarantees.specs.Transport.{flip_count, Received, flips_but, lost_at, lost_to, orphans_to}
use Rattle.guarantees.specs.Gives.{Gives}
use Rattle.guarantees.specs.Demand2.{page_line, words_left}
use Rattle.guarantees.specs.Demand3.{page, count, word_in}

-- Below, s is an accepted job, and `words` is received for its transmission.

-- ---- its slots

-- how many there are
abbrev pub slot_count : Submission → ℕ
slot_count s = 16 * batches (placement_of (sendings_of s))

-- the one that holds page i's address; its message codewords are in the `count s i` slots directly behind
abbrev pub address_slot : Submission → ℕ → ℕ
address_slot s i = slot_of (placement_of (sendings_of s)) i

-- how many bits of the word of slot p are flipped
abbrev pub slot_flips : Submission → List ℕ → ℕ → ℕ
slot_flips s words p = flip_count (transmission_of (sendings_of s)) words (slot_index p)

-- slot p's word is lost: it has more than two flips
abbrev pub slot_lost : Submission → List ℕ → ℕ → Bool
slot_lost s words = lost_at (transmission_of (sendings_of s)) words

-- page i's codewords have at most two flips each, and so has the next slot's, if any
pub record Undamaged (s : Submission) (words : List ℕ) (i : ℕ) : Type 0 where
  pub codewords : (j : ℕ) → j ≤ count s i → slot_flips s words (address_slot s i + j) ≤ 2
  pub next : address_slot s i + count s i + 1 < slot_count s → slot_flips s words (address_slot s i + count s i + 1) ≤ 2

-- ---- the line of a page whose address has at most two flips

-- it has the byte `-`
abbrev pub has_dash : List ℕ → Bool
has_dash = has 45

-- how many digits of a text belong together: a character's pair, or a group of data
abbrev pub together : ℕ → ℕ
together kind = cond (is_data kind) 5 2

-- a line of page i that is cut short
pub record Cut (s : Submission) (words : List ℕ) (i : ℕ) (line : List ℕ) : Type 0 where
  -- so many of its message words are read, and the word behind these, one of its message or the next slot's, has three flips
  pub read : ℕ
  pub within : read ≤ count s i
  pub before : (j : ℕ) → j ≤ read → slot_flips s words (address_slot s i + j) ≤ 2
  pub inside : address_slot s i + read + 1 < slot_count s
  pub broken : slot_flips s words (address_slot s i + read + 1) ≡ 3
  -- the line has the page's identity, a kind, the digits of a text, and `-`
  pub kind : ℕ
  pub digits : List ℕ
  pub line_is : line ≡ printed (page_at s i).identity kind digits true
  -- the text is that of the message words that are read, in whole characters or groups, and begins the page's text
  pub digits_are : digits ≡ digits_heard (function_of (kind_at s i)) (take read (page s i).groups)
  pub whole : length digits % together (kind_at s i) ≡ 0
  pub begins : Begins digits (digits_at s i)
  -- where no message word is read the kind is the function's tone, else that of the undamaged line
  pub tone : read ≡ 0 → kind ≡ function_of (kind_at s i)
  pub same : 0 < read → kind ≡ kind_at s i

pub record LineOf (s : Submission) (words : List ℕ) (i : ℕ) (line : List ℕ) : Type 0 where
  -- it has no `-` exactly when the page is undamaged, and is the page's own line then
  pub whole : Undamaged s words i → has_dash line ≡ false
  pub undamaged : has_dash line ≡ false → Undamaged s words i
  pub own : has_dash line ≡ false → line ≡ page_line s i
  -- else the page is cut short
  pub cut : has_dash line ≡ true → Cut s words i line

-- ---- what is read

-- the pages ps of a job of n pages are those whose address has at most two flips, each once, in the order of their slots
pub record Logged (s : Submission) (n : ℕ) (words ps : List ℕ) : Type 0 where
  pub only : (k : ℕ) → k < length ps → (get_or ps k 0 < n) × (slot_flips s words (address_slot s (get_or ps k 0)) ≤ 2)
  pub every : (i : ℕ) → i < n → slot_flips s words (address_slot s i) ≤ 2 → (k : ℕ) × (k < length ps) × (get_or ps k 0 ≡ i)
  pub rising : (k l : ℕ) → k < l → l < length ps → address_slot s (get_or ps k 0) < address_slot s (get_or ps l 0)

-- an answer to reading the words behind the preamble that gives the lines of these pages, one after the other; lost are the words with
-- more than two flips, and orphans the message words with at most two behind a lost word of their page; changed are the flipped bits of
-- all words that are not lost
abbrev pub GivesLog : Submission → List ℕ → (ℕ → List ℕ) → List ℕ → ℕ → Reading → List ℕ → Type 0
GivesLog s words line ps room answer behind =
    Gives (flat_map line ps) (length ps) (lost_to (slot_lost s words) (slot_count s)) (orphans_to (slot_lost s words) (sendings_of s) (slot_count s))
    (flips_but (slot_lost s words) (sendings_of s) words) room answer behind

-- what reading these words gives of a job of n pages
pub record NothingFalse (s : Submission) (n : ℕ) (words : List ℕ) : Type 0 where
  -- a word with three flips is lost
  pub lost : (p : ℕ) → p < slot_count s → slot_flips s words p ≡ 3 → meaning (nearest (word_in words p)) ≡ Lost
  -- the pages that get a line, and the line of each
  pub pages : List ℕ
  pub line : ℕ → List ℕ
  pub logged : Logged s n words pages
  pub lines : (i : ℕ) → i < n → slot_flips s words (address_slot s i) ≤ 2 → LineOf s words i (line i)
  -- these lines and no others are printed: of the words behind the preamble, and of the listing of all
  pub from_words : (room : ℕ) → GivesLog s words line pages room (read_words (drop 18 words) room) (drop 18 words)
  pub from_listing : (room : ℕ) → GivesLog s words line pages room (read_listing (text_of words) room) (words_of (text_of words))

pub record ThreeWrongBits : Type 0 where
  -- every accepted job, and all words that are received for its transmission
  pub of_job : (s : Submission) (n : ℕ) → job_of s ≡ Ok n → (words : List ℕ) → Received 3 (transmission_of (sendings_of s)) words → NothingFalse s n words
  -- every job that `send` reports as sent, whatever the lent slices are, and all words that are received for the m that it reports
  pub of_sending : (s : Submission) (old : List ℕ) (slots b m : ℕ) → report_of s (length old) slots ≡ sent b m
      → (words : List ℕ) → Received 3 (words_left s old slots m) words → (n : ℕ) × (job_of s ≡ Ok n) × NothingFalse s n words
