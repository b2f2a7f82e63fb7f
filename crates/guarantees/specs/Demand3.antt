-- Demand 3: the slots and batches that are reported of an accepted job keep their bounds, and are those of the placement and those in
-- the card's words; the steps give the same words. `demand3` in proofs/Demand3.antt proves it of every job.
use Rattle.job.specs.Refusal.{JobAnswer}
use Rattle.std.specs.Prelude.{◌≡◌, true, false, cond, List, ◌⊎◌, ℕ, ◌+◌, ◌-◌, ◌*◌, ◌/◌, ◌^◌, ◌≤◌, ◌<◌, length, get_or, take, eqb, leb, Ok}
use Rattle.base.specs.Hex.{bytes_of}
use Rattle.base.specs.Lists.{over}
use Rattle.base.specs.Search.{sum}
use Rattle.codeword.specs.Code as code
use Rattle.job.specs.Submission.{Submission}
use Rattle.job.specs.Pages.{page_at, kind_at, digits_at}
use Rattle.job.specs.Job.{job_of}
use Rattle.placement.specs.Placement.{address, content_at, ends_with, batches, slots}
use Rattle.placement.specs.Promise.{earlier, GoesOut}
use Rattle.transmission.specs.Sending.{Sending, sending_of, sendings_of, placement_of}
use Rattle.transmission.specs.Transmission.{address_of, message_of, transmission_of}
use Rattle.transmission.specs.Transmitted.{slot_index, is_address, addresses_to}
use Rattle.transmission.specs.Report.{Report, sent, report_of, words_sent, slots_sent, number_of}
use Rattle.sender.specs.declared.Sender.{Sender}
use Rattle.sender.specs.Stepping.{StartCall, Stepping}

-- ---- accepted jobs

-- no number but 10 declines
abbrev pub OnlyRoom : Report → Type 0
OnlyRoom r = (number_of r ≡ 0) ⊎ (number_of r ≡ 10)

pub record Acceptance (s : Submission) : Type 0 where
  -- an accepted job is one that number 10 alone may keep from being sent, whatever is lent
  pub accepted : (words slots : ℕ) → OnlyRoom (report_of s words slots) → (n : ℕ) × (job_of s ≡ Ok n)
  pub undeclined : (n : ℕ) → job_of s ≡ Ok n → (words slots : ℕ) → OnlyRoom (report_of s words slots)
  -- where 10 doesn't either, sending reports
  pub reports : (words slots : ℕ) → number_of (report_of s words slots) ≡ 0 → (b : ℕ) × (m : ℕ) × (report_of s words slots ≡ sent b m)
  -- room for 300 batches and 48 pages is enough for every accepted job
  pub enough : (n : ℕ) → job_of s ≡ Ok n → (words slots : ℕ) → 5118 ≤ words → 48 ≤ slots → number_of (report_of s words slots) ≡ 0
  -- starting the steps accepts the same jobs
  pub started : (a : JobAnswer) (t : Sender) → StartCall s a t → a ≡ job_of s

-- ---- a call of `send`

-- with the job s, lent words that held w₀ and slots that held t₀, it answers r and leaves w and t: its three promises
pub record Call (s : Submission) (w₀ t₀ : List ℕ) (r : Report) (w t : List ℕ) : Type 0 where
  pub answer : r ≡ report_of s (length w₀) (length t₀)
  pub words : w ≡ over w₀ (words_sent r (sendings_of s))
  pub slots : t ≡ over t₀ (slots_sent r (sendings_of s))

-- page i of a job as it is sent: identity, function, 20-bit groups
abbrev pub page : Submission → ℕ → Sending
page s i = sending_of s (page_at s i)

-- the message codewords of a page of a kind, by the digits of its text: none for a tone, c / 5 for c numeric characters and 7 c / 20 for c
-- alphanumeric ones, each rounded up, and one for each five digits of data (request R-11)
unfoldable pub message_count : ℕ → List ℕ → ℕ
message_count kind digits =
    cond (leb kind 3) 0
    (cond (eqb kind 4) ((length (bytes_of digits) + 4) / 5)
    (cond (eqb kind 5) ((7 * length (bytes_of digits) + 19) / 20)
    (length digits / 5)))

-- those of page i
abbrev pub count : Submission → ℕ → ℕ
count s i = message_count (kind_at s i) (digits_at s i)

-- the slot that is reported for page i
abbrev pub slot : List ℕ → ℕ → ℕ
slot t i = get_or t i 0

-- the word of slot p: word 19 + 17 q + r, where p = 16 q + r and r is under 16
abbrev pub word_in : List ℕ → ℕ → ℕ
word_in w p = get_or w (slot_index p) 0

-- Below a job s of n pages is sent with b batches and m words, and the words and slots at exit are w and t.

-- the two bounds
pub record InTime (s : Submission) (n b : ℕ) (t : List ℕ) : Type 0 where
  -- for every k from 1 to n exactly one page goes out k-th
  pub some : (k : ℕ) → 1 ≤ k → k ≤ n → (i : ℕ) × (i < n) × GoesOut (slot t) n k i
  pub one : (k i j : ℕ) → i < n → j < n → GoesOut (slot t) n k i → GoesOut (slot t) n k j → i ≡ j
  -- its slot is at most 16 k - 2 and the message codewords of the pages before it
  pub in_time : (k i : ℕ) → i < n → GoesOut (slot t) n k i → slot t i ≤ 16 * k - 2 + earlier (slot t) n (count s) i
  -- the batches are at most (16 n + m - 1) / 16, rounded down, and one more, where m are the message codewords of all pages
  pub few : b ≤ (16 * n + sum (count s) n - 1) / 16 + 1

-- what is reported is what the placement says
pub record AsPlaced (s : Submission) (n b m : ℕ) (w t : List ℕ) : Type 0 where
  -- its batches, its slots, and in each of these the page's address
  pub batches_are : b ≡ batches (placement_of (sendings_of s))
  pub slots_are : take n t ≡ slots (placement_of (sendings_of s))
  pub placed : (i : ℕ) → i < n → content_at (placement_of (sendings_of s)) (slot t i) ≡ address i
  -- the transmission can end with the last of these batches, and with none before it
  pub ended : ends_with (placement_of (sendings_of s)) (b - 1) ≡ true
  pub soonest : (q : ℕ) → q + 1 < b → ends_with (placement_of (sendings_of s)) q ≡ false
  -- 18 words and 17 a batch, which are all the card's words
  pub words_are : m ≡ 18 + 17 * b
  pub card : take m w ≡ transmission_of (sendings_of s)
  -- all of it stands in what was lent
  pub words_fit : m ≤ length w
  pub slots_fit : n ≤ length t

-- what is reported is what stands in the words
pub record InWords (s : Submission) (n b m : ℕ) (w t : List ℕ) : Type 0 where
  -- the slots whose word is an address are the reported ones
  pub reported : (p : ℕ) → p < 16 * b → is_address (word_in w p) ≡ true → (i : ℕ) × (i < n) × (p ≡ slot t i)
  pub addressed : (i : ℕ) → i < n → is_address (word_in w (slot t i)) ≡ true
  -- k-th in slot order is the address of the page that goes out k-th: before its slot stand k - 1
  pub in_turn : (k i : ℕ) → i < n → GoesOut (slot t) n k i → addresses_to (word_in w) (slot t i) + 1 ≡ k
  -- in a page's slot stands the codeword of its identity and function
  pub its_address : (i : ℕ) → i < n → word_in w (slot t i) ≡ address_of (page s i)
  -- and directly behind it a message codeword for each of the page's groups, inside the batches
  pub counted : (i : ℕ) → i < n → length (page s i).groups ≡ count s i
  pub its_message : (i j : ℕ) → i < n → j < count s i → word_in w (slot t i + 1 + j) ≡ message_of (page s i) j
  pub inside : (i : ℕ) → i < n → slot t i + count s i < 16 * b
  -- all other slots are idle
  pub others : (p : ℕ) → p < 16 * b → ((i j : ℕ) → i < n → j ≤ count s i → p ≡ slot t i + j → ⊥) → word_in w p ≡ code.idle
  -- the last slot's word is no message codeword; of every batch before the last, the last slot's is one, or a page's codewords stand behind it
  pub closed : word_in w (16 * b - 1) < 2 ^ 31
  pub needed : (q : ℕ) → q + 1 < b → word_in w (16 * q + 15) < 2 ^ 31 → (i : ℕ) × (i < n) × (16 * q + 16 ≤ slot t i + count s i)
  -- sync stands in the words once for each reported batch
  pub syncs : sum (λ k. cond (eqb (get_or w k 0) code.sync) 1 0) m ≡ b

-- all of that; the pause after a message (R-3); and every list of steps of the same job answers these very words, and then done
pub record Carried (s : Submission) (n b m : ℕ) (w t : List ℕ) : Type 0 where
  pub in_time : InTime s n b t
  pub as_placed : AsPlaced s n b m w t
  pub in_words : InWords s n b m w t
  -- a page with a message doesn't start in the slot directly behind another page's message
  pub paused : (i j : ℕ) → i < n → j < n → 0 < count s i → 0 < count s j → slot t j ≡ slot t i + count s i + 1 → ⊥
  pub steps : (u : Sender) → StartCall s (Ok n) u → Stepping (take m w) u

-- ---- demand 3 of a job, whatever its bytes are

pub record Demand3 (s : Submission) : Type 0 where
  pub acceptance : Acceptance s
  -- every call of `send` that reports b batches and m words
  pub sending : (w₀ t₀ w t : List ℕ) (b m : ℕ) → Call s w₀ t₀ (sent b m) w t → (n : ℕ) × (job_of s ≡ Ok n) × Carried s n b m w t
  -- every list of steps, in place or by value, from the state that a start gives which accepts the job: none is declined, the answers
  -- are the card's words and then done, and a step behind the last word alters nothing
  pub stepping : (n : ℕ) (u : Sender) → StartCall s (Ok n) u → Stepping (transmission_of (sendings_of s)) u
