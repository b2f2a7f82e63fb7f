-- What is promised of the placement: demand 3 over the definitions of Placement. Proved in proofs/Placed.antt: `placed` of every job
-- whose frames are 0 to 7, and `limits` of every sendable one.
use Rattle.std.specs.Prelude.{◌≡◌, true, false, cond, List, ℕ, ◌+◌, ◌-◌, ◌*◌, ◌/◌, ◌≤◌, ◌<◌, ltb}
use Rattle.base.specs.Search.{sum}
use Rattle.placement.specs.Placement.{Job, job_of, slot_bound, Content, idle, address, message, frame_of, content_at, ends_with, batches, slot_of}

-- the sum of w over those of n pages that go out before page i, where page j goes out in slot at j
unfoldable pub earlier : (ℕ → ℕ) → ℕ → (ℕ → ℕ) → ℕ → ℕ
earlier at n w i = sum (λ j. cond (ltb (at j) (at i)) (w j) 0) n

-- page i goes out k-th, counted from 1: k - 1 pages go out before it
abbrev pub GoesOut : (ℕ → ℕ) → ℕ → ℕ → ℕ → Type 0
GoesOut at n k i = earlier at n (λ _. 1) i + 1 ≡ k

-- what slot s holds is idle, the address of a page reported there, or message codeword j of a page whose address is j + 1 slots before
pub data Holds (job : Job) (s : ℕ) : Content → Type 0 where
  nothing : Holds job s idle
  its_address : (i : ℕ) → i < job.pages → s ≡ slot_of job i → Holds job s (address i)
  its_message : (i j : ℕ) → i < job.pages → j < job.words i → s ≡ slot_of job i + 1 + j → Holds job s (message i j)

-- demand 3 over the placement
pub record Placed (job : Job) : Type 0 where
  -- the k-th address keeps its bound, with the message codewords of the pages before it
  pub kth : (k i : ℕ) → i < job.pages → GoesOut (slot_of job) job.pages k i → slot_of job i ≤ 16 * k - 2 + earlier (slot_of job) job.pages job.words i
  -- for every k from 1 to n there is exactly one page that goes out k-th
  pub some : (k : ℕ) → 0 < k → k ≤ job.pages → (i : ℕ) × (i < job.pages) × GoesOut (slot_of job) job.pages k i
  pub one : (k i j : ℕ) → i < job.pages → j < job.pages → GoesOut (slot_of job) job.pages k i → GoesOut (slot_of job) job.pages k j → i ≡ j
  -- the batches keep theirs, one more than the sixteenth part of 16 n + m - 1
  pub few : batches job ≤ slot_bound job / 16 + 1
  -- the transmission can end with the last batch, and with no batch before it
  pub ended : ends_with job (batches job - 1) ≡ true
  pub soonest : (b : ℕ) → b + 1 < batches job → ends_with job b ≡ false
  -- every page goes out: its address in the reported slot, in its frame, and its message in the slots after it, all inside the batches
  pub sent : (i : ℕ) → i < job.pages → content_at job (slot_of job i) ≡ address i
  pub framed : (i : ℕ) → i < job.pages → frame_of (slot_of job i) ≡ job.frame i
  pub inside : (i : ℕ) → i < job.pages → slot_of job i + job.words i < 16 * batches job
  pub behind : (i j : ℕ) → i < job.pages → j < job.words i → content_at job (slot_of job i + 1 + j) ≡ message i j
  -- the pause (R-3): no page with a message starts in the slot directly behind another's message
  pub paused : (i j : ℕ) → i < job.pages → j < job.pages → 0 < job.words i → 0 < job.words j → slot_of job j ≡ slot_of job i + job.words i + 1 → ⊥
  -- and nothing else goes out
  pub only : (s : ℕ) → Holds job s (content_at job s)

-- what a sendable job takes at most: 300 batches, as many as a listing has, and so every slot is one of a sender state's, below 4,800
pub record Limits (frames words : List ℕ) : Type 0 where
  pub most : batches (job_of frames words) ≤ 300
  pub below : (s : ℕ) → s < 16 * batches (job_of frames words) → s < 4800
