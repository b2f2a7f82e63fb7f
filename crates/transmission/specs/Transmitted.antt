-- Demand 3 over the words of a transmission: where document 01 says each codeword stands. `transmitted` in proofs/Transmitted.antt proves it.
use Rattle.std.specs.Prelude.{◌≡◌, Bool, true, not, cond, ◌&&◌, ℕ, ◌+◌, ◌-◌, ◌*◌, ◌/◌, ◌%◌, ◌^◌, ◌≤◌, ◌<◌, eqb, ltb}
use Rattle.base.specs.Search.{sum}
use Rattle.codeword.specs.Code as code
use Rattle.placement.specs.Placement.{Job, batches, slot_of}
use Rattle.placement.specs.Promise.{earlier}
use Rattle.transmission.specs.Transmission.{Codewords, word_at, word_count}

-- slot s is word 19 + 17 q + r, where s = 16 q + r and r is under 16
abbrev pub slot_index : ℕ → ℕ
slot_index s = 19 + 17 * (s / 16) + s % 16

abbrev pub slot_word : Codewords → Job → ℕ → ℕ
slot_word c job s = word_at c job (slot_index s)

-- a slot's word is an address: its bit 1 is 0, and it isn't idle
abbrev pub is_address : ℕ → Bool
is_address w = ltb w (2 ^ 31) && not (eqb w code.idle)

-- how many of the slots before slot s hold an address, by the word of each slot
abbrev pub addresses_to : (ℕ → ℕ) → ℕ → ℕ
addresses_to word s = sum (λ p. cond (is_address (word p)) 1 0) s

-- what the codewords of an accepted job are: an address has bit 1 clear and is neither idle nor sync, a message codeword has bit 1 set
pub record Coded (job : Job) (c : Codewords) : Type 0 where
  pub clear : (i : ℕ) → i < job.pages → c.address i < 2 ^ 31
  pub not_idle : (i : ℕ) → i < job.pages → c.address i ≡ code.idle → ⊥
  pub not_sync : (i : ℕ) → i < job.pages → c.address i ≡ code.sync → ⊥
  pub set : (i j : ℕ) → i < job.pages → j < job.words i → 2 ^ 31 ≤ c.message i j

pub record Transmitted (job : Job) (c : Codewords) : Type 0 where
  -- the slots whose word is an address are the reported ones, and in each stands its page's address
  pub reported : (s : ℕ) → is_address (slot_word c job s) ≡ true → (i : ℕ) × (i < job.pages) × (s ≡ slot_of job i)
  pub its_address : (i : ℕ) → i < job.pages → (slot_word c job (slot_of job i) ≡ c.address i) × (is_address (slot_word c job (slot_of job i)) ≡ true)
  -- before it stand as many addresses as pages go out before this one
  pub in_turn : (i : ℕ) → i < job.pages → addresses_to (slot_word c job) (slot_of job i) ≡ earlier (slot_of job) job.pages (λ _. 1) i
  -- directly behind it stand the page's message codewords
  pub its_message : (i j : ℕ) → i < job.pages → j < job.words i → slot_word c job (slot_of job i + 1 + j) ≡ c.message i j
  -- and every slot that is neither is idle
  pub others : (s : ℕ) → ((i j : ℕ) → i < job.pages → j ≤ job.words i → s ≡ slot_of job i + j → ⊥) → slot_word c job s ≡ code.idle
  -- the last slot's word is no message codeword; of every batch before the last, the last slot's is one, or a page's codewords stand behind it
  pub closed : slot_word c job (16 * batches job - 1) < 2 ^ 31
  pub needed : (q : ℕ) → q + 1 < batches job → slot_word c job (16 * q + 15) < 2 ^ 31
      → (i : ℕ) × (i < job.pages) × (16 * q + 16 ≤ slot_of job i + job.words i)
  -- as many words equal to sync as there are batches
  pub syncs : sum (λ k. cond (eqb (word_at c job k) code.sync) 1 0) (word_count job) ≡ batches job
