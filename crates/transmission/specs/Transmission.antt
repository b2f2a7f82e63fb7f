-- The card's words (document 01, "Placement"): the preamble, then each batch's sync and its 16 slots. `send` writes this list,
-- the steps give it, and a listing is it as text.
use Rattle.std.specs.Prelude.{ℕ, zero, suc, ◌+◌, ◌-◌, ◌*◌, ◌/◌, ◌%◌, cond, List, get_or, ltb}
use Rattle.base.specs.Lists.{tab}
use Rattle.codeword.specs.Code as code
use Rattle.codeword.specs.Code.{codeword, address_bits, message_bits}
use Rattle.placement.specs.Placement.{Job, Content, idle, address, message, content_at, batches}
use Rattle.transmission.specs.Sending.{Sending, sending_at, placement_of}

-- the codewords of a job's pages: page i's address, and its message codeword j
pub record Codewords : Type 0 where
  pub address : ℕ → ℕ
  pub message : ℕ → ℕ → ℕ

-- those of a sending: an address from identity and function, a message codeword from each group
abbrev pub address_of : Sending → ℕ
address_of x = codeword (address_bits x.identity x.function)

abbrev pub message_of : Sending → ℕ → ℕ
message_of x j = codeword (message_bits (get_or x.groups j 0))

-- those of sendings
abbrev pub codewords_of : List Sending → Codewords
codewords_of xs = record { address = λ i. address_of (sending_at xs i); message = λ i j. message_of (sending_at xs i) j }

-- the codeword of what a slot holds
unfoldable pub codeword_in : Codewords → Content → ℕ
codeword_in c idle = code.idle
codeword_in c (address i) = c.address i
codeword_in c (message i j) = c.message i j

-- a word of the preamble
abbrev pub preamble : ℕ
preamble = 0xAAAAAAAA

-- word r of batch q: sync, then the 16 slots
unfoldable pub batch_word : Codewords → Job → ℕ → ℕ → ℕ
batch_word c job q zero = code.sync
batch_word c job q (suc r) = codeword_in c (content_at job (16 * q + r))

-- word k: 18 words of preamble, then batches of 17
unfoldable pub word_at : Codewords → Job → ℕ → ℕ
word_at c job k = cond (ltb k 18) preamble (batch_word c job ((k - 18) / 17) ((k - 18) % 17))

-- how many words: 18 plus 17 a batch
abbrev pub word_count : Job → ℕ
word_count job = 18 + 17 * batches job

-- the transmission
unfoldable pub transmission : Codewords → Job → List ℕ
transmission c job = tab (word_at c job) (word_count job)

-- the transmission of sendings
abbrev pub transmission_of : List Sending → List ℕ
transmission_of xs = transmission (codewords_of xs) (placement_of xs)
