-- A page as it is sent: the one record of it for the whole library. What is text becomes groups here; placement and codewords know
-- nothing of lines and texts.
use Rattle.std.specs.Prelude.{ℕ, ◌%◌, ◌^◌, ◌≤◌, ◌<◌, ◌≡◌, false, List, [], map, length, get_or}
use Rattle.job.specs.Line.{is_reserved, function_of, kind_sent}
use Rattle.job.specs.Message.{groups_from}
use Rattle.job.specs.Submission.{Submission}
use Rattle.job.specs.Pages.{pages_of, digits_in}
use Rattle.job.specs.declared.Page.{Page}
use Rattle.placement.specs.Placement as placement
use Rattle.placement.specs.Placement.{Job}

-- identity, function, and the 20-bit groups of its message: none for a tone
pub record Sending : Type 0 where
  pub identity : ℕ
  pub function : ℕ
  pub groups : List ℕ

-- what an identity, a kind and the digits of a text are sent as
abbrev pub sending_from : ℕ → ℕ → List ℕ → Sending
sending_from identity kind digits = record { identity = identity; function = function_of kind; groups = groups_from kind digits }

-- a page of a job as it is sent
abbrev pub sending_of : Submission → Page → Sending
sending_of s p = sending_from p.identity (kind_sent p.kind) (digits_in s p)

-- the sendings of a job, in job order
unfoldable pub sendings_of : Submission → List Sending
sendings_of s = map (sending_of s) (pages_of s)

-- the sending at an index; an empty one where there is none
abbrev pub no_sending : Sending
no_sending = record { identity = 0; function = 0; groups = [] }

abbrev pub sending_at : List Sending → ℕ → Sending
sending_at xs i = get_or xs i no_sending

-- what the placement needs of them: a frame, the remainder of the identity by 8, and a message codeword for each group
abbrev pub frames_of : List Sending → List ℕ
frames_of xs = map (λ (x : Sending). x.identity % 8) xs

abbrev pub counts_of : List Sending → List ℕ
counts_of xs = map (λ (x : Sending). length x.groups) xs

abbrev pub placement_of : List Sending → Job
placement_of xs = placement.job_of (frames_of xs) (counts_of xs)

-- what a sending of an accepted job has: 21 bits of identity, not reserved; two bits of function; at most 84 groups of 20 bits
pub record Allowed (x : Sending) : Type 0 where
  pub in_range : x.identity < 2 ^ 21
  pub free : is_reserved x.identity ≡ false
  pub two_bits : x.function < 4
  pub brief : length x.groups ≤ 84
  pub small : (j : ℕ) → get_or x.groups j 0 < 2 ^ 20

-- the sendings of an accepted job: 1 to 48, each allowed. `accepted_sendings` in proofs/Sendings.antt proves it
pub record AllAllowed (xs : List Sending) : Type 0 where
  pub least : 1 ≤ length xs
  pub most : length xs ≤ 48
  pub each : (i : ℕ) → i < length xs → Allowed (sending_at xs i)
