-- Demand 3 of the calls for C: `card_send`, `card_start` and `card_step`. `card_demand3` in proofs/Card.antt proves it of every job.
use Rattle.std.specs.Prelude.{◌≡◌, List, ◌++◌, map, ℕ, ◌≤◌, length, take, replicate, Ok}
use Rattle.base.specs.Lists.{over}
use Rattle.job.specs.Submission.{Submission}
use Rattle.job.specs.Job.{job_of}
use Rattle.transmission.specs.Sending.{sendings_of}
use Rattle.transmission.specs.Transmission.{transmission_of}
use Rattle.transmission.specs.Report.{report_of, words_sent, slots_sent}
use Rattle.sender.specs.declared.Sender.{Sender}
use Rattle.sender.specs.Step.{step_of}
use Rattle.sender.specs.Start.{started_of}
use Rattle.sender.specs.Stepping.{Calls}
use Rattle.card.specs.Answers.{report_for, refusal_for, state_for, step_for}
use Rattle.card.specs.declared.CardReport.{CardReport}
use Rattle.card.specs.declared.CardRefusal.{CardRefusal}
use Rattle.card.specs.declared.CardStep.{CardStep}
use Rattle.guarantees.specs.Demand3.{Carried}

-- ---- the calls, each by its promises

-- with the job s, lent words that held w₀ and slots that held t₀, `card_send` answers r and leaves w and t
pub record CardSend (s : Submission) (w₀ t₀ : List ℕ) (r : CardReport) (w t : List ℕ) : Type 0 where
  pub answer : r ≡ report_for (report_of s (length w₀) (length t₀))
  pub words : w ≡ over w₀ (words_sent (report_of s (length w₀) (length t₀)) (sendings_of s))
  pub slots : t ≡ over t₀ (slots_sent (report_of s (length w₀) (length t₀)) (sendings_of s))

-- with the job s, lent a state that was `old`, `card_start` answers r and leaves t
pub record CardStart (s : Submission) (old : Sender) (r : CardRefusal) (t : Sender) : Type 0 where
  pub answer : r ≡ refusal_for (started_of s).answer
  pub state : t ≡ state_for (started_of s).answer (started_of s).state old

-- lent the state s, `card_step` answers a and leaves t
pub record CardStepCall (s : Sender) (a : CardStep) (t : Sender) : Type 0 where
  pub answer : a ≡ step_for (step_of s).answer
  pub state : t ≡ (step_of s).state

-- ---- what holds of them

-- what C is told: a word; and done
abbrev pub word_told : ℕ → CardStep
word_told w = record { word = w; done = 0; number = 0 }

abbrev pub done_told : CardStep
done_told = record { word = 0; done = 1; number = 0 }

-- of every list of steps from the state s on, where these are the card's words
pub record CardStepping (words : List ℕ) (s : Sender) : Type 0 where
  -- there are such lists of every length
  pub every_length : (n : ℕ) → (given : List CardStep) × (t : Sender) × (Calls CardStepCall s given t) × (length given ≡ n)
  -- the answers are the words from the first on, and then done for ever; so none is declined
  pub words_then_done : (given : List CardStep) (t : Sender) → Calls CardStepCall s given t
      → given ≡ take (length given) (map word_told words ++ replicate (length given) done_told)
  -- past the last word no step alters the state
  pub at_rest : (given : List CardStep) (t : Sender) → Calls CardStepCall s given t → length words ≤ length given
      → (a : CardStep) (u : Sender) → CardStepCall t a u → u ≡ t

pub record CardDemand3 (s : Submission) : Type 0 where
  -- every call of `card_send` that declines nothing
  pub sending : (w₀ t₀ w t : List ℕ) (r : CardReport) → CardSend s w₀ t₀ r w t → r.number ≡ 0
      → (n : ℕ) × (job_of s ≡ Ok n) × Carried s n r.batches r.words w t
  -- every list of steps from the state that a start leaves which declines nothing
  pub stepping : (old : Sender) (r : CardRefusal) (u : Sender) → CardStart s old r u → r.number ≡ 0
      → CardStepping (transmission_of (sendings_of s)) u
