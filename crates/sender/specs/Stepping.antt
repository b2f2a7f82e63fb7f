-- Every list of steps, of whatever length, as calls (demand 3). `job_stepping` and `no_stepping` in proofs/Stepping.antt prove it.
use Rattle.job.specs.Refusal.{JobAnswer, refused}
use Rattle.std.specs.Prelude.{ℕ, ◌≤◌, ◌<◌, ◌≡◌, List, [], ◌∷◌, ◌++◌, map, length, get_or, take, replicate, Ok}
use Rattle.job.specs.Submission.{Submission}
use Rattle.job.specs.Job.{job_of}
use Rattle.job.specs.declared.Refusal.{Refusal}
use Rattle.transmission.specs.Sending.{sendings_of}
use Rattle.transmission.specs.Transmission.{transmission_of}
use Rattle.sender.specs.declared.Sender.{Sender}
use Rattle.sender.specs.declared.Started.{Started}
use Rattle.sender.specs.declared.Opening.{Opening}
use Rattle.sender.specs.declared.Stepped.{Stepped}
use Rattle.sender.specs.declared.Answer.{Answer}
use Rattle.sender.specs.declared.Answer.TheVariants.{Word, Done, Refused}
use Rattle.sender.specs.Answer.{number_of}
use Rattle.sender.specs.Step.{state_from, step_of}
use Rattle.sender.specs.Start.{opening_of, words_by, started_of}

-- ---- the calls, each by its promise

-- a start with the job and book s that answers a and gives the state t: `start` returns both; `start_with` returns all but the message
-- words, which it leaves where the caller keeps them
pub data StartCall (s : Submission) : JobAnswer → Sender → Type 0 where
  by_value : (r : Started) → r ≡ started_of s → StartCall s r.answer r.state
  in_place : (r : Opening) (old new : List ℕ) → r ≡ opening_of (started_of s) → new ≡ words_by (job_of s) (started_of s).state.words old
      → StartCall s r.answer (state_from r.pages r.sent r.cursor new)

-- a step that gets the state s, answers a and leaves the state t: `step` is lent the state; `step_owned` and `step_value` return both
pub data StepCall (s : Sender) : Answer → Sender → Type 0 where
  in_place : (a : Answer) (t : Sender) → a ≡ (step_of s).answer → t ≡ (step_of s).state → StepCall s a t
  by_value : (r : Stepped) → r ≡ step_of s → StepCall s r.answer r.state

-- a list of such calls from the state s on, each of which gets the state that the one before it left: all answers, and the state at the end
pub data Calls {A : Type 0} (Call : Sender → A → Sender → Type 0) : Sender → List A → Sender → Type 0 where
  none : (s : Sender) → Calls Call s [] s
  more : (s t u : Sender) (a : A) (given : List A) → Call s a t → Calls Call t given u → Calls Call s (a ∷ given) u

-- ---- what holds of them

-- of every list of steps from the state s on, where these are the card's words
pub record Stepping (words : List ℕ) (s : Sender) : Type 0 where
  -- there are such lists of every length
  pub every_length : (n : ℕ) → (given : List Answer) × (t : Sender) × (Calls StepCall s given t) × (length given ≡ n)
  -- the answers are the words from the first on, and then done for ever
  pub words_then_done : (given : List Answer) (t : Sender) → Calls StepCall s given t → given ≡ take (length given) (map Word words ++ replicate (length given) Done)
  -- none is declined
  pub none_declined : (given : List Answer) (t : Sender) → Calls StepCall s given t → (k : ℕ) → k < length given → number_of (get_or given k Refused) ≡ 0
  -- past the last word no step alters the state
  pub at_rest : (given : List Answer) (t : Sender) → Calls StepCall s given t → length words ≤ length given → (a : Answer) (u : Sender) → StepCall t a u → u ≡ t

-- of every start that accepts its job
abbrev pub JobStepping : Type 0
JobStepping = (s : Submission) (n : ℕ) (t : Sender) → StartCall s (Ok n) t → Stepping (transmission_of (sendings_of s)) t

-- of every refused job: each step from its state answers done and alters nothing
abbrev pub NoStepping : Type 0
NoStepping =
    (s : Submission) (why : Refusal) (place : ℕ) → job_of s ≡ refused why place
    → step_of (started_of s).state ≡ record { answer = Done; state = (started_of s).state }
