-- The claim about every list of steps: `stepping` of all sendings that an accepted job can have, and `job_stepping` of every
-- start that accepts its job. Assumes nothing.
use Prim.Native.Nat.{ℕ, zero, suc, ◌≤◌, ◌<◌, zero-le, suc-le-suc}
use mathlib.Core.Path.{◌≡◌, refl, sym, ap, ap₂, ◌∙◌}
use mathlib.Core.Logic.{⊎_elim}
use mathlib.Core.List.{List, [], ◌∷◌, ◌++◌, map}
use native.Mathlib.Nat.{not-suc-le-zero, le_of_suc-le-suc, le_refl}
use native.Mathlib.Omega.{arith}
use lib.ListN.{length, get_or, take, replicate}
use Rattle.job.specs.Refusal.{JobAnswer}
use Rattle.std.specs.Prelude.{Ok}
use Rattle.base.specs.Search.{least}
use Rattle.base.specs.Lists.{tab, padded}
use Rattle.base.proofs.ListLaws.{map-tab, tab-at}
use Rattle.base.proofs.SearchLaws.{le_or_lt}
use Rattle.job.specs.Submission.{Submission}
use Rattle.job.specs.Job.{job_of}
use Rattle.placement.specs.Placement.{all_out}
use Rattle.transmission.specs.Sending.{Sending, sendings_of, placement_of, AllAllowed}
use Rattle.transmission.specs.Transmission.{codewords_of, word_at, word_count, transmission, transmission_of}
use Rattle.transmission.proofs.Sendings.{accepted_sendings}
use Rattle.transmission.proofs.TransmissionLaws.{transmission_length}
use Rattle.sender.specs.declared.Sender.{Sender}
use Rattle.sender.specs.declared.Started.{Started}
use Rattle.sender.specs.declared.Opening.{Opening}
use Rattle.sender.specs.declared.Stepped.{Stepped}
use Rattle.sender.specs.declared.Answer.{Answer}
use Rattle.sender.specs.declared.Answer.TheVariants.{Word, Done, Refused}
use Rattle.sender.specs.Answer.{number_of}
use Rattle.sender.specs.Step.{run_wrong, declined, sync_due, finished, in_batch, from_sound, state_from, step_of}
use Rattle.sender.specs.Start.{words_of, pages_from, start_of, no_state, state_by, started_of, words_by}
use Rattle.sender.specs.Stepping.{StartCall, by_value, in_place, StepCall, Calls, none, more, Stepping, JobStepping, NoStepping}
use Rattle.sender.proofs.Begun.{fit_of, word_is, count_is}
use Rattle.sender.proofs.Iterated.{after, gives_word, past_end}

-- ---- the calls

-- both kinds of step do what the definition says
step_is : (s : Sender) (a : Answer) (t : Sender) → StepCall s a t → (a ≡ (step_of s).answer) × (t ≡ (step_of s).state)
step_is s a t (in_place _ _ e f) = (e, f)
step_is s a t (by_value r e) = (ap (λ (x : Stepped). x.answer) e, ap (λ (x : Stepped). x.state) e)

-- the answers of a list of steps by their number, and the state at its end
listed : (s : Sender) (given : List Answer) (t : Sender) → Calls StepCall s given t
    → (given ≡ tab (λ k. (step_of (after k s)).answer) (length given)) × (t ≡ after (length given) s)
unfolding tab after
listed s given t (none _) = (refl, refl)
listed s given u (more _ t _ a bs c cs) =
    let h = step_is s a t c in
    let r : (bs ≡ tab (λ k. (step_of (after k (step_of s).state)).answer) (length bs)) × (u ≡ after (length bs) (step_of s).state) =
    rw h.1 at (listed t bs u cs) in
    (ap₂ (λ (x : Answer) (l : List Answer). x ∷ l) h.0 r.0, r.1)

-- there are lists of steps of every length
some_list : (s : Sender) (n : ℕ) → (given : List Answer) × (t : Sender) × (Calls StepCall s given t) × (length given ≡ n)
some_list s zero = ([], s, none s, refl)
some_list s (suc n) =
    let z = step_of s in
    let r = some_list z.state n in
    (z.answer ∷ r.0, r.1, more s z.state r.1 z.answer r.0 (by_value z refl) r.2, ap suc r.3)

-- a start answers the job, and where it accepts it, gives the state of its sendings
pub start_is : (s : Submission) (a : JobAnswer) (t : Sender) → StartCall s a t → (a ≡ job_of s) × ((n : ℕ) → job_of s ≡ Ok n → t ≡ start_of (sendings_of s))
unfolding started_of
start_is s a t (by_value r e) =
    (ap (λ (x : Started). x.answer) e, λ n ok. ap (λ (x : Started). x.state) e ∙ ap (λ (x : JobAnswer). state_by x (sendings_of s)) ok)
start_is s a t (in_place r old new e f) = (
  ap (λ (x : Opening). x.answer) e,
  λ n ok.
      ap₂ (λ (x : Opening) (words : List ℕ). state_from x.pages x.sent x.cursor words) e f
      ∙ ap (λ (x : JobAnswer). let z = state_by x (sendings_of s) in state_from z.pages z.sent z.cursor (words_by x z.words old)) ok,
)

-- ---- the answers

-- what is w below m, and d from m on, begins with w 0 .. w (m - 1)
firsts : {A : Type 0} (f w : ℕ → A) (d : A) (m n r : ℕ) → n ≤ r → ((k : ℕ) → k < m → f k ≡ w k) → ((k : ℕ) → m ≤ k → f k ≡ d)
    → tab f n ≡ take n (tab w m ++ replicate r d)
unfolding tab
firsts f w d m zero r l h g = refl
firsts f w d zero (suc n) zero l h g = absurd (not-suc-le-zero l)
firsts f w d zero (suc n) (suc r) l h g =
    rw (g 0 zero-le, firsts (λ k. f (suc k)) w d zero n r (le_of_suc-le-suc l) (λ k q. absurd (not-suc-le-zero q)) (λ k q. g (suc k) zero-le))
firsts f w d (suc m) (suc n) r l h g =
    rw (
      h 0 (suc-le-suc zero-le),
      firsts (λ k. f (suc k)) (λ k. w (suc k)) d m n r (omega arith) (λ k q. h (suc k) (suc-le-suc q)) (λ k q. g (suc k) (suc-le-suc q)),
    )

module _ (xs : List Sending) (a : AllAllowed xs) where
  abbrev start : Sender
  start = start_of xs

  abbrev total : ℕ
  total = word_count (placement_of xs)

  word : (k : ℕ) → k < total → (step_of (after k start)).answer ≡ Word (word_at (codewords_of xs) (placement_of xs) k)
  unfolding start_of
  word k l = gives_word (pages_from xs) (padded 4032 (words_of xs)) (fit_of xs a) k (omega (arith, count_is xs a)) ∙ ap Word (word_is xs a k)

  rest : (k : ℕ) → total ≤ k → ((step_of (after k start)).answer ≡ Done) × ((step_of (after k start)).state ≡ after k start)
  unfolding start_of
  rest k l = past_end (pages_from xs) (padded 4032 (words_of xs)) (fit_of xs a) k (omega (arith, count_is xs a))

  module _ (given : List Answer) (t : Sender) (calls : Calls StepCall start given t) where
    all_answers : given ≡ take (length given) (map Word (transmission_of xs) ++ replicate (length given) Done)
    unfolding transmission
    all_answers =
        (listed start given t calls).0
        ∙ firsts (λ k. (step_of (after k start)).answer) (λ k. Word (word_at (codewords_of xs) (placement_of xs) k)) Done total (length given) (length given) (le_refl (length given))
        word (λ k l. (rest k l).0)
        ∙ ap (λ (l : List Answer). take (length given) (l ++ replicate (length given) Done)) (sym (map-tab Word (word_at (codewords_of xs) (placement_of xs)) total))

    answer_at : (k : ℕ) → k < length given → get_or given k Refused ≡ (step_of (after k start)).answer
    answer_at k l =
        ap (λ (x : List Answer). get_or x k Refused) (listed start given t calls).0 ∙ tab-at (λ j. (step_of (after j start)).answer) (length given) k Refused l

    answered : (k : ℕ) → k < length given → number_of (get_or given k Refused) ≡ 0
    answered k l =
        ap number_of (answer_at k l)
        ∙ ⊎_elim (λ h. ap number_of (rest k h).0) (λ h. ap number_of (word k h)) (le_or_lt total k)

    rests : length (transmission_of xs) ≤ length given → (a : Answer) (u : Sender) → StepCall t a u → u ≡ t
    rests l a u c =
        let e : t ≡ after (length given) start = (listed start given t calls).1 in
        (step_is t a u c).1
        ∙ ap (λ (x : Sender). (step_of x).state) e
        ∙ (rest (length given) (omega (arith, transmission_length (codewords_of xs) (placement_of xs)))).1
        ∙ sym e

  pub stepping : Stepping (transmission_of xs) (start_of xs)
  stepping = record { every_length = some_list (start_of xs); words_then_done = all_answers; none_declined = answered; at_rest = λ given t calls l. rests given t calls (omega arith) }

pub job_stepping : JobStepping
job_stepping s n t c =
    let r = start_is s (Ok n) t c in
    let ok : job_of s ≡ Ok n = sym r.0 in
    rw (r.1 n ok) (stepping (sendings_of s) (accepted_sendings s n ok))

-- the state of a refused job is at rest
none_steps : step_of no_state ≡ record { answer = Done; state = no_state }
unfolding no_state step_of declined run_wrong least from_sound in_batch sync_due finished all_out
none_steps = refl

pub no_stepping : NoStepping
unfolding started_of
no_stepping s why place ok = rw ok none_steps
