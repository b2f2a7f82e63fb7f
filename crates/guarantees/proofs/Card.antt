-- Demand 3 of the calls for C: each is a call of the library with its answer as numbers. Assumes nothing.
use mathlib.Core.Path.{◌≡◌, refl, sym, ap, ap₂, ◌∙◌}
use mathlib.Core.List.{List, [], ◌∷◌, ◌++◌, map}
use Prim.Native.Nat.{ℕ, zero, suc}
use native.Mathlib.Omega.{arith}
use lib.ListN.{length, take, replicate, length-map}
use Rattle.job.specs.Refusal.{JobAnswer}
use Rattle.std.specs.Prelude.{Ok, Err}
use Rattle.base.specs.Lists.{over}
use Rattle.job.specs.Submission.{Submission}
use Rattle.transmission.specs.Sending.{sendings_of}
use Rattle.transmission.specs.Transmission.{transmission_of}
use Rattle.transmission.specs.Report.{Report, sent, report_of, words_sent, slots_sent}
use Rattle.transmission.specs.declared.SendError.TheVariants.{Job, NoRoom}
use Rattle.sender.specs.declared.Sender.{Sender}
use Rattle.sender.specs.declared.Answer.{Answer}
use Rattle.sender.specs.declared.Answer.TheVariants.{Word, Done}
use Rattle.sender.specs.Step.{step_of}
use Rattle.sender.specs.Start.{started_of}
use Rattle.sender.specs.Stepping.{StartCall, by_value, StepCall, in_place, Calls, none, more, Stepping}
use Rattle.sender.proofs.Stepping.{job_stepping}
use Rattle.card.specs.Answers.{report_for, refusal_for, state_for, step_for}
use Rattle.card.specs.declared.CardReport.{CardReport}
use Rattle.card.specs.declared.CardRefusal.{CardRefusal}
use Rattle.card.specs.declared.CardStep.{CardStep}
use Rattle.guarantees.specs.Demand3.{Call}
use Rattle.guarantees.specs.Card.{CardSend, CardStart, CardStepCall, word_told, done_told, CardStepping, CardDemand3}
use Rattle.job.proofs.RefusalLaws.{refused_not}
use Rattle.guarantees.proofs.Demand3.{demand3}

-- ---- sending

-- number 0 is given for a report alone
by_number : (a : Report) → (report_for a).number ≡ 0 → a ≡ sent (report_for a).batches (report_for a).words
by_number (Ok t) e = refl
by_number (Err (Job r)) e = absurd (refused_not 0 refl r.why e)
by_number (Err NoRoom) e = absurd (omega arith)

as_call : (s : Submission) (w₀ t₀ w t : List ℕ) (r : CardReport) → CardSend s w₀ t₀ r w t → r.number ≡ 0 → Call s w₀ t₀ (sent r.batches r.words) w t
as_call s w₀ t₀ w t r call e =
    let a = report_of s (length w₀) (length t₀) in
    let is : a ≡ sent r.batches r.words =
    by_number a (ap (λ (x : CardReport). x.number) (sym call.answer) ∙ e) ∙ ap (λ (x : CardReport). sent x.batches x.words) (sym call.answer) in
    record {
      answer = sym is;
      words = call.words ∙ ap (λ (x : Report). over w₀ (words_sent x (sendings_of s))) is;
      slots = call.slots ∙ ap (λ (x : Report). over t₀ (slots_sent x (sendings_of s))) is;
    }

-- ---- starting

-- number 0 is given for an accepted job alone, and the state is then the job's own
accepted : (a : JobAnswer) (new old : Sender) → (refusal_for a).number ≡ 0 → (n : ℕ) × (a ≡ Ok n) × (state_for a new old ≡ new)
accepted (Ok n) new old e = (n, refl, refl)
accepted (Err r) new old e = absurd (refused_not 0 refl r.why e)

as_start : (s : Submission) (old : Sender) (r : CardRefusal) (u : Sender) → CardStart s old r u → r.number ≡ 0
    → (n : ℕ) × StartCall s (Ok n) u
as_start s old r u call e =
    let z = started_of s in
    let x = accepted z.answer z.state old (ap (λ (y : CardRefusal). y.number) (sym call.answer) ∙ e) in
    let c : StartCall s z.answer z.state = by_value z refl in
    let is : u ≡ z.state = call.state ∙ x.2 in
    (x.0, rw (is, ← x.1) c)

-- ---- the steps

-- a list of steps for C is one of the library's, with its answers as numbers
as_steps : (s : Sender) (given : List CardStep) (t : Sender) → Calls CardStepCall s given t
    → (answers : List Answer) × (Calls StepCall s answers t) × (given ≡ map step_for answers)
as_steps s given t (none _) = ([], none s, refl)
as_steps s given u (more _ t _ a rest c cs) =
    let r = as_steps t rest u cs in
    let first : StepCall s (step_of s).answer t = in_place (step_of s).answer t refl c.state in
    ((step_of s).answer ∷ r.0, more s t u (step_of s).answer r.0 first r.1, ap₂ (λ (x : CardStep) (l : List CardStep). x ∷ l) c.answer r.2)

-- words and then done, as numbers
told : (words : List ℕ) (n m : ℕ) → map step_for (take n (map Word words ++ replicate m Done)) ≡ take n (map word_told words ++ replicate m done_told)
told words zero m = refl
told [] (suc n) zero = refl
told [] (suc n) (suc m) = ap (λ (l : List CardStep). done_told ∷ l) (told [] n m)
told (w ∷ words) (suc n) m = ap (λ (l : List CardStep). word_told w ∷ l) (told words n m)

some_list : (s : Sender) (n : ℕ) → (given : List CardStep) × (t : Sender) × (Calls CardStepCall s given t) × (length given ≡ n)
some_list s zero = ([], s, none s, refl)
some_list s (suc n) =
    let r = some_list (step_of s).state n in
    let a = step_for (step_of s).answer in
    (a ∷ r.0, r.1, more s (step_of s).state r.1 a r.0 (record { answer = refl; state = refl }) r.2, ap suc r.3)

card_stepping : (words : List ℕ) (s : Sender) → Stepping words s → CardStepping words s
card_stepping words s h =
    record {
      every_length = some_list s;
      words_then_done = λ given t calls.
          let r = as_steps s given t calls in
          let n : length r.0 ≡ length given = sym (ap length r.2 ∙ length-map r.0 step_for) in
          r.2 ∙ ap (map step_for) (h.words_then_done r.0 t r.1) ∙ told words (length r.0) (length r.0) ∙ rw n;
      at_rest = λ given t calls l a u c.
          let r = as_steps s given t calls in
          let n : length r.0 ≡ length given = sym (ap length r.2 ∙ length-map r.0 step_for) in
          h.at_rest r.0 t r.1 (omega arith) (step_of t).answer u (in_place (step_of t).answer u refl c.state);
    }

pub card_demand3 : (s : Submission) → CardDemand3 s
card_demand3 s =
    record {
      sending = λ w₀ t₀ w t r call e. (demand3 s).sending w₀ t₀ w t r.batches r.words (as_call s w₀ t₀ w t r call e);
      stepping = λ old r u call e.
          let x = as_start s old r u call e in
          card_stepping (transmission_of (sendings_of s)) u (job_stepping s x.0 u x.1);
    }
