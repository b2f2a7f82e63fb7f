-- `card::card_start` meets its contract. Assumes nothing.
use mathlib.Core.Path.{◌≡◌, sym, ap, ◌∙◌}
use mathlib.Core.List.{List}
use Prim.Native.Nat.{ℕ}
use Rattle.std.specs.Prelude.{Ok, Err}
use Rattle.job.specs.Submission.{Submission, with_book}
use Rattle.job.specs.Job.{job_of}
use Rattle.job.specs.Refusal.{JobAnswer}
use Rattle.job.specs.declared.Refused.{Refused}
use Rattle.sender.specs.declared.Opening.{Opening}
use Rattle.sender.specs.declared.Sender.{Sender}
use Rattle.sender.specs.Step.{state_from}
use Rattle.sender.specs.Start.{opening_of, words_by, started_of}
use Rattle.card.specs.declared.CardRefusal.{CardRefusal}
use Rattle.card.specs.Answers.{refusal_for, state_for}
use Rattle.card.proofs.card_start.Goals as goal

-- what is answered where the job opens as o and its message words are then `words`, over a state that was old
module _ (s : Submission) (old : Sender) {o : Opening} {words : List ℕ} (e : o ≡ opening_of (started_of s)) (w : words ≡ words_by (job_of s) (started_of s).state.words old.words) where
  refusal : {c : CardRefusal} → c ≡ refusal_for o.answer → c ≡ refusal_for (started_of s).answer
  refusal f = f ∙ ap (λ (x : Opening). refusal_for x.answer) e

  answer : (a : JobAnswer) → o.answer ≡ a → (started_of s).answer ≡ a
  answer a t = sym (ap (λ (x : Opening). x.answer) e) ∙ t

  then_words : (a : JobAnswer) → o.answer ≡ a → words ≡ words_by a (started_of s).state.words old.words
  unfolding started_of
  then_words a t = w ∙ ap (λ (x : JobAnswer). words_by x (started_of s).state.words old.words) (answer a t)

  accepts : (n : ℕ) → o.answer ≡ Ok n → state_from o.pages o.sent o.cursor words ≡ state_for (started_of s).answer (started_of s).state old
  accepts n t =
      (λ i. state_from (e i).pages (e i).sent (e i).cursor (then_words (Ok n) t i))
      ∙ ap (λ (x : JobAnswer). state_for x (started_of s).state old) (sym (answer (Ok n) t))

  declines : {r : Refused} → o.answer ≡ Err r → state_from old.pages old.sent old.cursor words ≡ state_for (started_of s).answer (started_of s).state old
  declines {r} t =
      (λ i. state_from old.pages old.sent old.cursor (then_words (Err r) t i))
      ∙ ap (λ (x : JobAnswer). state_for x (started_of s).state old) (sym (answer (Err r) t))

pub returns-in_default : goal.returns-in_default
returns-in_default c =
    let a = c.args in
    let o = c.start_with-answer.ensures in
    let s = with_book a.job.now a.book.now in
    let old = a.state.now in (
      refusal s old o.value o.words_after c.from-refusal.ensures,
      declines s old o.value o.words_after c.in_default.is,
    )

pub returns : goal.returns
returns c =
    let a = c.args in
    let o = c.start_with-answer.ensures in
    let s = with_book a.job.now a.book.now in
    let old = a.state.now in (
      refusal s old o.value o.words_after c.from-refusal.ensures,
      accepts s old o.value o.words_after _ c.in-Ok.is,
    )
