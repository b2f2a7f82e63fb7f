-- A job's report by the answer that reading it gave. Assumes nothing.
use Prim.Native.Nat.{ℕ}
use mathlib.Core.Path.{◌≡◌, refl, sym, ap, ◌∙◌}
use mathlib.Core.List.{List}
use Rattle.job.specs.Refusal.{JobAnswer}
use Rattle.std.specs.Prelude.{Ok, Err}
use Rattle.job.specs.Submission.{Submission}
use Rattle.job.specs.Job.{job_of, reading_of}
use Rattle.job.specs.declared.Refused.{Refused}
use Rattle.job.specs.declared.Pages.{Pages}
use Rattle.job.proofs.Accepted.{answered}
use Rattle.transmission.specs.Sending.{Sending, sendings_of}
use Rattle.transmission.specs.Report.{Report, sent_into, report_of, number_of, Nothing}
use Rattle.transmission.specs.declared.SendError.TheVariants.{Job, NoRoom}

pub read_answer : (s : Submission) {pages : Pages} {a : JobAnswer} → pages ≡ reading_of s → pages.answer ≡ a → job_of s ≡ a
read_answer s e q = sym (answered s) ∙ ap (λ (p : Pages). p.answer) (sym e) ∙ q

module _ (s : Submission) (words slots : ℕ) where
  pub report_declined : {r : Refused} → job_of s ≡ Err r → Err (Job r) ≡ report_of s words slots
  unfolding report_of
  report_declined e = rw e

  pub report_accepted : {n : ℕ} → job_of s ≡ Ok n → sent_into (sendings_of s) words slots ≡ report_of s words slots
  unfolding report_of
  report_accepted e = rw e

-- a report whose number isn't 0 says that nothing is written
pub declined : (r : Report) (xs : List Sending) → (number_of r ≡ 0 → ⊥) → Nothing r xs
declined (Ok t) xs f = absurd (f refl)
declined (Err (Job r)) xs f = record { words = refl; slots = refl; no_batches = refl; no_words = refl }
declined (Err NoRoom) xs f = record { words = refl; slots = refl; no_batches = refl; no_words = refl }
