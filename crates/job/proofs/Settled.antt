-- What the answers settle, case by case. Assumes nothing.
use Prim.Native.Nat.{ℕ, ◌≤◌}
use mathlib.Core.Path.{◌≡◌, refl}
use mathlib.Core.Bool.{true}
use mathlib.Core.List.{List}
use native.Mathlib.Omega.{arith}
use lib.ListN.{length}
use borrow.Author.Tests.{lt-ltb, le-ltb}
use Rattle.std.specs.Prelude.{Ok, Err}
use Rattle.job.specs.Submission.{Submission}
use Rattle.job.specs.Job.{job_of}
use Rattle.job.specs.Refusal.{declines_job, job_number, job_place, job_position, job_pages, JobAnswer}
use Rattle.job.specs.Settled.{LineSettled, JobSettled}
use Rattle.job.proofs.Accepted.{accepted_short, accepted_job}
use Rattle.job.proofs.RefusalLaws.{refused_number, refused_not, refused_position}

pub line_settled : (room : ℕ) (line : List ℕ) → LineSettled room line
line_settled room line = record {
  short = λ h. let e = lt-ltb room (length line) h in (rw e, rw e);
  whole = λ h. let e = le-ltb room (length line) h in (rw e, rw e);
  unplaced = refl;
}

few_by : (s : Submission) (a : JobAnswer) → job_of s ≡ a → job_pages a ≤ 48
few_by s (Ok n) e = (accepted_job s n e).most
few_by s (Err r) e = omega arith

short_by : (s : Submission) (a : JobAnswer) → job_of s ≡ a → job_number a ≡ 0 → length s.job ≤ 23520
short_by s (Ok n) e z = accepted_short s n e
short_by s (Err r) e z = absurd (refused_not 0 refl r.why z)

none_by : (a : JobAnswer) → (job_number a ≡ 0 → ⊥) → job_pages a ≡ 0
none_by (Ok n) h = absurd (h refl)
none_by (Err r) h = refl

unplaced_by : (a : JobAnswer) → job_number a ≡ 0 → job_place a ≡ 0
unplaced_by (Ok n) h = refl
unplaced_by (Err r) h = absurd (refused_not 0 refl r.why h)

own_by : (a : JobAnswer) → (job_number a ≡ 0 → ⊥) → declines_job (job_number a) ≡ true
own_by (Ok n) h = absurd (h refl)
own_by (Err r) h = refused_number r.why

only_by : (a : JobAnswer) → (job_number a ≡ 6 → ⊥) → job_position a ≡ 0
only_by (Ok n) h = refl
only_by (Err r) h = refused_position r.why h

pub job_settled : (s : Submission) → JobSettled s
job_settled s = record {
  short = short_by s (job_of s) refl;
  few = few_by s (job_of s) refl;
  none = none_by (job_of s);
  unplaced = unplaced_by (job_of s);
  own = own_by (job_of s);
  only_6 = only_by (job_of s);
}
