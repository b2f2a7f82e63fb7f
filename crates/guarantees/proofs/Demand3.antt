-- Demand 3 of every job: `demand3` proves the record of specs/Demand3.antt. Assumes nothing.
use mathlib.Core.Path.{sym}
use lib.ListN.{length}
use Rattle.sender.proofs.Stepping.{job_stepping}
use Rattle.job.specs.Submission.{Submission}
use Rattle.guarantees.specs.Demand3.{Demand3}
use Rattle.guarantees.proofs.Reported.{reported}
use Rattle.guarantees.proofs.Acceptance.{acceptance}
use Rattle.guarantees.proofs.Carried.{carried}

pub demand3 : (s : Submission) → Demand3 s
demand3 s =
    record {
      acceptance = acceptance s;
      sending = λ w₀ t₀ w t b m call.
          let r = reported s (length w₀) (length t₀) (sym call.answer) in
          (r.pages, r.accepted, carried s r.pages r.accepted w₀ t₀ w t b m call);
      stepping = job_stepping s;
    }
