-- An accepted job is one that number 10 alone may keep from being sent. Assumes nothing.
use mathlib.Core.Path.{◌≡◌, refl}
use mathlib.Core.Bool.{Bool, true, false, cond, ◌||◌}
use mathlib.Core.List.{List}
use mathlib.Core.Logic.{⊎_elim, inl, inr}
use Prim.Native.Nat.{ℕ, ◌≤◌}
use native.Mathlib.Omega.{arith}
use lib.ListN.{length}
use lib.Dec.{ltb}
use borrow.Author.Tests.{le-ltb}
use Rattle.job.specs.Refusal.{JobAnswer}
use Rattle.std.specs.Prelude.{Ok, Err}
use Rattle.job.specs.Submission.{Submission}
use Rattle.job.specs.Job.{job_of}
use Rattle.job.proofs.RefusalLaws.{refused_not}
use Rattle.placement.specs.Placement.{batches}
use Rattle.transmission.specs.Sending.{Sending, sendings_of, placement_of}
use Rattle.transmission.specs.Transmission.{word_count}
use Rattle.transmission.specs.Report.{Report, sent, answered, report_of, number_of}
use Rattle.transmission.specs.declared.SendError.TheVariants.{Job, NoRoom}
use Rattle.transmission.proofs.ReportLaws.{report_accepted}
use Rattle.transmission.proofs.Sendings.{accepted_sendings, sendings_limits}
use Rattle.sender.proofs.Stepping.{start_is}
use Rattle.guarantees.specs.Demand3.{OnlyRoom, Acceptance}

by_number : (a : JobAnswer) (xs : List Sending) (words slots : ℕ) → OnlyRoom (answered a xs words slots) → (n : ℕ) × (a ≡ Ok n)
by_number (Ok n) xs words slots h = (n, refl)
by_number (Err r) xs words slots h =
    absurd (⊎_elim (refused_not 0 refl r.why) (refused_not 10 refl r.why) h)

by_room : (short : Bool) (b m : ℕ) → OnlyRoom (cond short (Err NoRoom) (sent b m))
by_room true b m = inr refl
by_room false b m = inl refl

by_report : (r : Report) → number_of r ≡ 0 → (b : ℕ) × (m : ℕ) × (r ≡ sent b m)
by_report (Ok t) e = (t.batches, t.words, refl)
by_report (Err (Job r)) e = absurd (refused_not 0 refl r.why e)
by_report (Err NoRoom) e = absurd (omega arith)

module _ (s : Submission) where
  accepted_only : (words slots : ℕ) → OnlyRoom (report_of s words slots) → (n : ℕ) × (job_of s ≡ Ok n)
  unfolding report_of
  accepted_only words slots h = by_number (job_of s) (sendings_of s) words slots h

  module _ (n : ℕ) (ok : job_of s ≡ Ok n) (words slots : ℕ) where
    only_room : OnlyRoom (report_of s words slots)
    only_room =
        let job = placement_of (sendings_of s) in
        rw (← report_accepted s words slots ok)
        (by_room (ltb words (word_count job) || ltb slots (length (sendings_of s))) (batches job) (word_count job))

    room_enough : 5118 ≤ words → 48 ≤ slots → number_of (report_of s words slots) ≡ 0
    room_enough h l =
        let a = accepted_sendings s n ok in
        let limit = (sendings_limits a).most in
        let most = a.most in
        rw (
          ← report_accepted s words slots ok,
          le-ltb words (word_count (placement_of (sendings_of s))) (omega arith),
          le-ltb slots (length (sendings_of s)) (omega arith),
        )

  pub acceptance : Acceptance s
  acceptance =
      record {
        accepted = accepted_only;
        undeclined = only_room;
        reports = λ words slots. by_report (report_of s words slots);
        enough = λ n ok words slots h l. room_enough n ok words slots (omega arith) (omega arith);
        started = λ a t c. (start_is s a t c).0;
      }
