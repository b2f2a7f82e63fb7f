-- How much room a listing takes at most.
use Rattle.std.specs.Prelude.{◌≡◌, ℕ, ◌≤◌}
use Rattle.job.specs.Submission.{Submission}
use Rattle.job.specs.Job.{job_of}
use Rattle.job.specs.Refusal.{job_number, job_place, job_position}
use Rattle.job_listing.specs.Listed.{listed_of, number_of, place_of, position_of}

-- 46,062 bytes, nine for each of 5,118 words, suffice for the listing of every job: into so much room the answer has the job's own number
-- and places. `enough` in proofs/RoomLaws.antt proves it
abbrev pub Enough : Type 0
Enough =
    (s : Submission) (room : ℕ) → 46062 ≤ room
    → (number_of (listed_of s room) ≡ job_number (job_of s)) × (place_of (listed_of s room) ≡ job_place (job_of s)) × (position_of (listed_of s room) ≡ job_position (job_of s))
