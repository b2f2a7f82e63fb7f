-- What the numbers, places and values of this crate's answers settle. `line_settled` and `job_settled` in proofs/Settled.antt prove it.
use Rattle.std.specs.Prelude.{ℕ, ◌≤◌, ◌<◌, ◌≡◌, true, List, length}
use Rattle.job.specs.Submission.{Submission}
use Rattle.job.specs.Job.{job_of}
use Rattle.job.specs.Print.{printing_of, bytes_printed, number_of, place_of}
use Rattle.job.specs.Refusal.{declines_job, job_number, job_place, job_position, job_pages}

-- a line into room for so many bytes: number 10 exactly where the line is longer, and then no byte of it is written, else all
pub record LineSettled (room : ℕ) (line : List ℕ) : Type 0 where
  pub short : room < length line → (number_of (printing_of room line) ≡ 10) × (bytes_printed (printing_of room line) ≡ 0)
  pub whole : length line ≤ room → (number_of (printing_of room line) ≡ 0) × (bytes_printed (printing_of room line) ≡ length line)
  pub unplaced : place_of (printing_of room line) ≡ 0

-- a job has at most 48 pages, and none where it is refused; an accepted one has no place, and at most 48 lines of 490 bytes
pub record JobSettled (s : Submission) : Type 0 where
  pub short : job_number (job_of s) ≡ 0 → length s.job ≤ 23520
  pub few : job_pages (job_of s) ≤ 48
  pub none : (job_number (job_of s) ≡ 0 → ⊥) → job_pages (job_of s) ≡ 0
  pub unplaced : job_number (job_of s) ≡ 0 → job_place (job_of s) ≡ 0
  -- it is declined by a job's own numbers, and only number 6 has a second place
  pub own : (job_number (job_of s) ≡ 0 → ⊥) → declines_job (job_number (job_of s)) ≡ true
  pub only_6 : (job_number (job_of s) ≡ 6 → ⊥) → job_position (job_of s) ≡ 0
