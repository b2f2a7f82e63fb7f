-- Which character number 6 names (request R-1). `first_bad` in proofs/FirstBad.antt proves it.
use Rattle.std.specs.Prelude.{ℕ, ◌+◌, ◌-◌, ◌≤◌, ◌<◌, ◌≡◌, List, true, false, length, get_or}
use Rattle.base.specs.Lines.{split, line_at}
use Rattle.text.specs.Coding.{char_ok}
use Rattle.job.specs.Line.{coding_of, kind_of, text_of}
use Rattle.job.specs.Submission.{Submission}
use Rattle.job.specs.Job.{job_of}
use Rattle.job.specs.Refusal.{job_number, job_place, job_position}

-- the first character of a text that the kind doesn't have, counted from 1
pub record FirstBad (kind : ℕ) (bytes : List ℕ) (position : ℕ) : Type 0 where
  pub inside : (1 ≤ position) × (position ≤ length bytes)
  pub bad : char_ok (coding_of kind) (get_or bytes (position - 1) 0) ≡ false
  pub before : (i : ℕ) → i + 1 < position → char_ok (coding_of kind) (get_or bytes i 0) ≡ true

-- a job declined by number 6: in the line that its place counts from 1
abbrev pub Positioned : Type 0
Positioned =
    (s : Submission) → job_number (job_of s) ≡ 6
    → (1 ≤ job_place (job_of s))
    × FirstBad (kind_of (line_at (job_place (job_of s) - 1) (split s.job))) (text_of (line_at (job_place (job_of s) - 1) (split s.job))) (job_position (job_of s))
