-- R-4, a desk receiver for one identity: what the following program prints, beside what a reading program prints for the same standard
-- input. `desk` and `desk_sent` in proofs/Desk.antt prove it.
use Rattle.std.specs.Prelude.{◌≡◌, false, List, ℕ, ◌≤◌, length, Ok}
use Rattle.base.specs.Lines.{split}
use Rattle.job.specs.Submission.{Submission}
use Rattle.job.specs.Job.{job_of}
use Rattle.job.specs.Line.{is_reserved}
use Rattle.transmission.specs.Sending.{sendings_of}
use Rattle.transmission.specs.Transmission.{transmission_of}
use Rattle.listing.specs.Text.{text_of}
use Rattle.reader.specs.Answers.{read_listing, number_of}
use Rattle.follower.specs.SameLines.{lines_for}
use Rattle.program.specs.Prints.{read_prints, follow_prints}
use Rattle.guarantees.specs.Transport.{Received}
use Rattle.guarantees.specs.Demand2.{lines_in_order}
use Rattle.guarantees.specs.Programs.{ProgramCall, output}

-- an identity that a receiver can have
pub record Followable (i : ℕ) : Type 0 where
  pub range : i ≤ 0x1FFFFF
  pub free : is_reserved i ≡ false

-- a standard input that a reading program declines nothing of
pub record ReadWhole (s : List ℕ) : Type 0 where
  pub short : length s ≤ 65536
  pub whole : number_of (read_listing s 48000) ≡ 0

-- for such an identity, of what both programs print
pub record Desk (i : ℕ) (s : List ℕ) : Type 0 where
  -- the lines that the reading program prints for the identity, in the same order
  pub lines : (old left old' left' : List ℕ) (n n' : ℕ) → ProgramCall read_prints s old n left → ProgramCall (follow_prints i) s old' n' left' → ReadWhole s
      → output n' left' ≡ lines_for i (split (output n left))
  -- or the line of the same refusal
  pub declined : (old left old' left' : List ℕ) (n n' : ℕ) → ProgramCall read_prints s old n left → ProgramCall (follow_prints i) s old' n' left' → (ReadWhole s → ⊥)
      → output n' left' ≡ output n left

-- of an accepted job that was sent and received with at most two flips in each sync and each frame codeword: the lines of the identity's pages
-- in the order of their slots
abbrev pub DeskSent : Type 0
DeskSent =
    (s : Submission) (n : ℕ) → job_of s ≡ Ok n → (i : ℕ) → Followable i → (words old left : List ℕ) (m : ℕ)
    → Received 2 (transmission_of (sendings_of s)) words → ProgramCall (follow_prints i) (text_of words) old m left → output m left ≡ lines_for i (split (lines_in_order s))
