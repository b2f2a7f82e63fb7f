-- The library's answers as C has them: numbers only. A number is that of document 01's table, 0 where nothing is declined; a place is its
-- place, and a position its second place (request R-1).
use Rattle.std.specs.Prelude.{ℕ, Option, Result, Ok, Err, ⊤}
use Rattle.codeword.specs.Answer as correction
use Rattle.codeword.specs.declared.Corrected.{Corrected}
use Rattle.job.specs.Refusal.{job_number, job_place, job_position, JobAnswer}
use Rattle.transmission.specs.Report as report
use Rattle.transmission.specs.Report.{Report}
use Rattle.job_listing.specs.Listed as listed
use Rattle.job_listing.specs.Listed.{Listed}
use Rattle.reader.specs.Answers as reading
use Rattle.reader.specs.Answers.{Reading}
use Rattle.follower.specs.Answers as following
use Rattle.follower.specs.declared.Followed.{Followed}
use Rattle.follower.specs.declared.FollowError.{FollowError}
use Rattle.receiver.specs.Answers as receiving
use Rattle.receiver.specs.declared.Refusal as receiver
use Rattle.receiver.specs.declared.Totals.{Totals}
use Rattle.coverage.specs.Report as covering
use Rattle.coverage.specs.declared.AddError.{AddError}
use Rattle.sender.specs.Answer as step
use Rattle.sender.specs.declared.Answer.{Answer}
use Rattle.sender.specs.declared.Sender.{Sender}
use Rattle.card.specs.declared.CardWord.{CardWord}
use Rattle.card.specs.declared.CardReport.{CardReport}
use Rattle.card.specs.declared.CardBytes.{CardBytes}
use Rattle.card.specs.declared.CardReading.{CardReading}
use Rattle.card.specs.declared.CardFollowing.{CardFollowing}
use Rattle.card.specs.declared.CardReceiving.{CardReceiving}
use Rattle.card.specs.declared.CardRefusal.{CardRefusal}
use Rattle.card.specs.declared.CardStep.{CardStep}

-- a word's answer
abbrev pub word_for : ℕ → Option Corrected → CardWord
word_for w a = record { word = correction.word_read w a; number = correction.number_of a; changed = correction.changed_of a }

-- a job's report; the counts of a declined one are zero
abbrev pub report_for : Report → CardReport
report_for r =
    record {
      place = report.place_of r;
      position = report.position_of r;
      number = report.number_of r;
      batches = report.batches_of r;
      words = report.words_of r;
    }

-- a listing's answer
abbrev pub bytes_for : Listed → CardBytes
bytes_for a = record { place = listed.place_of a; position = listed.position_of a; bytes = listed.count_listed a; number = listed.number_of a }

-- a reading's answer
abbrev pub reading_for : Reading → CardReading
reading_for r =
    record {
      place = reading.place_of r;
      bytes = reading.bytes_read r;
      number = reading.number_of r;
      pages = reading.pages_read r;
      lost = reading.lost_read r;
      orphans = reading.orphans_read r;
      changed = reading.changed_read r;
    }

-- the answer of a following
abbrev pub following_for : Result Followed FollowError → CardFollowing
following_for r =
    record { place = following.place_of r; bytes = following.bytes_followed r; number = following.number_of r; lines = following.lines_followed r }

-- the answer of a receiving
abbrev pub receiving_for : Result Totals receiver.Refusal → CardReceiving
receiving_for r =
    let t = receiving.totals_received r in
    record {
      place = receiving.place_of r;
      bytes = t.bytes;
      number = receiving.number_of r;
      batches = t.batches;
      pages = t.pages;
      lost = t.lost;
      orphans = t.orphans;
      changed = t.changed;
    }

-- the answer to a listing that is added to a report; it has no position
abbrev pub adding_for : Result ⊤ AddError → CardRefusal
adding_for a = record { place = covering.place_of a; position = 0; number = covering.number_of a }

-- the answer to a job whose sending is to start
abbrev pub refusal_for : JobAnswer → CardRefusal
refusal_for a = record { place = job_place a; position = job_position a; number = job_number a }

-- the caller's state once a job is started: the job's own, or as it was where the job is declined
abbrev pub state_for : JobAnswer → Sender → Sender → Sender
state_for (Ok n) new old = new
state_for (Err r) new old = old

-- a step's answer
abbrev pub step_for : Answer → CardStep
step_for a = record { word = step.word_said a; done = step.done_said a; number = step.number_of a }
