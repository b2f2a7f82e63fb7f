-- What sending a job answers, and what it leaves in the two lent slices.
use Rattle.job.specs.Refusal.{JobAnswer}
use Rattle.std.specs.Prelude.{ℕ, Result, ◌≡◌, cond, ◌||◌, List, [], length, ltb, Ok, Err}
use Rattle.job.specs.Submission.{Submission}
use Rattle.job.specs.Job.{job_of}
use Rattle.job.specs.Refusal as refusal
use Rattle.placement.specs.Placement.{batches, slots}
use Rattle.transmission.specs.Sending.{Sending, sendings_of, placement_of}
use Rattle.transmission.specs.Transmission.{word_count, transmission_of}
use Rattle.transmission.specs.declared.Sent.{Sent}
use Rattle.transmission.specs.declared.SendError.{SendError}
use Rattle.transmission.specs.declared.SendError.TheVariants.{Job, NoRoom}

-- a report: what is sent, or why nothing is
abbrev pub Report : Type 0
Report = Result Sent SendError

-- that of so many batches and words
abbrev pub sent : ℕ → ℕ → Report
sent batches words = Ok (record { batches = batches; words = words })

-- sendings into room for so many words and so many slots: number 10 where either slice is shorter than the answer
abbrev pub sent_into : List Sending → ℕ → ℕ → Report
sent_into xs words slots =
    cond (ltb words (word_count (placement_of xs)) || ltb slots (length xs)) (Err NoRoom)
    (sent (batches (placement_of xs)) (word_count (placement_of xs)))

-- the job's own refusal comes first; then number 10
abbrev pub answered : JobAnswer → List Sending → ℕ → ℕ → Report
answered (Err r) xs words slots = Err (Job r)
answered (Ok n) xs words slots = sent_into xs words slots

-- the report of a job
unfoldable pub report_of : Submission → ℕ → ℕ → Report
report_of s words slots = answered (job_of s) (sendings_of s) words slots

-- what is written over the front of the words, and of the slots: nothing where the job is declined
abbrev pub words_sent : Report → List Sending → List ℕ
words_sent (Ok t) xs = transmission_of xs
words_sent (Err e) xs = []

abbrev pub slots_sent : Report → List Sending → List ℕ
slots_sent (Ok t) xs = slots (placement_of xs)
slots_sent (Err e) xs = []

-- the number of a report in document 01's table, 0 where the job is sent
abbrev pub number_of : Report → ℕ
number_of (Ok t) = 0
number_of (Err (Job r)) = refusal.number_of r.why
number_of (Err NoRoom) = 10

-- its place
abbrev pub place_of : Report → ℕ
place_of (Ok t) = 0
place_of (Err (Job r)) = r.place
place_of (Err NoRoom) = 0

-- its second place: the position that number 6 has
abbrev pub position_of : Report → ℕ
position_of (Ok t) = 0
position_of (Err (Job r)) = refusal.position_of r.why
position_of (Err NoRoom) = 0

-- its number of batches and of words: zero where the job is declined
abbrev pub batches_of : Report → ℕ
batches_of (Ok t) = t.batches
batches_of (Err e) = 0

abbrev pub words_of : Report → ℕ
words_of (Ok t) = t.words
words_of (Err e) = 0

-- a declined call: nothing is written, and the counts are zero. `declined` in proofs/ReportLaws.antt proves it where the number isn't 0
pub record Nothing (r : Report) (xs : List Sending) : Type 0 where
  pub words : words_sent r xs ≡ []
  pub slots : slots_sent r xs ≡ []
  pub no_batches : batches_of r ≡ 0
  pub no_words : words_of r ≡ 0
