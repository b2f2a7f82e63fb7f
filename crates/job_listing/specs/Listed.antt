-- A job with its phrase book straight to its listing: what the call answers, and what it leaves in the lent slice of bytes.
use Rattle.job.specs.Refusal.{JobAnswer}
use Rattle.std.specs.Prelude.{ℕ, cond, List, [], length, ltb, Result, Ok, Err}
use Rattle.job.specs.Submission.{Submission}
use Rattle.job.specs.Job.{job_of}
use Rattle.job.specs.Refusal as refusal
use Rattle.listing.specs.Text.{text_of}
use Rattle.transmission.specs.Sending.{sendings_of}
use Rattle.transmission.specs.Transmission.{transmission_of}
use Rattle.transmission.specs.declared.SendError.{SendError}
use Rattle.transmission.specs.declared.SendError.TheVariants as unsent
use Rattle.job_listing.specs.declared.ListError.{ListError}
use Rattle.job_listing.specs.declared.ListError.TheVariants.{Job, NoRoom}

-- what listing a job answers: how many bytes are written, or why none are
abbrev pub Listed : Type 0
Listed = Result ℕ ListError

-- why the words of a job are not sent is why it is not listed
abbrev pub error_of : SendError → ListError
error_of (unsent.Job r) = Job r
error_of unsent.NoRoom = NoRoom

-- the listing of a job's transmission
abbrev pub listing_text : Submission → List ℕ
listing_text s = text_of (transmission_of (sendings_of s))

-- a text into room for so many bytes: number 10 where it is longer
abbrev pub written_into : ℕ → List ℕ → Listed
written_into room text = cond (ltb room (length text)) (Err NoRoom) (Ok (length text))

-- the job's own refusal comes first; then number 10
abbrev pub answered : JobAnswer → ℕ → List ℕ → Listed
answered (Err r) room text = Err (Job r)
answered (Ok n) room text = written_into room text

-- the answer to a job
unfoldable pub listed_of : Submission → ℕ → Listed
listed_of s room = answered (job_of s) room (listing_text s)

-- what is written over the front of the bytes: nothing where the job is declined
abbrev pub bytes_listed : Listed → List ℕ → List ℕ
bytes_listed (Ok n) text = text
bytes_listed (Err e) text = []

-- how many bytes the listing takes: none where the job is declined
abbrev pub count_listed : Listed → ℕ
count_listed (Ok n) = n
count_listed (Err e) = 0

-- the number of an answer in document 01's table, 0 where the listing is written
abbrev pub number_of : Listed → ℕ
number_of (Ok n) = 0
number_of (Err (Job r)) = refusal.number_of r.why
number_of (Err NoRoom) = 10

-- its place
abbrev pub place_of : Listed → ℕ
place_of (Ok n) = 0
place_of (Err (Job r)) = r.place
place_of (Err NoRoom) = 0

-- its second place: the position that number 6 has
abbrev pub position_of : Listed → ℕ
position_of (Ok n) = 0
position_of (Err (Job r)) = refusal.position_of r.why
position_of (Err NoRoom) = 0
