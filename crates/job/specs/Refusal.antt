-- The numbers and places of document 01's table and of requests R-1, R-6 and R-11, for each case of an answer.
use Rattle.std.specs.Prelude.{ℕ, Result, Bool, ◌||◌, eqb, Ok, Err}
use Rattle.base.specs.Hex.{between}
use Rattle.job.specs.declared.Refusal.{Refusal}
use Rattle.job.specs.declared.Refused.{Refused}
use Rattle.job.specs.declared.Refusal.TheVariants.{Malformed, IdentityRange, IdentityReserved, UnknownKind, PartialGroup, ToneWithText, TextMissing, TextTooLong, NoPhrase, Character, TrailingSpace, TooManyLines, EmptyJob, BadBook}

-- the number of a refusal; a text's length can be wrong in three ways
abbrev pub number_of : Refusal → ℕ
number_of Malformed = 1
number_of IdentityRange = 2
number_of IdentityReserved = 3
number_of UnknownKind = 4
number_of PartialGroup = 25
number_of ToneWithText = 12
number_of TextMissing = 13
number_of TextTooLong = 14
number_of NoPhrase = 18
number_of (Character position) = 6
number_of TrailingSpace = 7
number_of TooManyLines = 8
number_of EmptyJob = 9
number_of BadBook = 19

-- its second place: with number 6 the position of the first bad character, 0 with every other number
abbrev pub position_of : Refusal → ℕ
position_of Malformed = 0
position_of IdentityRange = 0
position_of IdentityReserved = 0
position_of UnknownKind = 0
position_of PartialGroup = 0
position_of ToneWithText = 0
position_of TextMissing = 0
position_of TextTooLong = 0
position_of NoPhrase = 0
position_of (Character position) = position
position_of TrailingSpace = 0
position_of TooManyLines = 0
position_of EmptyJob = 0
position_of BadBook = 0

-- the numbers that decline a job
abbrev pub declines_job : ℕ → Bool
declines_job n = between 1 4 n || (eqb n 25 || (between 12 14 n || (between 18 19 n || between 6 9 n)))

-- the answer to a job: how many pages it has, or why it is declined and where
abbrev pub JobAnswer : Type 0
JobAnswer = Result ℕ Refused

-- a declined one
abbrev pub refused : Refusal → ℕ → JobAnswer
refused why place = Err (record { why = why; place = place })

-- the number of a job's answer; 0 for an accepted job
abbrev pub job_number : JobAnswer → ℕ
job_number (Ok n) = 0
job_number (Err r) = number_of r.why

-- how many pages an accepted job has; 0 for a refused one
abbrev pub job_pages : JobAnswer → ℕ
job_pages (Ok n) = n
job_pages (Err r) = 0

-- the place of a job's answer; 0 for an accepted job
abbrev pub job_place : JobAnswer → ℕ
job_place (Ok n) = 0
job_place (Err r) = r.place

-- its second place; 0 for an accepted job
abbrev pub job_position : JobAnswer → ℕ
job_position (Ok n) = 0
job_position (Err r) = position_of r.why
