-- What following an identity answers, and what it leaves in the lent slice of bytes (document 02, R-4).
use Rattle.std.specs.Prelude.{cond, List, [], ℕ, ltb, length, Result, Ok, Err}
use Rattle.job.specs.Line.{is_reserved}
use Rattle.listing.specs.Words.{words_of}
use Rattle.reader.specs.Reading.{Hearing}
use Rattle.reader.specs.Lines.{lines_heard}
use Rattle.reader.specs.Answers as reading
use Rattle.reader.specs.Answers.{Verdict, judge_words, judge_listing}
use Rattle.reader.specs.declared.ReadError.TheVariants as read-error
use Rattle.follower.specs.Pages.{pages_for}
use Rattle.follower.specs.declared.Followed.{Followed}
use Rattle.follower.specs.declared.FollowError.{FollowError}
use Rattle.follower.specs.declared.FollowError.TheVariants.{IdentityRange, IdentityReserved, Unread, NoRoom}

-- the lines of pages, into room for so many bytes: number 10 where they are longer; else how many lines there are, and how many bytes
abbrev pub lines_into : List Hearing → ℕ → Result Followed FollowError
lines_into hs room = cond (ltb room (length (lines_heard hs))) (Err NoRoom) (Ok (record { lines = length hs; bytes = length (lines_heard hs) }))

-- whatever the reader declines is declined: numbers 21, 23 and 22
abbrev pub unless_faulty : Verdict → Result Followed FollowError → Result Followed FollowError
unless_faulty (Err why) r = Err (Unread why)
unless_faulty (Ok sound) r = r

-- the identity's own refusals come first: number 2 over 1FFFFF, then number 3 where it is reserved
unfoldable pub follow_judged : ℕ → Verdict → List ℕ → ℕ → Result Followed FollowError
follow_judged i v words room =
    cond (ltb 0x1FFFFF i) (Err IdentityRange)
    (cond (is_reserved i) (Err IdentityReserved)
    (unless_faulty v (lines_into (pages_for i words) room)))

-- following an identity through a slice of words: 2, 3, then 21, 23, 22, then 10
unfoldable pub follow_words : ℕ → List ℕ → ℕ → Result Followed FollowError
follow_words i words room = follow_judged i (judge_words words) words room

-- through a listing: 2, 3, then 21 or 23, then 22, then 10
unfoldable pub follow_listing : ℕ → List ℕ → ℕ → Result Followed FollowError
follow_listing i s room = follow_judged i (judge_listing s) (words_of s) room

-- what is written over the front of the bytes: the lines of these pages, or nothing where the call is declined
abbrev pub lines_of : Result Followed FollowError → List Hearing → List ℕ
lines_of (Ok f) hs = lines_heard hs
lines_of (Err why) hs = []

-- the values of an answer, zero where it is declined: how many lines, and how many bytes of them are written
abbrev pub lines_followed : Result Followed FollowError → ℕ
lines_followed (Ok f) = f.lines
lines_followed (Err why) = 0

abbrev pub bytes_followed : Result Followed FollowError → ℕ
bytes_followed (Ok f) = f.bytes
bytes_followed (Err why) = 0

-- the number of an answer in document 01's table, 0 where the identity is followed
abbrev pub number_of : Result Followed FollowError → ℕ
number_of (Ok f) = 0
number_of (Err IdentityRange) = 2
number_of (Err IdentityReserved) = 3
number_of (Err (Unread why)) = reading.number_of (Err (read-error.Fault why))
number_of (Err NoRoom) = 10

-- its place: 0, or as the reader has it
abbrev pub place_of : Result Followed FollowError → ℕ
place_of (Ok f) = 0
place_of (Err IdentityRange) = 0
place_of (Err IdentityReserved) = 0
place_of (Err (Unread why)) = reading.place_of (Err (read-error.Fault why))
place_of (Err NoRoom) = 0
