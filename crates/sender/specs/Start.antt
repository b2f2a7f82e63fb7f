-- What starting a job answers, and the state from which its steps go (document 01, "Placement").
use Rattle.job.specs.Refusal.{JobAnswer}
use Rattle.std.specs.Prelude.{ℕ, List, [], ◌∷◌, ◌++◌, map, length, take, replicate, Ok, Err}
use Rattle.base.specs.Lists.{tab, padded}
use Rattle.job.specs.Submission.{Submission}
use Rattle.job.specs.Job.{job_of}
use Rattle.transmission.specs.Sending.{Sending, sendings_of, frames_of, counts_of}
use Rattle.transmission.specs.Transmission.{address_of, message_of}
use Rattle.sender.specs.declared.Cursor.{Cursor}
use Rattle.sender.specs.declared.PageTable.{PageTable}
use Rattle.sender.specs.declared.Sender.{Sender}
use Rattle.sender.specs.declared.Started.{Started}
use Rattle.sender.specs.declared.Opening.{Opening}
use Rattle.sender.specs.Step.{state_from}

-- the message codewords of a sending, one from each group
abbrev pub messages_of : Sending → List ℕ
messages_of x = tab (message_of x) (length x.groups)

-- the message codewords of all sendings, page after page
unfoldable pub words_of : List Sending → List ℕ
words_of [] = []
words_of (x ∷ xs) = messages_of x ++ words_of xs

-- where those of page i start: behind those of the pages before it
unfoldable pub start_at : List Sending → ℕ → ℕ
start_at xs i = length (words_of (take i xs))

-- the table of the pages
unfoldable pub pages_from : List Sending → PageTable
pages_from xs =
    record {
      count = length xs;
      addresses = padded 48 (map address_of xs);
      starts = padded 48 (tab (start_at xs) (length xs));
      lengths = padded 48 (counts_of xs);
      frames = padded 48 (frames_of xs);
    }

-- before the first of n words of a preamble
abbrev pub cursor_at : ℕ → Cursor
cursor_at n = record { slot = 0; page = 0; word = 0; preamble = n; synced = 0; running = 0; message = 0 }

-- before the first step
abbrev pub at_first : Cursor
at_first = cursor_at 18

-- the state before the first step: no page is sent
abbrev pub begun : PageTable → List ℕ → Sender
begun p words = state_from p (replicate 48 0) at_first words

-- the state that sendings give
unfoldable pub start_of : List Sending → Sender
start_of xs = begun (pages_from xs) (padded 4032 (words_of xs))

-- a table of no pages
abbrev pub no_pages : PageTable
no_pages = record { count = 0; addresses = replicate 48 0; starts = replicate 48 0; lengths = replicate 48 0; frames = replicate 48 0 }

-- the state that a refused job gives: all zeros, from which each step answers done
unfoldable pub no_state : Sender
no_state = state_from no_pages (replicate 48 0) (cursor_at 0) (replicate 4032 0)

-- the state by a job's answer
abbrev pub state_by : JobAnswer → List Sending → Sender
state_by (Ok n) xs = start_of xs
state_by (Err r) xs = no_state

-- what starting a job answers: what reading it answers, and the state
unfoldable pub started_of : Submission → Started
started_of s = record { answer = job_of s; state = state_by (job_of s) (sendings_of s) }

-- the same without the message words
abbrev pub opening_of : Started → Opening
opening_of s = record { answer = s.answer; cursor = s.state.cursor; pages = s.state.pages; sent = s.state.sent }

-- the message words that the caller keeps, by a job's answer: the job's own, or the old ones
abbrev pub words_by : JobAnswer → List ℕ → List ℕ → List ℕ
words_by (Ok n) new old = new
words_by (Err r) new old = old
