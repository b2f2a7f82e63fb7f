-- What one step answers, and the state that it leaves, for every state (document 01, "Placement" and number 11). What a slot holds and
-- when all is out are the placement's own rules, over the state as the placement sees it (`job_in`, `view_of`).
use Rattle.std.specs.Prelude.{ℕ, ◌+◌, ◌-◌, ◌%◌, Bool, false, not, cond, ◌&&◌, ◌||◌, List, ltb, leb, eqb, get_or, set}
use Rattle.base.specs.Search.{least}
use Rattle.codeword.specs.Code as code
use Rattle.placement.specs.Placement.{Job, State, Content, idle, address, message, out, all_out}
use Rattle.transmission.specs.Transmission.{Codewords, codeword_in, preamble}
use Rattle.sender.specs.declared.Cursor.{Cursor}
use Rattle.sender.specs.declared.PageTable.{PageTable}
use Rattle.sender.specs.declared.Sender.{Sender}
use Rattle.sender.specs.declared.Stepped.{Stepped}
use Rattle.sender.specs.declared.Answer.TheVariants.{Word, Done, Refused}

-- ---- flags: 0 is false, and any other number true

abbrev pub is_set : ℕ → Bool
is_set x = not (eqb x 0)

abbrev pub flag_of : Bool → ℕ
flag_of b = cond b 1 0

-- ---- number 11

-- a frame over 7, or message words ending beyond 4,032
abbrev pub page_wrong : ℕ → ℕ → ℕ → Bool
page_wrong frame start count = ltb 7 frame || ltb 4032 (start + count)

-- the same of page i
unfoldable pub wrong_at : PageTable → ℕ → Bool
wrong_at p i = page_wrong (get_or p.frames i 0) (get_or p.starts i 0) (get_or p.lengths i 0)

-- a running page that is not counted, or a running word that its page doesn't have
unfoldable pub run_wrong : PageTable → Cursor → Bool
run_wrong p c = is_set c.running && (leb p.count c.page || leb (get_or p.lengths c.page 0) c.word)

-- over 48 pages; one that is counted and wrong; a running page or word that there is not; or a slot over 4,800
unfoldable pub declined : PageTable → Cursor → Bool
declined p c =
    ltb 48 p.count
    || (ltb (least (wrong_at p) p.count) p.count
    || (run_wrong p c
    || ltb 4800 c.slot))

-- ---- the state as the placement and the transmission see it

-- the job
abbrev pub job_in : PageTable → Job
job_in p = record { pages = p.count; frame = λ i. get_or p.frames i 0; words = λ i. get_or p.lengths i 0 }

-- how many message codewords of the page sent last are still to go out
abbrev pub left_of : PageTable → Cursor → ℕ
left_of p c = cond (is_set c.running) (get_or p.lengths c.page 0 - c.word) 0

-- the state before the slot, which is a pause where the last one held a message codeword and none is left
abbrev pub view_of : PageTable → List ℕ → Cursor → State
view_of p sent c = record { sent = sent; page = c.page; left = left_of p c; pause = is_set c.message }

-- the codewords
abbrev pub codewords_in : PageTable → List ℕ → Codewords
codewords_in p words = record { address = λ i. get_or p.addresses i 0; message = λ i j. get_or words (get_or p.starts i 0 + j) 0 }

-- ---- a slot

-- what it holds
unfoldable pub holds : PageTable → List ℕ → Cursor → Content
holds p sent c = out (job_in p) c.slot (view_of p sent c)

-- the cursor after idle
abbrev pub after_idle : Cursor → Cursor
after_idle c = record { slot = c.slot + 1; page = c.page; word = c.word; preamble = c.preamble; synced = 0; running = c.running; message = 0 }

-- after the address of page k, whose message then runs
abbrev pub after_address : PageTable → Cursor → ℕ → Cursor
after_address p c k =
    record { slot = c.slot + 1; page = k; word = 0; preamble = c.preamble; synced = 0; running = flag_of (ltb 0 (get_or p.lengths k 0)); message = 0 }

-- after the running message's next codeword
abbrev pub after_message : PageTable → Cursor → Cursor
after_message p c =
    record {
      slot = c.slot + 1;
      page = c.page;
      word = c.word + 1;
      preamble = c.preamble;
      synced = 0;
      running = flag_of (ltb (c.word + 1) (get_or p.lengths c.page 0));
      message = 1;
    }

-- the state of these pages, flags, cursor and message words
abbrev pub state_from : PageTable → List ℕ → Cursor → List ℕ → Sender
state_from p sent c words = record { cursor = c; pages = p; sent = sent; words = words }

-- the state with another cursor
abbrev pub moved : Sender → Cursor → Sender
moved s c = state_from s.pages s.sent c s.words

-- the state that a slot leaves, by what it held
unfoldable pub leaves : Sender → Content → Sender
leaves s idle = moved s (after_idle s.cursor)
leaves s (address k) = state_from s.pages (set s.sent k 1) (after_address s.pages s.cursor k) s.words
leaves s (message i j) = moved s (after_message s.pages s.cursor)

-- the codeword of what a slot holds
abbrev pub sends : Sender → Content → Stepped
sends s x = record { answer = Word (codeword_in (codewords_in s.pages s.words) x); state = leaves s x }

unfoldable pub in_slot : Sender → Stepped
in_slot s = sends s (holds s.pages s.sent s.cursor)

-- ---- a batch

-- a batch begins, and its sync is not out yet
unfoldable pub sync_due : Cursor → Bool
sync_due c = cond (is_set c.synced) false (eqb (c.slot % 16) 0)

-- all is out, and the last slot held no message codeword
unfoldable pub finished : PageTable → List ℕ → Cursor → Bool
finished p sent c = cond (is_set c.message) false (all_out (job_in p) (view_of p sent c))

-- the cursor after sync
abbrev pub after_sync : Cursor → Cursor
after_sync c = record { slot = c.slot; page = c.page; word = c.word; preamble = c.preamble; synced = 1; running = c.running; message = c.message }

-- before a batch: done, which alters nothing, or sync; then its slots
unfoldable pub in_batch : Sender → Stepped
in_batch s =
    cond (sync_due s.cursor)
    (cond (finished s.pages s.sent s.cursor) (record { answer = Done; state = s }) (record { answer = Word code.sync; state = moved s (after_sync s.cursor) }))
    (in_slot s)

-- ---- the preamble

-- the cursor after a word of it
abbrev pub after_preamble : Cursor → Cursor
after_preamble c =
    record { slot = c.slot; page = c.page; word = c.word; preamble = c.preamble - 1; synced = c.synced; running = c.running; message = c.message }

-- a word of the preamble while some are left; then the batches
unfoldable pub from_sound : Sender → Stepped
from_sound s = cond (is_set s.cursor.preamble) (record { answer = Word preamble; state = moved s (after_preamble s.cursor) }) (in_batch s)

-- ---- the step: number 11, which alters nothing, or a word or done

unfoldable pub step_of : Sender → Stepped
step_of s = cond (declined s.pages s.cursor) (record { answer = Refused; state = s }) (from_sound s)
