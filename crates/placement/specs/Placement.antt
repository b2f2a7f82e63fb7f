-- Which slot holds what: document 01, "Placement", with the pause after a message (R-3). Slots are numbered from 0 through all batches,
-- without the sync words. Each has a content and a state before it, by recursion on its number. The number of batches is the least with
-- which the transmission can end, looked for up to demand 3's bound; the theorem `Placed` (specs/Promise.antt) says that one is always
-- found.
use Rattle.std.specs.Prelude.{Bool, true, false, not, cond, ◌&&◌, ◌||◌, List, [], ◌∷◌, Option, Some, None, ℕ, zero, suc, pred, ◌+◌, ◌-◌, ◌*◌, ◌/◌, ◌%◌, ◌<◌, get_or, set, replicate, length, eqb, leb, ltb}
use Rattle.base.specs.Lists.{tab}
use Rattle.base.specs.Search.{least, sum}

-- ---- the job

-- what the placement needs of a job: how many pages it has, and of page i, from 0 in job order, the frame and the number of message codewords
pub record Job : Type 0 where
  pub pages : ℕ
  pub frame : ℕ → ℕ
  pub words : ℕ → ℕ

-- every page's frame is one of the eight: an identity's low three bits
abbrev pub Framed : Job → Type 0
Framed job = (i : ℕ) → i < job.pages → job.frame i < 8

-- demand 3's m: the message codewords of all pages
abbrev pub messages : Job → ℕ
messages job = sum job.words job.pages

-- a job as the code has it, by two lists: the pages' frames, and their numbers of message codewords
abbrev pub job_of : List ℕ → List ℕ → Job
job_of frames words = record { pages = length frames; frame = λ i. get_or frames i 0; words = λ i. get_or words i 0 }

-- each frame is one of the eight
unfoldable pub all_framed : List ℕ → Bool
all_framed [] = true
all_framed (f ∷ frames) = ltb f 8 && all_framed frames

-- a job that can be sent, as every accepted one can: a number of message codewords for each frame, at most 48 pages (number 8), frames 0
-- to 7, and at most 4,032 message codewords, which is 84 a page
unfoldable pub is_sendable : List ℕ → List ℕ → Bool
is_sendable frames words =
    eqb (length words) (length frames) && leb (length frames) 48 && all_framed frames && leb (messages (job_of frames words)) 4032

-- the slot from which on all is out, for n pages and m message codewords: one more than its sixteenth part is demand 3's bound on batches
abbrev pub slot_bound : Job → ℕ
slot_bound job = 16 * job.pages + messages job - 1

-- ---- one slot

-- The state before a slot. `sent` marks each page: 0 while it is unsent, and then one more than the slot of its address.
-- `page` is the page that was sent last, and `left` how many of its message codewords are still to go out. `pause` says that the slot
-- before held a message codeword: where none is left, this slot is the pause after the message.
pub record State : Type 0 where
  pub sent : List ℕ
  pub page : ℕ
  pub left : ℕ
  pub pause : Bool

-- what a slot holds: idle, the address of page i, or message codeword j of page i, counted from 0
pub data Content : Type 0 where
  idle : Content
  address : ℕ → Content
  message : ℕ → ℕ → Content

-- the frame of a slot: each batch has 16 slots, two to a frame
abbrev pub frame_of : ℕ → ℕ
frame_of s = s % 16 / 2

-- the rule which page may start in slot s, by the page's mark, its frame and its number of message codewords, and by whether s is a
-- pause: one that is unsent, in a slot of its own frame, and in a pause only a tone, which has no message codewords
unfoldable pub may_start : ℕ → ℕ → ℕ → Bool → ℕ → Bool
may_start mark frame words pause s = eqb mark 0 && eqb frame (frame_of s) && (not pause || eqb words 0)

-- page i of the job may start in slot s
unfoldable pub ready : Job → ℕ → State → ℕ → Bool
ready job s st i = may_start (get_or st.sent i 0) (job.frame i) (job.words i) st.pause s

-- of the pages that may start, the first in job order; the number of pages where there is none
unfoldable pub first : Job → ℕ → State → ℕ
first job s st = least (ready job s st) job.pages

-- what slot s holds, by how many message codewords are left: a message that runs goes on; else a page starts, if one may
unfoldable pub out_of : Job → ℕ → State → ℕ → Content
out_of job s st (suc l) = message st.page (job.words st.page - suc l)
out_of job s st zero = cond (ltb (first job s st) job.pages) (address (first job s st)) idle

-- what slot s holds in a state
unfoldable pub out : Job → ℕ → State → Content
out job s st = out_of job s st st.left

-- the state before slot 0: no page is sent
abbrev pub fresh : Job → State
fresh job = record { sent = replicate job.pages 0; page = 0; left = 0; pause = false }

-- the state after an idle slot
abbrev pub rested : State → State
rested st = record { sent = st.sent; page = st.page; left = st.left; pause = false }

-- the state after the address of page i in slot s: the page is sent, and its message, if it has one, runs
abbrev pub started : Job → ℕ → State → ℕ → State
started job s st i = record { sent = set st.sent i (suc s); page = i; left = job.words i; pause = false }

-- the state after a message codeword: one less is left, and what follows the last is a pause
abbrev pub ran : State → State
ran st = record { sent = st.sent; page = st.page; left = st.left - 1; pause = true }

-- the state after slot s, by what the slot held
unfoldable pub after : Job → ℕ → State → Content → State
after job s st idle = rested st
after job s st (address i) = started job s st i
after job s st (message i j) = ran st

-- the state after slot s
unfoldable pub next : Job → ℕ → State → State
next job s st = after job s st (out job s st)

-- ---- all slots in turn

-- the state before slot s
unfoldable pub state_at : Job → ℕ → State
state_at job zero = fresh job
state_at job (suc s) = next job s (state_at job s)

-- what slot s holds
unfoldable pub content_at : Job → ℕ → Content
content_at job s = out job s (state_at job s)

-- ---- batches and reported slots

-- everything has gone out: no page is unsent, and no message runs
unfoldable pub all_out : Job → State → Bool
all_out job st = eqb (least (λ i. eqb (get_or st.sent i 0) 0) job.pages) job.pages && eqb st.left 0

-- what a slot holds is a message codeword
abbrev pub is_message : Content → Bool
is_message idle = false
is_message (address i) = false
is_message (message i j) = true

-- the transmission can end with batch b, counted from 0: everything is out by its end, and its last slot holds no message codeword
unfoldable pub ends_with : Job → ℕ → Bool
ends_with job b = all_out job (state_at job (16 * b + 16)) && not (is_message (content_at job (16 * b + 15)))

-- the number of batches: up to the first with which the transmission can end
unfoldable pub batches : Job → ℕ
batches job = suc (least (ends_with job) (slot_bound job / 16))

-- the slot that is reported for page i: where its address went out
unfoldable pub slot_of : Job → ℕ → ℕ
slot_of job i = pred (get_or (state_at job (16 * batches job)).sent i 0)

-- the reported slots of all pages, in job order
unfoldable pub slots : Job → List ℕ
slots job = tab (slot_of job) job.pages

-- ---- placing into a slice that is lent for the slots

-- a job is placed where it can be sent and the slice has room for a slot of each page
abbrev pub is_placed : List ℕ → List ℕ → ℕ → Bool
is_placed frames words room = is_sendable frames words && leb (length frames) room

-- the answer: the number of batches, or nothing where the job isn't placed
abbrev pub batches_in : List ℕ → List ℕ → ℕ → Option ℕ
batches_in frames words room = cond (is_placed frames words room) (Some (batches (job_of frames words))) None

-- what is written over the slice's front: the reported slots, or nothing where the job isn't placed
abbrev pub slots_in : List ℕ → List ℕ → ℕ → List ℕ
slots_in frames words room = cond (is_placed frames words room) (slots (job_of frames words)) []
