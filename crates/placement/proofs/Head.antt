-- What `run` knows at its outer loop's head, and what each way through the slot leaves of it. Assumes nothing.
use mathlib.Core.Path.{◌≡◌, sym, ◌∙◌}
use mathlib.Core.Bool.{Bool, true, false, cond}
use mathlib.Core.List.{List}
use mathlib.Core.Logic.{⊎_elim}
use Rattle.std.specs.Prelude.{Option, Some, None}
use Rattle.std.specs.Option.{unwrap_or}
use Rattle.base.proofs.SearchLaws.{le_or_lt}
use Prim.Native.Nat.{ℕ, ◌+◌, ◌-◌, ◌≤◌, ◌<◌}
use native.Mathlib.Omega.{arith}
use lib.ListN.{length, get_or, set}
use Rattle.placement.specs.Placement.{Job, State, Framed, frame_of, may_start, ready, state_at, job_of}
use Rattle.placement.specs.Searching.{starts_at, NoneFrom, FirstFrom}
use Rattle.placement.proofs.Sendable.{Sendable}
use Rattle.placement.proofs.Placed.{limits}
use Rattle.placement.proofs.Steps.{At, Passed, Open, at_runs, at_starts, at_rests, marks_length, sent_few, asked, open_slot}
use Rattle.placement.proofs.Skips.{Skips, skips_passed, skips_found, skips_more}

-- The job is sendable, the code has the placement's state before the slot, no batch that is over ends the transmission, and the pages
-- that a search skips are sent.
pub record Head (frames words : List ℕ) (slot : ℕ) (marks next : List ℕ) (left sent : ℕ) (pause : Bool) : Type 0 where
  pub sendable : Sendable frames words
  pub before : At (job_of frames words) slot marks left sent pause
  pub open_yet : Open (job_of frames words) slot
  pub skips : Skips (job_of frames words) marks next

-- what the search yields: the first page that may start in the slot, or nothing
abbrev pub Found : Job → ℕ → State → Option ℕ → Type 0
Found job s st (Some p) = (p < job.pages) × (ready job s st p ≡ true) × Passed job s st p
Found job s st None = Passed job s st job.pages

module _ {frames words : List ℕ} {slot : ℕ} {marks next : List ℕ} {left sent : ℕ} {pause : Bool} (h : Head frames words slot marks next left sent pause) where
  pub framed : Framed (job_of frames words)
  framed = h.sendable.framed

  pub pages : length frames ≤ 48
  pages = h.sendable.few

  -- a slot that is reached is one of the batches, of which there are few
  pub slot_few : slot < 4800
  slot_few = (limits h.sendable).below slot (open_slot (job_of frames words) framed slot h.open_yet)

  pub length_is : length marks ≡ length frames
  length_is = marks_length (job_of frames words) framed slot marks left sent pause h.before

  pub few_sent : sent ≤ length frames
  few_sent = sent_few (job_of frames words) framed slot marks left sent pause h.before

  -- the code's question about page i
  pub asked_of : (i : ℕ)
      → may_start (get_or marks i 0) (get_or frames i 0) (get_or words i 0) pause slot ≡ ready (job_of frames words) slot (state_at (job_of frames words) slot) i
  asked_of i = asked (job_of frames words) framed slot marks left sent pause h.before i

  -- no page that the search skips may start
  pub skipped : Passed (job_of frames words) slot (state_at (job_of frames words) slot) (get_or next (frame_of slot) 0)
  skipped = skips_passed (job_of frames words) framed slot marks left sent pause h.before next h.skips

  -- what the search in the slot yields
  abbrev pub Yields : Option ℕ → Type 0
  Yields start = Found (job_of frames words) slot (state_at (job_of frames words) slot) start

  -- no page below i may start, if none does from where the search begins
  passed_to : (i : ℕ) → NoneFrom (starts_at marks frames words pause slot) (get_or next (frame_of slot) 0) i
      → Passed (job_of frames words) slot (state_at (job_of frames words) slot) i
  passed_to i none k l = ⊎_elim (λ low. sym (asked_of k) ∙ none k low l) (λ below. skipped k below) (le_or_lt (get_or next (frame_of slot) 0) k)

  pub yields : (start : Option ℕ) → FirstFrom (starts_at marks frames words pause slot) (get_or next (frame_of slot) 0) (length frames) start → Yields start
  yields (Some p) f = (f.1, sym (asked_of p) ∙ f.2, passed_to p f.3)
  yields None f = passed_to (length frames) f

  -- where it ends, the next search in the same frame starts; but after a pause where it started
  pub searched : (start : Option ℕ) {v : ℕ} → Yields start → v ≡ cond pause (get_or next (frame_of slot) 0) (unwrap_or start (length frames))
      → Skips (job_of frames words) marks (set next (frame_of slot) v)
  searched (Some p) f e = rw e (skips_found (job_of frames words) framed slot marks left sent pause h.before next h.skips p (omega arith) f.2)
  searched None f e = rw e (skips_found (job_of frames words) framed slot marks left sent pause h.before next h.skips (length frames) (omega arith) f)

  -- what the code has after the slot
  abbrev pub After : (marks' next' : List ℕ) (left' sent' : ℕ) (pause' : Bool) → Type 0
  After marks' next' left' sent' pause' =
      At (job_of frames words) (slot + 1) marks' left' sent' pause' × Skips (job_of frames words) marks' next'

  pub after_message : 0 < left → After marks next (left - 1) sent true
  after_message m = (at_runs (job_of frames words) framed slot marks left sent pause h.before m, h.skips)

  pub after_page : {i : ℕ} {next' : List ℕ} → left ≡ 0 → Yields (Some i) → Skips (job_of frames words) marks next'
      → After (set marks i (slot + 1)) next' (get_or words i 0) (sent + 1) false
  after_page {i} z f k = (
    at_starts (job_of frames words) framed slot marks left sent pause h.before i z f.0 f.1 f.2,
    skips_more (job_of frames words) marks _ i slot (omega (arith, f.0, length_is)) k,
  )

  pub after_nothing : {next' : List ℕ} → left ≡ 0 → Yields None → Skips (job_of frames words) marks next' → After marks next' left sent false
  after_nothing z f k = (at_rests (job_of frames words) framed slot marks left sent pause h.before z f, k)
