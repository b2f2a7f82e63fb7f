-- What the code's inner functions promise. No public promise needs it. `Message`, `Line` and `Followed` are src/lib.rt's structs.
use Rattle.std.specs.Prelude.{◌≡◌, List, ◌++◌, ℕ, ◌+◌, ◌-◌, ◌*◌, ◌≤◌, ◌<◌, length, take}
use Rattle.base.specs.Lists.{over}
use Rattle.placement.specs.Placement.{frame_of}
use Rattle.reader.specs.Reading.{Hearing, slot_word}
use Rattle.reader.specs.Lines.{line_heard, lines_heard}
use Rattle.follower.specs.Following.{followed, own_page, own_from, slot_count}
use Rattle.follower.specs.declared.Message.{Message}
use Rattle.follower.specs.declared.Line.{Line}
use Rattle.follower.specs.declared.Followed.{Followed}

-- slot r is the first of frame f from slot s on
pub record InFrame (f s r : ℕ) : Type 0 where
  pub on : s ≤ r
  pub here : frame_of r ≡ f
  pub others : (k : ℕ) → s ≤ k → k < r → frame_of k ≡ f → ⊥

-- the page h with these groups more, closed as cut short or not
abbrev pub with_groups : Hearing → List ℕ → Message → Hearing
with_groups h groups m = record { identity = h.identity; function = h.function; groups = h.groups ++ groups; cut = m.cut }

-- from slot s on, an open page has message words up to slot `end`, whose groups are the first of these; no page opens among them
pub record Ran (words : List ℕ) (s : ℕ) (groups : List ℕ) (m : Message) : Type 0 where
  pub on : s ≤ m.end
  pub inside : m.end ≤ slot_count words
  pub room : slot_count words ≤ length groups
  pub page : (h : Hearing) → followed (slot_word words) s (slot_count words - s) h ≡ with_groups h (take (m.end - s) groups) m
  pub others : (i : ℕ) → own_from i (slot_word words) s (slot_count words - s) ≡ own_from i (slot_word words) m.end (slot_count words - m.end)

-- at most 300 batches, and room for a group, ten digits and eleven bytes a slot
pub record Buffers (words : List ℕ) (groups digits lines : ℕ) : Type 0 where
  pub slots : slot_count words ≤ 4800
  pub collected : slot_count words ≤ groups
  pub written : 10 * slot_count words ≤ digits
  pub printed : 11 * slot_count words ≤ lines

-- the page of identity i that opens in slot s with function f
abbrev pub page_at : ℕ → ℕ → List ℕ → ℕ → Hearing
page_at i f words s = followed (slot_word words) (s + 1) (slot_count words - (s + 1)) (own_page i f)

-- there is room for what it can have
pub record Roomy (words : List ℕ) (s f groups digits room : ℕ) : Type 0 where
  pub inside : s < slot_count words
  pub function : f < 4
  pub collected : slot_count words ≤ groups
  pub written : 10 * slot_count words ≤ digits
  pub printed : 11 * (slot_count words - s) ≤ room

-- its line is printed, and the next slot to look at is known
pub record Printed (i f : ℕ) (words : List ℕ) (s : ℕ) (old new : List ℕ) (l : Line) : Type 0 where
  pub on : s < l.end
  pub inside : l.end ≤ slot_count words
  pub size : l.bytes ≡ length (line_heard (page_at i f words s))
  pub short : l.bytes ≤ 11 * (l.end - s)
  pub is : new ≡ over old (line_heard (page_at i f words s))
  pub others : own_from i (slot_word words) (s + 1) (slot_count words - (s + 1)) ≡ own_from i (slot_word words) l.end (slot_count words - l.end)

-- the lines of these pages are printed
pub record Kept (hs : List Hearing) (p : Followed) (lines : List ℕ) : Type 0 where
  pub count : p.lines ≡ length hs
  pub size : p.bytes ≡ length (lines_heard hs)
  pub printed : take p.bytes lines ≡ lines_heard hs
