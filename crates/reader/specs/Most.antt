-- What can be heard of whole batches at most.
use Rattle.std.specs.Prelude.{Bool, List, ℕ, ◌+◌, ◌*◌, ◌/◌, ◌≤◌, length}
use Rattle.reader.specs.Reading.{Heard, read_at, heard_stretch}
use Rattle.reader.specs.Lines.{lines_heard}

-- Of n batches no more than a page, a lost word or an orphan a slot, all bits changed in every word, and ten bytes of lines a slot; but a
-- page that the end cuts short takes one byte more, and no slot.
pub record Within (n : ℕ) (h : Heard) : Type 0 where
  pub pages : length h.pages ≤ 16 * n
  pub lost : h.lost ≤ 16 * n
  pub orphans : h.orphans ≤ 16 * n
  pub slots : h.changed.slots ≤ 512 * n
  pub syncs : h.changed.syncs ≤ 32 * n
  pub lines : length (lines_heard h.pages) ≤ 160 * n + 1

-- whatever the words are. `all_within` in proofs/RoomLaws.antt proves it
abbrev pub AllWithin : Type 0
AllWithin = (cut : Bool) (words : List ℕ) → Within (length words / 17) (heard_stretch cut words)

-- before slot s at most s pages are closed. `pages_few` in proofs/RoomLaws.antt proves it
abbrev pub PagesFew : Type 0
PagesFew = (word : ℕ → ℕ) (s : ℕ) → length (read_at word s).pages ≤ s
