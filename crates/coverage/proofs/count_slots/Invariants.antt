-- `coverage::count_slots` meets its contract: the counts so far are those of the slots passed. Assumes nothing.
use mathlib.Core.Path.{◌≡◌}
use Prim.Native.Nat.{◌-◌, ◌≤◌}
use Rattle.base.specs.Lists.{tab}
use Rattle.reader.specs.Reading.{read_at, slot_word}
use Rattle.coverage.specs.Tally.{tally, slot_place}
use Rattle.coverage.proofs.PageLaws.{Paged}
use Rattle.coverage.proofs.count_slots.Given as goal

abbrev pub invariant-loop-s : goal.invariant-loop-s
invariant-loop-s l = (l.s ≤ l.slots) × (l.frames ≡ tally 32 (tab (slot_place l.words) l.s)) × Paged (read_at (slot_word l.words) l.s) l.held l.pages

abbrev pub decreases-loop-s : goal.decreases-loop-s
decreases-loop-s l = l.slots - l.s
