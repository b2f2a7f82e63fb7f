-- `text::write_groups` meets its contract. The invariant: the groups so far are written, and fewer than 20 bits wait for the next. Assumes nothing.
use mathlib.Core.Path.{◌≡◌}
use Prim.Native.Nat.{◌*◌, ◌<◌}
use lib.ListN.{length}
use Rattle.base.specs.Hex.{bytes_of}
use Rattle.base.specs.Lists.{tab}
use Rattle.base.proofs.ListLaws.{filled}
use Rattle.text.specs.Coding.{group_of}
use Rattle.text.specs.Packing.{Waiting}
use Rattle.text.proofs.write_groups.Given as goal

abbrev pub invariant-loop-group : goal.invariant-loop-group
invariant-loop-group l = (l.b.have < 20) × Waiting l.c (bytes_of l.text) (20 * l.group-index) l.b.window l.b.have l.b.next
    × (l.groups ≡ filled l.initial.groups (tab (group_of l.c (bytes_of l.text)) (length l.initial.groups)) l.group-index)
