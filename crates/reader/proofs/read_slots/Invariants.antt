-- `reader::read_slots` meets its contract: the symbols so far say what their words say, and their changed bits are counted. Assumes nothing.
use mathlib.Core.Path.{◌≡◌}
use Prim.Native.Nat.{ℕ, ◌<◌}
use lib.ListN.{get_or}
use Rattle.codeword.specs.Nearest.{nearest}
use Rattle.reader.specs.Meaning.{meaning}
use Rattle.reader.specs.Changed.{slots_changed}
use Rattle.reader.specs.Reading.{slot_word}
use Rattle.reader.specs.Symbols.{said}
use Rattle.reader.proofs.read_slots.Given as goal

abbrev pub invariant-loop-s : goal.invariant-loop-s
invariant-loop-s l = ((k : ℕ) → k < l.s → said (get_or l.symbols k 0) ≡ meaning (nearest (slot_word l.words k)))
    × (l.changed ≡ slots_changed (slot_word l.words) l.s)
