-- The worked slots, computed. Assumes nothing.
use mathlib.Core.Path.{refl}
use Rattle.base.specs.Lists.{tab}
use Rattle.base.specs.Search.{least, sum}
use Rattle.placement.specs.Placement.{may_start, ready, first, out_of, out, after, next, state_at, content_at, all_out, ends_with, batches, slot_of, slots}
use Rattle.placement.specs.Examples.{running_to, same, holds, all, table, pauses, WorkedSlots, WorkedPauses}

pub worked_slots : WorkedSlots
unfolding all table holds same running_to slots slot_of batches ends_with all_out content_at state_at next after out out_of first ready may_start least sum tab
worked_slots = refl

pub worked_pauses : WorkedPauses
unfolding all pauses holds same running_to slots slot_of batches ends_with all_out content_at state_at next after out out_of first ready may_start least sum tab
worked_pauses = refl
