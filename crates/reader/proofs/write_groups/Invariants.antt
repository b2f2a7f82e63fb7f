-- `reader::write_groups` meets its contract: the digits of the groups so far stand over what was there. Assumes nothing.
use Rattle.base.specs.Hex.{digits_of}
use Rattle.reader.proofs.Blocks.{Written}
use Rattle.reader.proofs.write_groups.Given as goal

abbrev pub invariant-loop-i : goal.invariant-loop-i
invariant-loop-i l = Written (digits_of 5) 5 l.initial.digits l.groups l.i l.digits
