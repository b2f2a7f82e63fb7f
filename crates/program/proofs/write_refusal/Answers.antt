-- `program::write_refusal` meets its contract. Assumes nothing.
use Rattle.std.proofs.Common.{arith, length-append, append_assoc}
use Rattle.program.specs.Prints.{refusal_line}
use Rattle.program.proofs.PartLaws.{decimal_short}
use Rattle.program.proofs.RefusalLaws.{position_short}
use Rattle.program.proofs.write_refusal.Goals as goal

pub text-requires-2 : goal.text-requires-2
text-requires-2 c = grind (arith, length-append, decimal_short)

pub number-requires-2 : goal.number-requires-2
number-requires-2 c = grind (arith, length-append, decimal_short)

pub position-requires : goal.position-requires
position-requires c = grind (arith, length-append, decimal_short)

pub text-requires-3 : goal.text-requires-3
text-requires-3 c = grind (arith, length-append, decimal_short, position_short)

pub write-requires : goal.write-requires
write-requires c = grind (arith, length-append, decimal_short, position_short)

pub returns-clause-value : goal.returns-clause-value
unfolding refusal_line
returns-clause-value c = grind (arith, append_assoc)

pub returns-clause-out_after : goal.returns-clause-out_after
unfolding refusal_line
returns-clause-out_after c = grind (arith, append_assoc)
