-- `codeword::slow::obeys` meets its contract: exactly what obeys the code leaves no remainder and has an even number of ones. Assumes nothing.
use Rattle.codeword.proofs.CodeLaws.{obeys_not, obeys_even}
use Rattle.codeword.proofs.slow.obeys.Goals as goal

pub returns-then-left_over-eq0 : goal.returns-then-left_over-eq0
returns-then-left_over-eq0 c = search obeys_even

pub returns-else-left_over-eq0 : goal.returns-else-left_over-eq0
returns-else-left_over-eq0 c = search obeys_not
