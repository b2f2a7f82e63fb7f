-- `codeword::correct` meets its contract. Assumes nothing.
use Rattle.codeword.proofs.FlipLaws.{no_check, more_wrong, third_bit, few_bits}
use Rattle.codeword.proofs.correct.Goals as goal

pub returns-then-checks-eq0 : goal.returns-then-checks-eq0
returns-then-checks-eq0 c = search no_check

pub returns-then-wrong-eq0 : goal.returns-then-wrong-eq0
returns-then-wrong-eq0 c = search more_wrong

pub returns-then-one-odd : goal.returns-then-one-odd
returns-then-one-odd c = search third_bit

pub returns : goal.returns
returns c = search few_bits
