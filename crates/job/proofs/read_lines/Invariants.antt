-- `job::read_lines` meets its contract. The invariant: the k pages passed are kept, and the answer is that of what is left. Assumes nothing.
use Rattle.job.proofs.Keeping.{Keeping}
use Rattle.job.proofs.read_lines.Given as goal

abbrev pub invariant-loop-k : goal.invariant-loop-k
invariant-loop-k l = Keeping l.book l.job l.at l.k l.pages
