-- `job::judge_phrase` meets its contract. Assumes nothing.
use mathlib.Core.Path.{sym}
use Rattle.job.proofs.judge_phrase.Goals as goal

pub returns-then-is_empty : goal.returns-then-is_empty
returns-then-is_empty c = simp (sym c.if-is_empty.ensures)

pub returns-in-None : goal.returns-in-None
returns-in-None c = rw (sym c.if-is_empty.ensures, ← c.find_phrase.ensures, c.in-None.is)

pub returns-in-Some : goal.returns-in-Some
returns-in-Some c = rw (sym c.if-is_empty.ensures, ← c.find_phrase.ensures, c.in-Some.is)
