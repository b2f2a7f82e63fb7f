-- `job::judge_tone` meets its contract. Assumes nothing.
use mathlib.Core.Path.{sym}
use Rattle.job.specs.Line.{tone_page_of}
use Rattle.job.proofs.judge_tone.Goals as goal

pub returns-then-not-is_empty : goal.returns-then-not-is_empty
unfolding tone_page_of
returns-then-not-is_empty c = simp (sym c.if-not-is_empty.ensures)

pub returns : goal.returns
unfolding tone_page_of
returns c = simp (sym c.if-not-is_empty.ensures)
