-- `job::page_text` meets its contract: each of its cases is the part that `base::part` gives. Assumes nothing.
use borrow.Author.Tests.{eq-eqb, ne_eqb}
use Rattle.job.proofs.page_text.Goals as goal

pub returns-then-page-eq9 : goal.returns-then-page-eq9
returns-then-page-eq9 c = record {
  points_into = rw (eq-eqb _ _ c.if-page-eq9.true) c.part.ensures.points_into;
  result_value = rw (eq-eqb _ _ c.if-page-eq9.true) c.part.ensures.result_value;
}

pub returns : goal.returns
returns c = record {
  points_into = rw (ne_eqb _ _ c.if-page-eq9.false) c.part-2.ensures.points_into;
  result_value = rw (ne_eqb _ _ c.if-page-eq9.false) c.part-2.ensures.result_value;
}
