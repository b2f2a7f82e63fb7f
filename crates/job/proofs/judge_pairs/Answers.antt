-- `job::judge_pairs` meets its contract. Assumes nothing.
use mathlib.Core.Path.{◌≡◌, sym, ap, ◌∙◌}
use native.Mathlib.Omega.{arith}
use Rattle.text.specs.Coding.{char_run}
use Rattle.text.specs.declared.Coding.{Coding}
use Rattle.text.proofs.RunLaws.{run_digits}
use Rattle.job.specs.Line.{coding_of}
use Rattle.job.proofs.Laws.{pairs_run}
use Rattle.job.proofs.judge_pairs.Goals.{After-char_run-good}
use Rattle.job.proofs.judge_pairs.Goals as goal

-- the run, as the definition has it
found : (c : After-char_run-good) → c.char_run-good.result ≡ char_run (coding_of c.args.page.kind) c.args.text.now
found c = c.char_run-good.ensures ∙ ap (λ (x : Coding). char_run x c.args.text.now) c.coding.ensures

pub is_pairs-requires : goal.is_pairs-requires
is_pairs-requires c = let a = c.args in omega (arith, found (goal.at.is_pairs-requires c).After-char_run-good, run_digits (coding_of a.page.kind) a.text.now)

pub judge_page-requires : goal.judge_page-requires
judge_page-requires c =
    λ _.
    let a = c.args in
    found (goal.at.judge_page-requires c).After-char_run-good ∙ pairs_run a.text.now a.page.kind (sym c.is_pairs.ensures ∙ c.if-is_pairs.true)

pub returns-then-is_pairs : goal.returns-then-is_pairs
returns-then-is_pairs c = rw (c.judge_page.ensures, sym c.is_pairs.ensures ∙ c.if-is_pairs.true)

pub returns : goal.returns
returns c = rw (sym c.is_pairs.ensures ∙ c.if-is_pairs.false)
