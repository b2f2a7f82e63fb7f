-- `sender::PageTable::lacks_word` meets its contract. Assumes nothing.
use native.Mathlib.Omega.{arith}
use borrow.Author.Tests.{le-leb, lt-leb}
use Rattle.sender.specs.Step.{run_wrong}
use Rattle.sender.proofs.Search.{set_flag, clear_flag}
use Rattle.sender.proofs.PageTable.lacks_word.Goals as goal

pub returns-then-self-c : goal.returns-then-self-c
unfolding run_wrong
returns-then-self-c c = simp (set_flag _ c.if-c-ne0.true, le-leb c.args.self.now.count c.args.c.page (omega arith))

pub returns-else-self-c : goal.returns-else-self-c
unfolding run_wrong
returns-else-self-c c = simp (set_flag _ c.if-c-ne0.true, lt-leb c.args.self.now.count c.args.c.page (omega arith), c.from.ensures)

pub returns-else-c-ne0 : goal.returns-else-c-ne0
unfolding run_wrong
returns-else-c-ne0 c = simp (clear_flag _ c.if-c-ne0.false)
