-- `text::more` meets its contract. Assumes nothing.
use native.Mathlib.Omega.{arith}
use Rattle.text.proofs.CharLaws.{window_more}
use Rattle.text.proofs.more.Goals as goal

pub returns : goal.returns
returns c = let a = c.args in λ at w. (rw c.from.ensures (window_more a.groups.now at a.b w (omega arith) (omega arith)), λ h. omega arith)
