-- `text::groups` meets its contract. Assumes nothing.
use native.Mathlib.Omega.{arith}
use Rattle.text.proofs.WidthLaws.{width_room}
use Rattle.text.proofs.groups.Goals as goal

pub overflow_mul-result : goal.overflow_mul-result
overflow_mul-result c = rw (c.width.ensures, c.from.ensures) (let h = width_room c.args.c c.args.count (omega arith) in omega arith)

pub overflow_add-result : goal.overflow_add-result
overflow_add-result c = rw (c.width.ensures, c.from.ensures) (let h = width_room c.args.c c.args.count (omega arith) in omega arith)

pub returns : goal.returns
returns c = rw (c.width.ensures, c.from.ensures)
