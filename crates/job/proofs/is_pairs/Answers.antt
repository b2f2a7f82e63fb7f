-- `job::is_pairs` meets its contract. Assumes nothing.
use mathlib.Core.Path.{◌≡◌, sym, ◌∙◌}
use Prim.Native.Nat.{◌+◌, ◌*◌, ◌%◌}
use lib.Dec.{eqb}
use lib.ListN.{length}
use borrow.Author.Rules.{rules}
use borrow.Author.Tests.{eq-eqb}
use Rattle.base.specs.Hex.{is_hex}
use Rattle.base.specs.Leading.{leading}
use Rattle.base.proofs.Bools.{and_false}
use Rattle.base.proofs.LeadingLaws.{leading_le, leading_behind}
use Rattle.base.proofs.ListLaws.{to_end}
use Rattle.job.specs.Line.{is_digits, is_pairs}
use Rattle.job.proofs.is_pairs.Goals.{After-hex_run}
use Rattle.job.proofs.is_pairs.Goals as goal

pub returns-then-n-eq0 : goal.returns-then-n-eq0
unfolding is_pairs is_digits
returns-then-n-eq0 c = let n = length c.args.t.now in rw (eq-eqb n 0 c.if-n-eq0.true) (sym (and_false (eqb (n % 2) 0)))

pub overflow_mul-digits : goal.overflow_mul-digits
overflow_mul-digits c = search (rules, leading_le is_hex c.args.t.now)

pub slice_bounds-hex_run-count : goal.slice_bounds-hex_run-count
slice_bounds-hex_run-count c = search (rules, leading_le is_hex c.args.t.now)

pub slice_bounds-hex_run-start : goal.slice_bounds-hex_run-start
slice_bounds-hex_run-start c = search (rules, leading_le is_hex c.args.t.now)

-- the digits behind those that are known make the whole
behind : (c : After-hex_run) → leading is_hex c.args.t.now ≡ 2 * c.args.known + c.hex_run.result
behind c =
    let a = c.args in
    leading_behind is_hex a.t.now (2 * a.known) c.requires
    ∙ rw (c.hex_run.ensures, to_end (2 * a.known) a.t.now)

pub overflow_add-result : goal.overflow_add-result
overflow_add-result c = search (rules, behind (goal.at.overflow_add-result c).After-hex_run, leading_le is_hex c.args.t.now)
