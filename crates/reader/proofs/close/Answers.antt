-- `reader::close` meets its contract. Assumes nothing.
use mathlib.Core.Path.{ap}
use Prim.Native.Nat.{◌+◌, ◌-◌, ◌*◌, ◌≤◌}
use native.Mathlib.Omega.{arith}
use lib.ListN.{length, length-drop}
use Rattle.base.proofs.ListLaws.{to_end}
use Rattle.reader.specs.Symbols.{state_by}
use Rattle.reader.proofs.Keeping.{Open, open_page, closed_none, closed_page}
use Rattle.reader.proofs.PageLaws.{page_short}
use Rattle.reader.proofs.close.Goals.{In-Some}
use Rattle.reader.proofs.close.Goals as goal

-- where a page is open, it is there, and there is room for its line
page : (c : In-Some) → Open c.args.symbols.now c.args.s c.in-Some.a c.args.p (state_by c.args.symbols.now c.args.s).held
page c =
    let a = c.args in
    open_page a.symbols.now a.s (state_by a.symbols.now a.s) a.p c.requires.kept c.in-Some.a c.in-Some.is

room : (c : In-Some) → c.args.p.bytes + 11 * (c.args.s - c.in-Some.a) ≤ length c.args.lines.now
room c = let o = page c in let b = c.requires.buffers in let i = c.requires.s_in_bounds in omega arith

pub returns-in_default : goal.returns-in_default
returns-in_default c =
    let a = c.args in
    closed_none a.symbols.now a.s (state_by a.symbols.now a.s) a.p c.requires.kept a.cut c.in_default.is

pub slice_bounds-print_page-count : goal.slice_bounds-print_page-count
slice_bounds-print_page-count c = omega (arith, room (goal.at.slice_bounds-print_page-count c).In-Some)

pub slice_bounds-print_page-start : goal.slice_bounds-print_page-start
slice_bounds-print_page-start c = omega (arith, room (goal.at.slice_bounds-print_page-start c).In-Some)

pub print_page-n-requires : goal.print_page-n-requires
print_page-n-requires c =
    let a = c.args in
    let o = page (goal.at.print_page-n-requires c).In-Some in
    let r = room (goal.at.print_page-n-requires c).In-Some in
    let pre = c.requires in
    let at = a.p.bytes in
    record {
      behind = o.behind;
      inside = pre.s_in_bounds;
      address = o.address;
      written = omega (arith, pre.buffers.slots, pre.buffers.room, pre.s_in_bounds);
      printed = omega (arith, ap length (to_end at a.lines.now), length-drop at a.lines.now);
    }

pub overflow_add-result : goal.overflow_add-result
overflow_add-result c =
    let o = page (goal.at.overflow_add-result c).In-Some in
    let pre = c.requires in
    omega (arith, o.pages_few, o.behind, pre.buffers.slots, pre.s_in_bounds)

pub overflow_add-result-2 : goal.overflow_add-result-2
overflow_add-result-2 c =
    let a = c.args in
    let o = page (goal.at.overflow_add-result-2 c).In-Some in
    let pre = c.requires in
    omega (arith, c.print_page-n.ensures.value, page_short a.symbols.now c.in-Some.a a.s a.cut o.behind pre.s_in_bounds, o.bytes_few, o.behind, pre.buffers.slots, pre.s_in_bounds)

pub returns : goal.returns
returns c =
    let a = c.args in
    let pre = c.requires in
    let printed = c.print_page-n in
    closed_page a.symbols.now a.s (state_by a.symbols.now a.s) a.p pre.kept a.cut c.in-Some.a c.in-Some.is pre.s_in_bounds (omega (arith, room (goal.at.returns c).In-Some)) printed.result printed.ensures.value printed.ensures.out_after
