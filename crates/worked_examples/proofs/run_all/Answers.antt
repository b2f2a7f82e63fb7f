-- where a line ends: behind its start, and inside the input
use Rattle.std.proofs.Common.{arith}
use Rattle.base.proofs.LinesLaws.{end_after, end_inside}
use Rattle.worked_examples.proofs.run_all.Goals as goal

pub slice_bounds-run-count : goal.slice_bounds-run-count
slice_bounds-run-count g c = omega (arith, c.line_end-end.ensures, end_after c.args.input.now c.loop-at.at)

pub slice_bounds-run-start : goal.slice_bounds-run-start
slice_bounds-run-start g c =
    omega (arith, c.line_end-end.ensures, end_after c.args.input.now c.loop-at.at, end_inside c.args.input.now c.loop-at.at (omega arith))

pub slice_bounds-run-end : goal.slice_bounds-run-end
slice_bounds-run-end g c = omega (arith, c.line_end-end.ensures, end_inside c.args.input.now c.loop-at.at (omega arith))

pub loop-at-smaller : goal.loop-at-smaller
loop-at-smaller g c =
    omega (arith, c.line_end-end.ensures, end_after c.args.input.now c.loop-at.at, end_inside c.args.input.now c.loop-at.at (omega arith))
