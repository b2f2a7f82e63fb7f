-- `program::write_coverage` meets its contract: each turn writes the line of one frame more. Assumes nothing.
use Rattle.std.proofs.Common.{◌≡◌}
use Rattle.program.specs.CoverageText.{frame_lines}
use Rattle.program.proofs.write_coverage.Given as goal

abbrev pub invariant-loop-frame : goal.invariant-loop-frame
invariant-loop-frame l = l.report ≡ frame_lines l.c l.frame
