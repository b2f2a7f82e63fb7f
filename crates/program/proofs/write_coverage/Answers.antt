use Rattle.std.proofs.Common.{◌≡◌, List, ℕ, ◌++◌, length, length-append, append_assoc, ap, ◌∙◌, add-one, arith}
use Rattle.program.specs.CoverageText.{frame_lines, frame_line, coverage_text}
use Rattle.program.proofs.CoverageLaws.{frames_short, sync_short, listings_short}
use Rattle.program.proofs.write_coverage.Goals as goal

pub loop-frame-init : goal.loop-frame-init
unfolding frame_lines
loop-frame-init c = c.new-report.ensures

pub frame-requires-clause-room : goal.frame-requires-clause-room
frame-requires-clause-room c = let l = c.loop-frame in omega (arith, ap length l.invariant, frames_short c.args.c l.frame)

pub loop-frame-preserved : goal.loop-frame-preserved
unfolding frame_lines
loop-frame-preserved c =
    let l = c.loop-frame in
    rw (add-one l.frame) (c.frame.ensures ∙ ap (λ (x : List ℕ). x ++ frame_line c.args.c l.frame) l.invariant)

pub sync-requires : goal.sync-requires
sync-requires c = let l = c.loop-frame in omega (arith, ap length l.invariant, frames_short c.args.c l.frame)

pub listings-requires : goal.listings-requires
listings-requires c = let l = c.loop-frame in grind (arith, length-append, ap length l.invariant, frames_short c.args.c l.frame, sync_short)

pub write-requires : goal.write-requires
write-requires c =
    let l = c.loop-frame in
    grind (arith, length-append, ap length l.invariant, frames_short c.args.c l.frame, sync_short, listings_short)

pub returns-clause-value : goal.returns-clause-value
unfolding coverage_text
returns-clause-value c =
    let l = c.loop-frame in
    let last : l.frame ≡ 8 = omega arith in
    let frames : l.report ≡ frame_lines c.args.c 8 = rw last at l.invariant in
    grind (arith, append_assoc, frames)

pub returns-clause-out_after : goal.returns-clause-out_after
unfolding coverage_text
returns-clause-out_after c =
    let l = c.loop-frame in
    let last : l.frame ≡ 8 = omega arith in
    let frames : l.report ≡ frame_lines c.args.c 8 = rw last at l.invariant in
    grind (arith, append_assoc, frames)
