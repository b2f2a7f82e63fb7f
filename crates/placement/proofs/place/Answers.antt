-- `placement::place` meets its contract: the part of out that is lent has as many places as there are pages, and the rest stays.
-- Assumes nothing.
use mathlib.Core.Path.{sym}
use lib.Seq.{length-take-le}
use Rattle.placement.proofs.place.Goals as goal

pub slice_bounds-place_exact-end-2 : goal.slice_bounds-place_exact-end-2
slice_bounds-place_exact-end-2 c = sym (length-take-le _ c.args.out.now c.if-out-pages.false)
