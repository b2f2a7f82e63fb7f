-- `sender::PageTable::has_wrong_page` meets its contract. Assumes nothing.
use Prim.Native.Nat.{◌+◌}
use mathlib.Core.Path.{sym, ap, ◌∙◌}
use mathlib.Core.Bool.{Bool, ◌||◌}
use native.Mathlib.Omega.{arith}
use lib.Dec.{ltb}
use lib.ListN.{get_or}
use borrow.Author.Tests.{lt-ltb, le-ltb}
use Rattle.sender.proofs.Joined.{joined_tells}
use Rattle.sender.proofs.PageTable.has_wrong_page.Goals as goal

pub returns-then-frame_over : goal.returns-then-frame_over
returns-then-frame_over c =
    let p = c.args.self.now in
    let f = c.frames_joined-frame_over in
    let e = c.ends_joined-words_beyond in
    let t = lt-ltb 7 f.result (omega arith) in
    t ∙ ap (λ (b : Bool). b || ltb 4095 e.result) (sym t)
    ∙ joined_tells (λ i. get_or p.frames i 0) (λ i. get_or p.starts i 0 + get_or p.lengths i 0) p.count f.result e.result f.ensures e.ensures

pub returns-else-frame_over : goal.returns-else-frame_over
returns-else-frame_over c =
    let p = c.args.self.now in
    let f = c.frames_joined-frame_over in
    let e = c.ends_joined-words_beyond in
    ap (λ (b : Bool). b || ltb 4095 e.result) (sym (le-ltb 7 f.result (omega arith)))
    ∙ joined_tells (λ i. get_or p.frames i 0) (λ i. get_or p.starts i 0 + get_or p.lengths i 0) p.count f.result e.result f.ensures e.ensures
