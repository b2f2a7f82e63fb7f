use Prim.Native.Nat.{ℕ, ◌+◌}
use mathlib.Core.Path.{◌≡◌, subst}
use native.Mathlib.Omega.{arith}
use lib.ListN.{get_or}
use Rattle.sender.specs.Pages.{Joined}
use Rattle.sender.proofs.Joined.{joined_none, joined_more}
use Rattle.sender.proofs.PageTable.ends_joined.Goals as goal

pub loop-i-init : goal.loop-i-init
loop-i-init c = joined_none _

pub loop-i-preserved : goal.loop-i-preserved
loop-i-preserved c =
    let p = c.args.self.now in
    let l = c.loop-i in
    joined_more (λ k. get_or p.starts k 0 + get_or p.lengths k 0 + 63) l.i l.joined c.lifted_end-joined.result l.invariant c.lifted_end-joined.ensures

pub returns : goal.returns
returns c =
    let p = c.args.self.now in
    let l = c.loop-i in
    let e : l.i ≡ p.count = omega arith in
    subst (λ (k : ℕ). Joined (λ k. get_or p.starts k 0 + get_or p.lengths k 0 + 63) k l.joined) e l.invariant
