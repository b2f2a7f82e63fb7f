use Prim.Native.Nat.{ℕ}
use mathlib.Core.Path.{◌≡◌, refl, sym, subst}
use native.Mathlib.Omega.{arith}
use lib.ListN.{length, get_or, take}
use lib.Seq.{length-take-le}
use Rattle.std.proofs.lemmas.List.{get_or-take}
use Rattle.sender.specs.Pages.{Joined}
use Rattle.sender.proofs.Joined.{joined_none, joined_more, joined_same}
use Rattle.sender.proofs.PageTable.frames_joined.Goals as goal

pub loop-frame-init : goal.loop-frame-init
loop-frame-init c = joined_none _

pub loop-frame-preserved : goal.loop-frame-preserved
loop-frame-preserved c =
    let l = c.loop-frame in
    joined_more (λ k. get_or (take c.args.self.now.count c.args.self.now.frames) k 0) l.frame-index l.joined _ l.invariant refl

pub returns : goal.returns
returns c =
    let p = c.args.self.now in
    let l = c.loop-frame in
    let n : length (take p.count p.frames) ≡ p.count = length-take-le p.count p.frames (omega arith) in
    let e : l.frame-index ≡ p.count = omega arith in
    joined_same (λ i. get_or (take p.count p.frames) i 0) (λ i. get_or p.frames i 0) p.count l.joined
    (λ i m. sym (get_or-take p.count p.frames i 0 m))
    (subst (λ (k : ℕ). Joined (λ i. get_or (take p.count p.frames) i 0) k l.joined) e l.invariant)
