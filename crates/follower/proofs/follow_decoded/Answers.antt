-- `follower::follow_decoded` meets its contract. Assumes nothing.
use mathlib.Core.Path.{◌≡◌, sym, ap, ap₂, ◌∙◌}
use mathlib.Core.List.{List}
use Prim.Native.Nat.{ℕ, ◌*◌, ◌≤◌}
use native.Mathlib.Omega.{arith}
use lib.ListN.{length, take}
use lib.Seq.{length-take-le}
use Rattle.base.specs.Lists.{over}
use Rattle.listing.specs.Listing.{Listing}
use Rattle.listing.specs.Answers.{batches_of}
use Rattle.reader.specs.Readable.{batches_first}
use Rattle.reader.specs.Answers.{judge_decoded}
use Rattle.reader.specs.Answers.{Verdict}
use Rattle.follower.specs.Pages.{pages_for}
use Rattle.follower.specs.Answers.{follow_judged, lines_of}
use Rattle.follower.proofs.follow_decoded.Goals as goal

module _ (l : Listing) (words : List ℕ) {n : ℕ} (e : n ≡ batches_of l) where
  -- the words that are lent on
  part_length : 17 * batches_of l ≤ length words → 17 * n ≡ length (take (17 * n) words)
  part_length h = sym (length-take-le (17 * n) words (omega (arith, e)))

  part_is : take (17 * n) words ≡ batches_first l words
  part_is = ap (λ (m : ℕ). take (17 * m) words) e

-- the verdict
verdict : (l : Listing) (words : List ℕ) {n : ℕ} {v : Verdict} → n ≡ batches_of l → v ≡ judge_decoded l (take (17 * n) words)
    → v ≡ judge_decoded l (batches_first l words)
verdict l words e j = j ∙ ap (judge_decoded l) (part_is l words e)

pub slice_bounds-judge_decoded-end : goal.slice_bounds-judge_decoded-end
slice_bounds-judge_decoded-end c = part_length c.args.l c.args.words.now c.batch_count-n.ensures c.requires.inside

pub slice_bounds-follow_judged-end : goal.slice_bounds-follow_judged-end
slice_bounds-follow_judged-end c = part_length c.args.l c.args.words.now c.batch_count-n.ensures c.requires.inside

pub follow_judged-requires : goal.follow_judged-requires
follow_judged-requires c e =
    let l = c.args.l in
    let words = c.args.words.now in
    let n = c.batch_count-n.ensures in
    rw (part_is l words n) (c.requires.sound (sym (verdict l words n c.judge_decoded-v.ensures) ∙ e))

pub returns : goal.returns
returns c =
    let a = c.args in
    let l = a.l in
    let words = a.words.now in
    let n = c.batch_count-n.ensures in
    let out = a.out.now in
    let r = c.follow_judged in
    let v = verdict l words n c.judge_decoded-v.ensures in
    let part = part_is l words n in
    record {
      value = r.ensures.value ∙ ap₂ (λ (x : Verdict) (ws : List ℕ). follow_judged a.identity x ws (length out)) v part;
      out_after = r.ensures.out_after ∙ ap (λ (ws : List ℕ). over out (lines_of r.result (pages_for a.identity ws))) part;
    }
