-- `follower::follow_listing` meets its contract. Assumes nothing.
use mathlib.Core.Path.{◌≡◌, ap, ◌∙◌}
use mathlib.Core.List.{List}
use Prim.Native.Nat.{ℕ}
use lib.ListN.{length}
use Rattle.base.specs.Lists.{over}
use Rattle.listing.specs.Answers.{decoded_of}
use Rattle.listing.specs.declared.Decoded.{Decoded}
use Rattle.reader.specs.Readable.{batches_first}
use Rattle.reader.specs.Answers.{judge_decoded}
use Rattle.reader.proofs.Laws.{readable}
use Rattle.follower.specs.Pages.{pages_for}
use Rattle.follower.specs.Answers.{follow_judged, follow_listing, lines_of}
use Rattle.follower.proofs.follow_listing.Goals as goal

-- the identity is followed through what is decoded as through the listing
follow_as : (i : ℕ) (s : List ℕ) (room : ℕ) {d : Decoded} → d ≡ decoded_of s
    → follow_judged i (judge_decoded d.listing (batches_first d.listing d.words)) (batches_first d.listing d.words) room ≡ follow_listing i s room
unfolding follow_listing
follow_as i s room e = rw (readable.first s e, readable.verdict s e)

pub follow_decoded-requires : goal.follow_decoded-requires
follow_decoded-requires c = readable.of_decoded c.args.listing.now c.decode-decoded.ensures

pub returns : goal.returns
returns c =
    let r = c.follow_decoded in
    let a = c.args in
    let s = a.listing.now in
    let out = a.out.now in record {
      value = r.ensures.value ∙ follow_as a.identity s (length out) c.decode-decoded.ensures;
      out_after = r.ensures.out_after ∙ ap (λ (ws : List ℕ). over out (lines_of r.result (pages_for a.identity ws))) (readable.first s c.decode-decoded.ensures);
    }
