-- `reader::read_listing` meets its contract. Assumes nothing.
use mathlib.Core.Path.{◌≡◌, ap, ◌∙◌}
use mathlib.Core.List.{List}
use Prim.Native.Nat.{ℕ}
use lib.ListN.{length}
use Rattle.base.specs.Lists.{over}
use Rattle.listing.specs.Answers.{decoded_of}
use Rattle.listing.specs.declared.Decoded.{Decoded}
use Rattle.reader.specs.Reading.{heard_in}
use Rattle.reader.specs.Readable.{batches_first}
use Rattle.reader.specs.Answers.{judge_decoded, answered, read_listing, lines_read}
use Rattle.reader.proofs.AnswerLaws.{readable}
use Rattle.reader.proofs.read_listing.Goals as goal

-- what is decoded is read as the listing
read_as : (s : List ℕ) (room : ℕ) {d : Decoded} → d ≡ decoded_of s
    → answered (judge_decoded d.listing (batches_first d.listing d.words)) (heard_in (batches_first d.listing d.words)) room ≡ read_listing s room
unfolding read_listing
read_as s room e = rw (readable.first s e, readable.verdict s e)

pub read_decoded-requires : goal.read_decoded-requires
read_decoded-requires c = readable.of_decoded c.args.listing.now c.decode-decoded.ensures

pub returns : goal.returns
returns c =
    let r = c.read_decoded in
    let a = c.args in
    let s = a.listing.now in
    let out = a.out.now in record {
      value = r.ensures.value ∙ read_as s (length out) c.decode-decoded.ensures;
      out_after = r.ensures.out_after ∙ ap (λ (ws : List ℕ). over out (lines_read r.result ws)) (readable.first s c.decode-decoded.ensures);
    }
