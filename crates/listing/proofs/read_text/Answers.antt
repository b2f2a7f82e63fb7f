-- `listing::read_text` meets its contract: the preamble's lines, then the batches. Assumes nothing.
use Prim.Native.Nat.{◌≤◌}
use mathlib.Core.Path.{sym, ap, ◌∙◌}
use native.Mathlib.Omega.{arith}
use borrow.Author.Rules.{rules}
use Rattle.base.specs.Lines.{split}
use Rattle.base.specs.Lists.{over}
use Rattle.listing.proofs.BatchLaws.{frames_le, frames_skip, listing_long, decoded_long}
use Rattle.listing.proofs.read_text.Goals as goal

pub read_batches-requires : goal.read_batches-requires
read_batches-requires c =
    let s = c.args.s.now in
    let p = c.preamble_lines-p.result in
    let e = c.preamble_lines-p.ensures in
    (omega (arith, e, frames_le 36 (split s)), (frames_skip p 36 s (omega arith)).1, search rules)

pub returns : goal.returns
returns c =
    let a = c.args in
    let s = a.s.now in
    let p = c.preamble_lines-p.result in
    let e = c.preamble_lines-p.ensures in
    let long : 9 ≤ p = omega arith in
    let r = c.read_batches.ensures in
    record {
      value = r.value ∙ sym (listing_long s p e long);
      words_after = r.words_after ∙ ap (over a.words.now) (sym (decoded_long s p e long));
    }
