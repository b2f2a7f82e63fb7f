use Prim.Native.Nat.{◌+◌, ◌-◌, ◌*◌}
use mathlib.Core.Path.{◌≡◌, refl, ap, ◌∙◌}
use native.Mathlib.Omega.{arith}
use borrow.Author.Tests.{le-ltb}
use lib.ListN.{length, get_or, take, drop, length-drop}
use lib.Seq.{length-take-le, take_all}
use Rattle.base.specs.Hex.{digits_of}
use Rattle.base.specs.Lists.{over}
use Rattle.listing.specs.Text.{text_from, text_of}
use Rattle.listing.proofs.TextLaws.{text_length, text_written}
use Rattle.listing.proofs.write.Goals as goal

pub loop-k-init : goal.loop-k-init
unfolding text_from
loop-k-init c = (omega arith, refl)

pub loop-k-preserved : goal.loop-k-preserved
loop-k-preserved c =
    let l = c.loop-k in
    let a = c.args in
    let ws = a.words.now in
    let at = 9 * l.k in
    let n : at + 8 - at ≡ 8 = omega arith in
    let part = take (at + 8 - at) (drop at l.out) in
    let eight : length part ≡ 8 = length-take-le (at + 8 - at) (drop at l.out) (omega (arith, length-drop at l.out)) ∙ n in
    let digits = c.write_digits.ensures ∙ ap (λ m. digits_of m (get_or ws l.k 0)) eight in
    let next = text_written a.out.now ws l.k (at + 8 - at) l.invariant.1 (omega arith) l.invariant.0 digits n c.word_end.ensures in
    (l.invariant.0, next)

pub returns : goal.returns
returns c =
    let l = c.loop-k in
    let a = c.args in
    let ws = a.words.now in
    let fits = le-ltb (length a.out.now) (9 * length ws) l.invariant.0 in record {
      value = rw fits;
      out_after = rw (fits, take_all (9 * length ws) (text_of ws) (omega (arith, text_length 0 ws))) (l.invariant.1 ∙ ap (λ t. over a.out.now (text_of t)) (take_all l.k ws (omega arith)));
    }
