use mathlib.Core.Path.{◌≡◌, ◌∙◌}
use native.Mathlib.Omega.{arith}
use lib.ListN.{length, length-set}
use Rattle.transmission.proofs.Begun.{begun_first, begun_more}
use Rattle.transmission.proofs.write_sending.Invariants.{sent}
use Rattle.transmission.proofs.write_sending.Goals as goal

pub loop-j-preserved : goal.loop-j-preserved
loop-j-preserved c =
    let args = c.args in (
      length-set c.loop-j.words c.slot_index-in-loop-j.result c.word-in-loop-j.result ∙ c.loop-j.invariant.0,
      λ w e. begun_more (sent args.identity args.function args.groups.now) args.slot w c.loop-j.j (c.loop-j.invariant.1 w e) c.slot_index-in-loop-j.ensures
          (c.word-in-loop-j.ensures ∙ c.message.ensures),
    )

pub returns : goal.returns
returns c =
    let args = c.args in
    let x = sent args.identity args.function args.groups.now in
    let e : c.loop-j.j ≡ length x.groups = omega arith in
    c.loop-j.invariant.1 args.words.now
    (begun_first x args.slot args.words.now c.slot_index.ensures (c.word.ensures ∙ c.address.ensures))
    ∙ rw e
