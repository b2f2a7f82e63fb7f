-- `job_listing::write_front` meets its contract. Assumes nothing.
use mathlib.Core.Path.{sym, ap, ◌∙◌}
use native.Mathlib.Omega.{arith}
use lib.ListN.{length, take}
use lib.Seq.{length-take-le}
use Rattle.base.specs.Lists.{over}
use Rattle.listing.specs.Text.{text_of}
use Rattle.job_listing.specs.Listed.{Listed, bytes_listed}
use Rattle.job_listing.proofs.ListedLaws.{as_listed, written_is, front_written}
use Rattle.job_listing.proofs.write_front.Goals as goal

pub slice_bounds-write-end : goal.slice_bounds-write-end
slice_bounds-write-end c = sym (length-take-le c.before.args.n c.before.args.words.now (omega arith))

pub returns-in-Some : goal.returns-in-Some
returns-in-Some c =
    let a = c.before.args in
    let ws = take a.n a.words.now in
    let written = sym c.in-Some.is ∙ c.write-answer.ensures.value in
    let answer = ap as_listed written in record {
      value = answer ∙ written_is ws (length a.out.now);
      out_after = c.write-answer.ensures.out_after ∙ ap (over a.out.now) (front_written ws (length a.out.now) ∙ ap (λ (x : Listed). bytes_listed x (text_of ws)) (sym answer));
    }

pub returns-in-None : goal.returns-in-None
returns-in-None c =
    let a = c.before.args in
    let ws = take a.n a.words.now in
    let written = sym c.in-None.is ∙ c.write-answer.ensures.value in
    let answer = ap as_listed written in record {
      value = answer ∙ written_is ws (length a.out.now);
      out_after = c.write-answer.ensures.out_after ∙ ap (over a.out.now) (front_written ws (length a.out.now) ∙ ap (λ (x : Listed). bytes_listed x (text_of ws)) (sym answer));
    }
