-- `coverage::cover_listing` meets its contract. Assumes nothing.
use mathlib.Core.Path.{◌≡◌, ◌∙◌}
use mathlib.Core.List.{List}
use Prim.Native.Nat.{ℕ}
use Rattle.listing.specs.Answers.{decoded_of}
use Rattle.listing.specs.declared.Decoded.{Decoded}
use Rattle.reader.specs.Readable.{batches_first}
use Rattle.reader.specs.Answers.{judge_decoded}
use Rattle.reader.proofs.Laws.{readable}
use Rattle.coverage.specs.Report.{of_verdict, coverage_of}
use Rattle.coverage.proofs.cover_listing.Goals as goal

-- what is decoded has the listing's report
covered_as : (s : List ℕ) {d : Decoded} → d ≡ decoded_of s
    → of_verdict (judge_decoded d.listing (batches_first d.listing d.words)) (batches_first d.listing d.words) ≡ coverage_of s
unfolding coverage_of
covered_as s e = rw (readable.first s e, readable.verdict s e)

pub cover_decoded-requires : goal.cover_decoded-requires
cover_decoded-requires c = readable.of_decoded c.args.listing.now c.decode-decoded.ensures

pub returns : goal.returns
returns c = c.cover_decoded.ensures ∙ covered_as c.args.listing.now c.decode-decoded.ensures
