-- `placement::is_sendable` meets its contract. Assumes nothing.
use Rattle.std.proofs.Common.{◌≡◌, sum, ltb, rules, arith}
use Rattle.std.specs.List.{list_all}
use Rattle.std.proofs.iter.runs.Sources.{sums}
use Rattle.std.proofs.iter.runs.Made.{chains}
use Rattle.std.proofs.lemmas.Iterator.{YieldsList-from_slice}
use Rattle.std.proofs.lemmas.Iterator.Search.{all_from_yields_List}
use borrow.Author.Tests.{tests}
use Rattle.placement.proofs.Sendable.{unpaired, many, by_lists}
use Rattle.placement.proofs.is_sendable.Goals.{After-all, then-words-frames-via-then-words-frames, then-words-frames-via-else-words-frames+then-frames-gt48}
use Rattle.placement.proofs.is_sendable.Goals as goal

-- the frames' test
framed : (c : After-all) → c.all.result ≡ list_all (λ f. ltb f 8) c.args.frames.now
framed c = all_from_yields_List (λ f. ltb f 8) _ _ _ c.all.ensures.ran (YieldsList-from_slice c.args.frames.now cc) (λ x b q k. search (rules, tests))

pub returns-then-words-frames : goal.returns-then-words-frames
returns-then-words-frames c = elim c.then-words-frames.branch [
  | then-words-frames-via-then-words-frames w ↦ unpaired _ _ w.if-words-frames.true
  | then-words-frames-via-else-words-frames+then-frames-gt48 w ↦ many _ _ w.if-frames-gt48.true
]

pub sum-requires-clause-fits : goal.sum-requires-clause-fits
sum-requires-clause-fits c = search (rules, sums)

pub returns-then-all : goal.returns-then-all
returns-then-all c =
    let total : c.sum.result ≡ sum c.args.words.now = search (rules, chains) in
    rw (total, by_lists c.args.frames.now c.args.words.now (omega arith) (omega arith), ← framed (goal.at.returns-then-all c).After-all, c.if-all.true)

pub returns-else-all : goal.returns-else-all
returns-else-all c =
    rw (by_lists c.args.frames.now c.args.words.now (omega arith) (omega arith), ← framed (goal.at.returns-else-all c).After-all, c.if-all.false)
