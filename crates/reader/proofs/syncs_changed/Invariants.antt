-- `reader::syncs_changed` meets its contract: so far the bits that differ from sync are counted. Assumes nothing.
use mathlib.Core.Path.{◌≡◌}
use Rattle.base.specs.Search.{sum}
use Rattle.codeword.specs.Code.{sync}
use Rattle.codeword.specs.Nearest.{distance}
use Rattle.reader.specs.Reading.{sync_word}
use Rattle.reader.proofs.syncs_changed.Given as goal

abbrev pub invariant-loop-q : goal.invariant-loop-q
invariant-loop-q l = l.changed ≡ sum (λ k. distance (sync_word l.words k) sync) l.q
