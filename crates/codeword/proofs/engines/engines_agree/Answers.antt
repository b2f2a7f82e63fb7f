-- `codeword::engines::engines_agree` meets its contract: both engines promise the same answer. Assumes nothing.
use mathlib.Core.Path.{sym, ◌∙◌}
use Rattle.codeword.proofs.engines.engines_agree.Goals as goal

pub returns : goal.returns
returns c =
    record {
      fast_value = c.correct.ensures ∙ sym c.correct_slowly.ensures;
      slow_value = c.correct_slowly.ensures;
    }
