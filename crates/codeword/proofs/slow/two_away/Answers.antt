use mathlib.Core.Path.{sym, ap, ◌∙◌}
use native.Mathlib.Omega.{arith}
use Rattle.std.specs.Prelude.{option_map}
use Rattle.codeword.specs.Tried.{as_codeword}
use Rattle.codeword.proofs.TriedLaws.{tried_start, tried_next, found, none_found, tried_some, tried_none}
use Rattle.codeword.proofs.slow.two_away.Goals as goal

pub loop-k-init : goal.loop-k-init
loop-k-init c = (omega arith, tried_start _ 1)

pub returns-in-Some : goal.returns-in-Some
returns-in-Some c =
    ap (option_map as_codeword) (sym (found _ 1 c.loop-k.k c.loop-k.invariant.1 (omega arith) _ _ (omega arith) (omega arith)
    (tried_some _ _ (sym c.in-Some.is ∙ c.one_away.ensures))))

pub loop-k-preserved : goal.loop-k-preserved
loop-k-preserved c = (
  omega arith,
  tried_next _ 1 c.loop-k.k c.loop-k.invariant.1 (omega arith) ∙ tried_none _ (sym c.in_default.is ∙ c.one_away.ensures),
)

pub returns : goal.returns
returns c = none_found _ 2 _ _ c.loop-k.invariant.1 (omega arith)
