use mathlib.Core.Path.{sym, ap, ◌∙◌}
use native.Mathlib.Omega.{arith}
use Rattle.std.specs.Prelude.{option_map}
use Rattle.codeword.specs.Tried.{as_codeword}
use Rattle.codeword.proofs.TriedLaws.{tried_start, tried_next, found, none_found, itself}
use Rattle.codeword.proofs.slow.one_away.Goals as goal

pub loop-k-init : goal.loop-k-init
loop-k-init c = (omega arith, tried_start _ 0)

pub returns-then-obeys : goal.returns-then-obeys
returns-then-obeys c =
    ap (option_map as_codeword) (sym (found _ 0 c.loop-k.k c.loop-k.invariant.1 (omega arith) _ _ (omega arith) (omega arith)
    (itself _ c.loop-k.k (sym c.obeys.ensures ∙ c.if-obeys.true))))

pub loop-k-preserved : goal.loop-k-preserved
loop-k-preserved c = (
  omega arith,
  tried_next _ 0 c.loop-k.k c.loop-k.invariant.1 (omega arith) ∙ itself _ c.loop-k.k (sym c.obeys.ensures ∙ c.if-obeys.false),
)

pub returns : goal.returns
returns c = none_found _ 1 _ _ c.loop-k.invariant.1 (omega arith)
