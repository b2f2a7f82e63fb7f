-- `codeword::slow::correct_slowly` meets its contract. Assumes nothing.
use mathlib.Core.Path.{◌≡◌, sym, ◌∙◌}
use native.Mathlib.Omega.{arith}
use Rattle.std.specs.Prelude.{None, Some}
use Rattle.codeword.proofs.TriedLaws.{at_once, one_bit, two_bits, no_bits}
use Rattle.codeword.proofs.slow.correct_slowly.Goals as goal

pub returns-then-obeys : goal.returns-then-obeys
returns-then-obeys c = at_once _ (sym c.obeys.ensures ∙ c.if-obeys.true)

pub returns-in-Some : goal.returns-in-Some
returns-in-Some c = one_bit _ (sym c.obeys.ensures ∙ c.if-obeys.false) _ (sym c.in-Some.is ∙ c.one_away.ensures)

pub returns-in_err-codeword : goal.returns-in_err-codeword
returns-in_err-codeword c =
    let gone : c.from_residual.result ≡ None = grind arith in
    let none : c.two_away.result ≡ None = grind arith in
    gone
    ∙ no_bits _ (sym c.obeys.ensures ∙ c.if-obeys.false) (sym c.in_default.is ∙ c.one_away.ensures) (sym none ∙ c.two_away.ensures)

pub returns : goal.returns
returns c =
    let found : c.two_away.result ≡ Some c.in_ok-codeword.codeword = grind arith in
    two_bits _ (sym c.obeys.ensures ∙ c.if-obeys.false) (sym c.in_default.is ∙ c.one_away.ensures) _ (sym found ∙ c.two_away.ensures)
