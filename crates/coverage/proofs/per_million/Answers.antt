-- `coverage::per_million` meets its contract. Assumes nothing.
use borrow.Author.Tests.{eq-eqb, ne_eqb}
use Rattle.coverage.specs.Rates.{per_million}
use Rattle.coverage.proofs.per_million.Goals as goal

pub returns-then-received-eq0 : goal.returns-then-received-eq0
unfolding per_million
returns-then-received-eq0 c = rw (eq-eqb c.args.received 0 c.if-received-eq0.true)

pub returns : goal.returns
unfolding per_million
returns c = rw (ne_eqb c.args.received 0 c.if-received-eq0.false)
