-- `phrases::find_phrase` meets its contract. Assumes nothing.
use Rattle.std.proofs.Common.{arith}
use Rattle.phrases.proofs.Phrases.{unnamed, named}
use Rattle.phrases.proofs.find_phrase.Goals as goal

pub returns-in_default : goal.returns-in_default
returns-in_default c = unnamed _ _ (λ t. omega (arith, t))

pub returns-in_default-2 : goal.returns-in_default-2
returns-in_default-2 c = unnamed _ _ (λ t. omega (arith, t))

pub returns-in_default-3 : goal.returns-in_default-3
returns-in_default-3 c = unnamed _ _ (λ t. omega (arith, t))

pub returns-in_default-4 : goal.returns-in_default-4
returns-in_default-4 c = unnamed _ _ (λ t. omega (arith, t))

pub returns-in_default-5 : goal.returns-in_default-5
returns-in_default-5 c = unnamed _ _ (λ t. omega (arith, t))

pub returns-in_default-6 : goal.returns-in_default-6
returns-in_default-6 c = unnamed _ _ (λ t. omega (arith, t))

pub returns : goal.returns
returns c = named _ _ (record { two = omega arith; first = (omega arith, omega arith); second = (omega arith, omega arith) }) c.from.ensures c.phrase_at.ensures
