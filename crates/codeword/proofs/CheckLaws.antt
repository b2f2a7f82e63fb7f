-- The checks of a word are linear, and those of its remainder. Assumes nothing.
use mathlib.Core.Path.{◌≡◌, refl, sym, ap, ap₂, ◌∙◌}
use Prim.Native.Nat.{ℕ, ◌^◌, ◌<◌}
use lib.Bits.{bit_xor}
use Rattle.codeword.specs.Code.{reduce, remainder}
use Rattle.codeword.specs.Places.{checks}
use Rattle.codeword.proofs.Linear.{remainder_xor}
use Rattle.codeword.proofs.Maps.{Map, word, left, right, low, sum, run, Linear, linear, agree, equal}

scheme : Map
scheme =
    let twice = sum word (left 64 31 word) in
    let part = sum (sum twice (right 2 twice)) (right 5 twice) in
    low 41 (sum (sum (sum (sum (sum part (right 1 part)) (right 2 part)) (right 4 part)) (right 8 part)) (right 16 part))

as_map : (p : ℕ) → checks p ≡ run scheme p
unfolding checks scheme run
as_map p = refl

checks_xor : Linear checks
checks_xor a b = as_map (bit_xor a b) ∙ linear scheme a b ∙ ap₂ bit_xor (sym (as_map a)) (sym (as_map b))

of_remainder : Linear (λ p. checks (remainder 31 p))
of_remainder a b = ap checks (remainder_xor 31 a b) ∙ checks_xor (remainder 31 a) (remainder 31 b)

pub checks_remainder : (p : ℕ) → p < 2 ^ 31 → checks p ≡ checks (remainder 31 p)
unfolding agree checks remainder reduce
checks_remainder p h = equal checks (λ p. checks (remainder 31 p)) checks_xor of_remainder 31 tt p h

-- nothing is left of 0, and checks 0
pub checks_none : checks (remainder 31 0) ≡ 0
unfolding checks remainder reduce
checks_none = refl
