-- Two tests of the bits to flip, which antt computes: one of all errors of at most two bits, one of all remainders at both parities.
-- Assumes nothing.
use mathlib.Core.Path.{◌≡◌, sym, subst}
use mathlib.Core.Bool.{Bool, true, false, cond, ◌&&◌}
use mathlib.Core.Logic.{⊎_elim}
use Rattle.std.specs.Prelude.{Option, None, Some}
use Prim.Native.Nat.{ℕ, ◌+◌, ◌-◌, ◌*◌, ◌/◌, ◌%◌, ◌^◌, ◌<◌}
use native.Mathlib.Nat.{mod-lt}
use native.Mathlib.Omega.{arith}
use lib.Bits.{bit_xor, bit_and}
use lib.Count.{ones_in}
use lib.Dec.{T, eqb, leb, ltb, lit<}
use mir.Val.{bool_byte}
use Rattle.codeword.specs.Code.{reduce, remainder, weight}
use Rattle.codeword.specs.Nearest.{words, errors}
use Rattle.codeword.specs.Places.{checks, right_places, wrong_bits}
use Rattle.codeword.proofs.Syndrome.{syndrome}
use Rattle.codeword.proofs.Tests.{all, below, below_at}
use Rattle.codeword.proofs.XorLaws.{two}

-- 1 where a single bit is wrong
abbrev pub single : ℕ → ℕ
single wrong = bool_byte (eqb (bit_and wrong (wrong - 1)) 0)

-- the bits to flip, if there are at most two, by the checks, the wrong ones of bits 1 to 31 and the parity
abbrev pub flipped : ℕ → ℕ → ℕ → Option ℕ
flipped c wrong odd =
    cond (eqb c 0) (Some odd)
    (cond (eqb wrong 0) None (cond (ltb (single wrong) odd) None (Some (bit_xor wrong (bit_xor (single wrong) odd)))))

-- the same, by the checks and the parity
unfoldable pub found : ℕ → ℕ → Option ℕ
found c odd = flipped c (wrong_bits c) odd

-- e was found
abbrev pub is_found : ℕ → Option ℕ → Bool
is_found e None = false
is_found e (Some d) = eqb d e

-- every error of at most two bits is found
pub all_found : T (all (λ e. is_found e (found (checks (e / 2)) (weight e % 2))) (errors 32))
unfolding found checks right_places wrong_bits weight ones_in errors words
all_found = tt

-- e is an error of at most two bits with the syndrome z
abbrev pub explains : ℕ → ℕ → Bool
explains z e = ltb e (2 ^ 32) && (leb (weight e) 2 && eqb (syndrome e) z)

-- what was found, if anything, explains the syndrome z
abbrev pub explaining : ℕ → Option ℕ → Bool
explaining z None = true
explaining z (Some e) = explains z e

-- so it is for a remainder with these checks and wrong bits, at both parities
unfoldable pub both : ℕ → ℕ → ℕ → Bool
both r c wrong = explaining (r * 2) (flipped c wrong 0) && explaining (r * 2 + 1) (flipped c wrong 1)

unfoldable pub tested : ℕ → Bool
tested r = both r (checks r) (wrong_bits (checks r))

-- so it is for every remainder; in two halves, since antt limits a single computation
unfoldable half : ℕ → Bool
half k = below (λ i. tested (k * 512 + i)) 512

lower_half : T (half 0)
unfolding half tested both checks right_places wrong_bits syndrome remainder reduce weight ones_in
lower_half = tt

upper_half : T (half 1)
unfolding half tested both checks right_places wrong_bits syndrome remainder reduce weight ones_in
upper_half = tt

pub all_tested : (r : ℕ) → r < 1024 → T (tested r)
unfolding half
all_tested r h =
    let k = r / 512 in
    let whole : k * 512 + r % 512 ≡ r = omega arith in
    let its_half : T (half k) =
    ⊎_elim (λ e. subst (λ (x : ℕ). T (half x)) (sym e) lower_half) (λ e. subst (λ (x : ℕ). T (half x)) (sym e) upper_half)
    (two k (omega arith)) in
    subst (λ (x : ℕ). T (tested x)) whole (below_at (λ i. tested (k * 512 + i)) 512 its_half (r % 512) (mod-lt r (lit< tt)))
