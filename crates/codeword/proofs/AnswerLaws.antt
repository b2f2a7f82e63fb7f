-- What a caller that has an answer knows of the nearest codeword. Assumes nothing.
use mathlib.Core.Path.{◌≡◌, refl, sym, ap}
use Rattle.std.specs.Prelude.{Option, None, Some}
use Rattle.std.proofs.lemmas.Option.{same_Some}
use Prim.Native.Nat.{ℕ, ◌≤◌}
use native.Mathlib.Omega.{arith}
use lib.Bits.{bit_xor}
use Rattle.codeword.specs.declared.Corrected.{Corrected}
use Rattle.codeword.specs.Answer.{answer, changed_of}
use Rattle.codeword.specs.Nearest.{distance}
use Rattle.codeword.proofs.CodeLaws.{weight_few}

pub answer_corrected : (w : ℕ) (o : Option ℕ) (a : Corrected) → Some a ≡ answer w o → o ≡ Some a.codeword.0
answer_corrected w None a q = let z : ◌≡◌ {A = ℕ} 0 1 = cc in absurd (omega arith)
answer_corrected w (Some d) a q = ap Some (sym (ap (λ (x : Corrected). x.codeword.0) (same_Some _ _ q)))

pub answer_refused : (w : ℕ) (o : Option ℕ) → None ≡ answer w o → o ≡ None
answer_refused w None q = refl
answer_refused w (Some d) q = let z : ◌≡◌ {A = ℕ} 0 1 = cc in absurd (omega arith)

-- no more bits are changed than a word has
pub answer_few : (w : ℕ) (o : Option ℕ) → changed_of (answer w o) ≤ 32
unfolding distance
answer_few w None = omega arith
answer_few w (Some c) = weight_few (bit_xor w c)
