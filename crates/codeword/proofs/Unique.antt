-- At most one codeword is within two bits of a word: the 529 errors of at most two bits have distinct syndromes, by one
-- test that antt computes. Assumes nothing.
use mathlib.Core.Path.{◌≡◌, refl, sym, ap, ◌∙◌}
use mathlib.Core.List.Memᴰ
use mathlib.Core.List.{◌++◌, map, Memᴰ}
use mathlib.Core.Logic.{◌⊎◌, inl, inr, ⊎_elim}
use Prim.Native.Nat.{ℕ, zero, suc, ◌+◌, ◌*◌, ◌/◌, ◌^◌, ◌≤◌, ◌<◌}
use native.Mathlib.Nat.{pow-suc}
use native.Mathlib.Omega.{arith}
use lib.Bits.{bit_xor, xor_lt, xor_zero_r}
use lib.Count.{ones_in}
use lib.Dec.{T}
use Rattle.codeword.specs.Code.{reduce, remainder, weight}
use Rattle.codeword.specs.CorrectionTheorem.{Obeying, Near}
use Rattle.codeword.specs.Nearest.{distance, words, errors}
use Rattle.codeword.proofs.Linear.{syndrome_xor}
use Rattle.codeword.proofs.CodeLaws.{obeys_syndrome}
use Rattle.codeword.proofs.Syndrome.{syndrome}
use Rattle.codeword.proofs.Tests.{distinct, injective}
use Rattle.codeword.proofs.XorLaws.{bit, xor_cancel}

-- a number of k bits of which d are ones is in the list of them
in_words : (k d e : ℕ) → e < 2 ^ k → ones_in k e ≡ d → Memᴰ e (words k d)
unfolding words ones_in
in_words zero zero e h g = Memᴰ.head {x = 0} (omega arith)
in_words zero (suc d) e h g = absurd (omega arith)
in_words (suc k) zero e h g =
    let last : e ≡ e / 2 * 2 = omega arith in
    Memᴰ.cast last (Memᴰ.map (λ x. x * 2) (in_words k zero (e / 2) (omega (arith, pow-suc 2 k)) (omega arith)))
in_words (suc k) (suc d) e h g =
    ⊎_elim
    (λ even.
    let last : e ≡ e / 2 * 2 = omega arith in
    Memᴰ.append_left (map (λ x. x * 2 + 1) (words k d))
    (Memᴰ.cast last (Memᴰ.map (λ x. x * 2) (in_words k (suc d) (e / 2) (omega (arith, pow-suc 2 k)) (omega arith)))))
    (λ odd.
    let last : e ≡ e / 2 * 2 + 1 = omega arith in
    Memᴰ.append_right (map (λ x. x * 2) (words k (suc d)))
    (Memᴰ.cast last (Memᴰ.map (λ x. x * 2 + 1) (in_words k d (e / 2) (omega (arith, pow-suc 2 k)) (omega arith)))))
    (bit e)

three : (n : ℕ) → n ≤ 2 → (n ≡ 0) ⊎ ((n ≡ 1) ⊎ (n ≡ 2))
three zero h = inl refl
three (suc zero) h = inr (inl refl)
three (suc (suc zero)) h = inr (inr refl)
three (suc (suc (suc n))) h = absurd (omega arith)

-- every error of at most two of k bits is in the list
pub in_errors : (k e : ℕ) → e < 2 ^ k → ones_in k e ≤ 2 → Memᴰ e (errors k)
unfolding errors
in_errors k e h g =
    ⊎_elim
    (λ q. Memᴰ.append_left (words k 1 ++ words k 2) (in_words k 0 e h q))
    (⊎_elim
    (λ q. Memᴰ.append_right (words k 0) (Memᴰ.append_left (words k 2) (in_words k 1 e h q)))
    (λ q. Memᴰ.append_right (words k 0) (Memᴰ.append_right (words k 1) (in_words k 2 e h q))))
    (three (ones_in k e) g)

distinct_syndromes : T (distinct (map syndrome (errors 32)))
unfolding syndrome remainder reduce weight ones_in errors words
distinct_syndromes = tt

-- two errors of at most two bits with the same syndrome are the same
pub error_unique : (a b : ℕ) → a < 2 ^ 32 → b < 2 ^ 32 → weight a ≤ 2 → weight b ≤ 2 → syndrome a ≡ syndrome b → a ≡ b
unfolding weight
error_unique a b ha hb ga gb e =
    injective syndrome (errors 32) distinct_syndromes a b (in_errors 32 a ha ga) (in_errors 32 b hb gb) e

-- the syndrome of a word is that of its error
pub error_syndrome : (w c : ℕ) → Obeying c → syndrome (bit_xor w c) ≡ syndrome w
error_syndrome w c o = syndrome_xor w c ∙ ap (bit_xor (syndrome w)) (obeys_syndrome c o.fits o.obeying) ∙ xor_zero_r (syndrome w)

-- at most one codeword is at most two bits away
pub unique : (w c d : ℕ) → w < 2 ^ 32 → Near w c → Near w d → c ≡ d
unfolding distance
unique w c d hw n m =
    sym (xor_cancel w c)
    ∙ ap (bit_xor w)
    (error_unique (bit_xor w c) (bit_xor w d) (xor_lt 32 w c hw n.codeword.fits) (xor_lt 32 w d hw m.codeword.fits) n.close m.close
    (error_syndrome w c n.codeword ∙ sym (error_syndrome w d m.codeword)))
    ∙ xor_cancel w d
