-- A word three bits away from a codeword is at most two bits away from none. By parity another codeword would be one bit away; flipping
-- one of the three bits back would then give a word at most two bits away from both. Assumes nothing.
use mathlib.Core.Path.{◌≡◌, refl, sym, ap, ◌∙◌}
use mathlib.Core.Logic.{⊎_elim}
use Prim.Native.Nat.{ℕ, zero, suc, ◌+◌, ◌*◌, ◌/◌, ◌%◌, ◌^◌, ◌≤◌, ◌<◌}
use native.Mathlib.Nat.{pow-suc}
use native.Mathlib.Omega.{arith}
use lib.Bits.{bit_xor, xor_lt, xor_comm, xor_zero_r, xor_shr}
use lib.Count.{ones_in}
use lib.Pow.{pow_pos}
use Rattle.codeword.specs.Code.{remainder, weight}
use Rattle.codeword.specs.CorrectionTheorem.{Obeying, Far}
use Rattle.codeword.specs.Nearest.{distance}
use Rattle.codeword.proofs.Syndrome.{syndrome}
use Rattle.codeword.proofs.Unique.{error_syndrome, unique}
use Rattle.codeword.proofs.XorLaws.{bit, xor_odd, xor_assoc}

-- ---- one bit

ones_none : (k : ℕ) → ones_in k 0 ≡ 0
unfolding ones_in
ones_none zero = refl
ones_none (suc k) = omega (arith, ones_none k)

-- a sum has at most the ones of both
ones_sum : (k a b : ℕ) → ones_in k (bit_xor a b) ≤ ones_in k a + ones_in k b
unfolding ones_in
ones_sum zero a b = omega arith
ones_sum (suc k) a b =
    let half : ones_in k (bit_xor a b / 2) ≡ ones_in k (bit_xor (a / 2) (b / 2)) = ap (ones_in k) (xor_shr a b 1) in
    omega (arith, xor_odd a b, ones_sum k (a / 2) (b / 2))

-- one bit of k that is a one of e
record OneOf (k e : ℕ) : Type 0 where
  it : ℕ
  fits : it < 2 ^ k
  single : ones_in k it ≡ 1
  flipped : ones_in k (bit_xor e it) + 1 ≡ ones_in k e

above : (k e : ℕ) → e % 2 ≡ 0 → OneOf k (e / 2) → OneOf (suc k) e
unfolding ones_in
above k e z o =
    let half : o.it * 2 / 2 ≡ o.it = omega arith in
    let up : ones_in k (bit_xor e (o.it * 2) / 2) ≡ ones_in k (bit_xor (e / 2) o.it) =
    ap (ones_in k) (xor_shr e (o.it * 2) 1 ∙ ap (bit_xor (e / 2)) half) in
    let same : ones_in k (o.it * 2 / 2) ≡ ones_in k o.it = ap (ones_in k) half in
    record {
      it = o.it * 2;
      fits = omega (arith, o.fits, pow-suc 2 k);
      single = omega (arith, o.single);
      flipped = omega (arith, xor_odd e (o.it * 2), o.flipped);
    }

lowest : (k e : ℕ) → e % 2 ≡ 1 → OneOf (suc k) e
unfolding ones_in
lowest k e z =
    let up : ones_in k (bit_xor e 1 / 2) ≡ ones_in k (e / 2) = ap (ones_in k) (xor_shr e 1 1 ∙ xor_zero_r (e / 2)) in
    record {
      it = 1;
      fits = omega (arith, pow-suc 2 k, pow_pos k);
      single = omega (arith, ones_none k);
      flipped = omega (arith, xor_odd e 1);
    }

one_of : (k e : ℕ) → 0 < ones_in k e → OneOf k e
unfolding ones_in
one_of zero e h = absurd (omega arith)
one_of (suc k) e h = ⊎_elim (λ z. above k e z (one_of k (e / 2) (omega arith))) (λ z. lowest k e z) (bit e)

-- ---- two codewords

-- errors that explain the same word by two codewords are both odd or both even
same_parity : (w c d : ℕ) → Obeying c → Obeying d → weight (bit_xor w c) % 2 ≡ weight (bit_xor w d) % 2
unfolding syndrome
same_parity w c d o p =
    let e : remainder 31 (bit_xor w c / 2) * 2 + weight (bit_xor w c) % 2 ≡ remainder 31 (bit_xor w d / 2) * 2 + weight (bit_xor w d) % 2 =
    error_syndrome w c o ∙ sym (error_syndrome w d p) in
    omega arith

-- a bit flipped in a word is flipped in its error
moved : (w b c : ℕ) → bit_xor (bit_xor w b) c ≡ bit_xor (bit_xor w c) b
moved w b c = xor_assoc w b c ∙ ap (bit_xor w) (xor_comm b c) ∙ sym (xor_assoc w c b)

pub three_far : (w c : ℕ) → w < 2 ^ 32 → Obeying c → distance w c ≡ 3 → Far w
unfolding distance weight
three_far w c h o e d n =
    let b = one_of 32 (bit_xor w c) (omega arith) in
    let odd : ones_in 32 (bit_xor w c) % 2 ≡ ones_in 32 (bit_xor w d) % 2 = same_parity w c d o n.codeword in
    let few : ones_in 32 (bit_xor w d) ≤ 2 = n.close in
    let to_c : ones_in 32 (bit_xor (bit_xor w b.it) c) ≡ ones_in 32 (bit_xor (bit_xor w c) b.it) = ap (ones_in 32) (moved w b.it c) in
    let to_d : ones_in 32 (bit_xor (bit_xor w b.it) d) ≡ ones_in 32 (bit_xor (bit_xor w d) b.it) = ap (ones_in 32) (moved w b.it d) in
    let same : c ≡ d =
    unique (bit_xor w b.it) c d (xor_lt 32 w b.it h b.fits)
    (record { codeword = o; close = omega (arith, b.flipped) })
    (record { codeword = n.codeword; close = omega (arith, ones_sum 32 (bit_xor w d) b.it, b.single) }) in
    let still : ones_in 32 (bit_xor w c) ≡ ones_in 32 (bit_xor w d) = ap (λ (x : ℕ). ones_in 32 (bit_xor w x)) same in
    omega arith
