-- A word with the bits flipped that are found for it is the nearest codeword, by the tests; and how many bits these are. Assumes nothing.
use mathlib.Core.Path.{◌≡◌, refl, sym, ap, ap₂, ◌∙◌, subst}
use mathlib.Core.Bool.{◌&&◌}
use mathlib.Core.Logic.{⊎_elim}
use Rattle.std.specs.Prelude.{Option, None, Some}
use Prim.Native.Nat.{ℕ, ◌+◌, ◌-◌, ◌*◌, ◌/◌, ◌%◌, ◌^◌, ◌≤◌, ◌<◌}
use native.Mathlib.Nat.{add-zero, mod-lt}
use native.Mathlib.Omega.{arith}
use lib.Bits.{bit_xor}
use lib.Dec.{T, eqb, leb, ltb, eqb→eq, leb→le, ltb→lt, lit<}
use borrow.Author.Tests.{lt-ltb, le-ltb, eq-eqb, ne_eqb}
use Rattle.base.proofs.Bools.{and_left, and_right}
use Rattle.codeword.specs.Answer.{corrected_to, answer}
use Rattle.codeword.specs.Code.{remainder, weight}
use Rattle.codeword.specs.declared.Corrected.{Corrected}
use Rattle.codeword.specs.Nearest.{distance, errors, nearest}
use Rattle.codeword.specs.Places.{checks, wrong_bits}
use Rattle.codeword.proofs.CheckLaws.{checks_remainder, checks_none}
use Rattle.codeword.proofs.CodeLaws.{weight_none, weight_bit}
use Rattle.codeword.proofs.Decode.{corrected, refused}
use Rattle.codeword.proofs.FlipTests.{single, flipped, found, is_found, all_found, explains, explaining, both, tested, all_tested}
use Rattle.codeword.proofs.Linear.{remainder_lt}
use Rattle.codeword.proofs.Syndrome.{syndrome, Explains}
use Rattle.codeword.proofs.Tests.{all_at}
use Rattle.codeword.proofs.Unique.{in_errors}
use Rattle.codeword.proofs.XorLaws.{two, xor_assoc, xor_cancel}

-- ---- what the tests show

explained : (z e : ℕ) → T (explains z e) → Explains z e
explained z e t =
    let rest : T (leb (weight e) 2 && eqb (syndrome e) z) = and_right (ltb e (2 ^ 32)) (leb (weight e) 2 && eqb (syndrome e) z) t in
    record {
      fits = ltb→lt e (2 ^ 32) (and_left (ltb e (2 ^ 32)) (leb (weight e) 2 && eqb (syndrome e) z) t);
      few = leb→le (weight e) 2 (and_left (leb (weight e) 2) (eqb (syndrome e) z) rest);
      explains = eqb→eq (syndrome e) z (and_right (leb (weight e) 2) (eqb (syndrome e) z) rest);
    }

error_found : (e : ℕ) → e < 2 ^ 32 → weight e ≤ 2 → T (is_found e (found (checks (e / 2)) (weight e % 2)))
unfolding weight
error_found e h few =
    all_at (λ e. is_found e (found (checks (e / 2)) (weight e % 2))) (errors 32) all_found e (in_errors 32 e h few)

-- what was found for the syndrome z: bits that explain it, or none where nothing does
abbrev Right : ℕ → Option ℕ → Type 0
Right z None = (e : ℕ) → Explains z e → ⊥
Right z (Some e) = Explains z e

module _ (r o : ℕ) (hr : r < 1024) (ho : o < 2) where
  at_parity : T (explaining (r * 2 + o) (found (checks r) o))
  unfolding found both tested
  at_parity =
      let c = checks r in
      let wrong = wrong_bits c in
      let even = explaining (r * 2) (flipped c wrong 0) in
      let odd = explaining (r * 2 + 1) (flipped c wrong 1) in
      let t : T (even && odd) = all_tested r hr in
      ⊎_elim
      (λ e. subst (λ (x : ℕ). T (explaining (r * 2 + x) (flipped c wrong x))) (sym e)
      (subst (λ (z : ℕ). T (explaining z (flipped c wrong 0))) (sym (add-zero (r * 2))) (and_left even odd t)))
      (λ e. subst (λ (x : ℕ). T (explaining (r * 2 + x) (flipped c wrong x))) (sym e) (and_right even odd t))
      (two o ho)

  -- an error that explains the syndrome has its remainder and its parity, and so it was found
  its_error : (e : ℕ) → Explains (r * 2 + o) e → T (is_found e (found (checks r) o))
  unfolding syndrome
  its_error e x =
      let z : remainder 31 (e / 2) * 2 + weight e % 2 ≡ r * 2 + o = x.explains in
      let same_r : remainder 31 (e / 2) ≡ r = omega arith in
      let same_o : weight e % 2 ≡ o = omega arith in
      let same_checks : checks (e / 2) ≡ checks r = checks_remainder (e / 2) (omega (arith, x.fits)) ∙ ap checks same_r in
      subst (λ (b : Option ℕ). T (is_found e b)) (ap₂ found same_checks same_o) (error_found e x.fits x.few)

  right_at : (b : Option ℕ) → found (checks r) o ≡ b → Right (r * 2 + o) b
  right_at None q = λ e x. subst (λ (b : Option ℕ). T (is_found e b)) q (its_error e x)
  right_at (Some e) q = explained (r * 2 + o) e (subst (λ (b : Option ℕ). T (explaining (r * 2 + o) b)) q at_parity)

-- ---- what the code makes of it

-- the answer to a word, by the bits to flip, if there are such
abbrev answer_by : ℕ → Option ℕ → Option Corrected
answer_by w None = None
answer_by w (Some e) = corrected_to (bit_xor w e) (weight e)

module _ (w c o : ℕ) (h : w < 2 ^ 32) (p : c ≡ checks (w / 2)) (q : o ≡ weight w % 2) where
  right : (b : Option ℕ) → flipped c (wrong_bits c) o ≡ b → Right (syndrome w) b
  unfolding syndrome found
  right b e =
      let r = remainder 31 (w / 2) in
      let here : found (checks r) (weight w % 2) ≡ found c o = ap₂ found (sym (checks_remainder (w / 2) (omega arith)) ∙ sym p) (sym q) in
      right_at r (weight w % 2) (remainder_lt 31 (w / 2)) (mod-lt (weight w) (lit< tt)) b (here ∙ e)

  is_answer : (b : Option ℕ) → Right (syndrome w) b → answer w (nearest w) ≡ answer_by w b
  unfolding distance
  is_answer None f = ap (answer w) (refused w h f)
  is_answer (Some e) x = ap (answer w) (corrected w h e x) ∙ ap (λ (d : ℕ). corrected_to (bit_xor w e) (weight d)) (xor_cancel w e)

  by_found : answer w (nearest w) ≡ answer_by w (flipped c (wrong_bits c) o)
  by_found = is_answer (flipped c (wrong_bits c) o) (right (flipped c (wrong_bits c) o) refl)

  pub no_check : c ≡ 0 → corrected_to (bit_xor w o) o ≡ answer w (nearest w)
  no_check z = sym (by_found ∙ rw (eq-eqb c 0 z, weight_bit o (omega arith)))

  module _ (wrong : ℕ) (g : wrong ≡ wrong_bits c) (n : c ≡ 0 → ⊥) where
    by_bits : answer w (nearest w) ≡ answer_by w (flipped c wrong o)
    by_bits = by_found ∙ ap (λ (x : ℕ). answer_by w (flipped c x o)) (sym g)

    pub more_wrong : wrong ≡ 0 → None ≡ answer w (nearest w)
    more_wrong z = sym (by_bits ∙ rw (ne_eqb c 0 n, eq-eqb wrong 0 z))

    -- some bit is wrong, and the parity tells whether one or two
    count : (e : ℕ) → flipped c wrong o ≡ Some e → weight e ≡ 2 - o
    unfolding syndrome
    count e f =
        let x = right (Some e) (ap (λ (x : ℕ). flipped c x o) (sym g) ∙ f) in
        let z : remainder 31 (e / 2) * 2 + weight e % 2 ≡ remainder 31 (w / 2) * 2 + weight w % 2 = x.explains in
        let some_bit : weight e ≡ 0 → ⊥ = λ zeros.
        let r : remainder 31 (w / 2) ≡ remainder 31 0 = omega (arith, ap (λ (x : ℕ). remainder 31 (x / 2)) (weight_none e x.fits zeros)) in
        n (p ∙ checks_remainder (w / 2) (omega arith) ∙ ap checks r ∙ checks_none) in
        omega (arith, x.few)

    module _ (m : wrong ≡ 0 → ⊥) (one : ℕ) (s : one ≡ single wrong) where
      pub third_bit : one < o → None ≡ answer w (nearest w)
      third_bit l = sym (by_bits ∙ rw (ne_eqb c 0 n, ne_eqb wrong 0 m, sym s, lt-ltb one o l))

      pub few_bits : o ≤ one → corrected_to (bit_xor (bit_xor w wrong) (bit_xor one o)) (2 - o) ≡ answer w (nearest w)
      few_bits l =
          let e = bit_xor wrong (bit_xor one o) in
          let f : flipped c wrong o ≡ Some e = rw (ne_eqb c 0 n, ne_eqb wrong 0 m, sym s, le-ltb one o l) in
          ap₂ (λ (x n : ℕ). corrected_to x n) (xor_assoc w wrong (bit_xor one o)) (sym (count e f))
          ∙ sym (by_bits ∙ ap (answer_by w) f)
