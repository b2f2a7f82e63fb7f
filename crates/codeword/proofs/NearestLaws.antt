-- What the search for the nearest codeword finds: the one codeword at most two bits away, or none where there is none.
-- Assumes nothing.
use mathlib.Core.Path.{◌≡◌, refl, sym, ap, ◌∙◌, subst}
use mathlib.Core.Bool.{Bool, true, false, ◌&&◌}
use mathlib.Core.List.Memᴰ
use mathlib.Core.List.{List, [], ◌∷◌, map, Memᴰ}
use mathlib.Core.Logic.{⊎_elim}
use Rattle.std.specs.Prelude.{Option, None, Some}
use Prim.Native.Nat.{ℕ, ◌^◌, ◌≤◌, ◌<◌}
use native.Mathlib.Omega.{arith}
use lib.Bits.{bit_xor, xor_lt, xor_self}
use lib.Count.{ones_in}
use lib.Dec.{T, leb, ltb, leb→le, ltb→lt}
use Rattle.base.proofs.Bools.{and_left, and_right}
use Rattle.codeword.specs.Answer.{answer, changed_of, changed}
use Rattle.codeword.specs.Code.{weight, obeys, sync}
use Rattle.codeword.specs.CorrectionTheorem.{Near, Far}
use Rattle.codeword.specs.Nearest.{distance, words, errors, or_else, first_codeword, nearest}
use Rattle.codeword.proofs.CodeLaws.{sync_obeying}
use Rattle.codeword.proofs.Tests.{all, all_at}
use Rattle.codeword.proofs.Unique.{in_errors, unique}
use Rattle.codeword.proofs.XorLaws.{xor_cancel}

-- what the search among the words with one of the errors es gives
abbrev pub Outcome : ℕ → List ℕ → Option ℕ → Type 0
Outcome w es None = (e : ℕ) → Memᴰ e es → T (obeys (bit_xor w e)) → ⊥
Outcome w es (Some c) = (e : ℕ) × Memᴰ e es × T (obeys c) × (c ≡ bit_xor w e)

later : (w x : ℕ) (es : List ℕ) → (T (obeys (bit_xor w x)) → ⊥) → (o : Option ℕ) → Outcome w es o → Outcome w (x ∷ es) o
later w x es f None out = λ e m t.
    ⊎_elim (λ q. f (subst (λ (y : ℕ). T (obeys (bit_xor w y))) q t)) (λ m'. out e m' t) (Memᴰ.cases_cons m)
later w x es f (Some c) out = (out.0, Memᴰ.tail out.1, out.2, out.3)

one : (w x : ℕ) (es : List ℕ) (b : Bool) → obeys (bit_xor w x) ≡ b → (o : Option ℕ) → Outcome w es o
    → Outcome w (x ∷ es) (or_else b (bit_xor w x) o)
one w x es true q o out = (x, Memᴰ.head refl, subst T (sym q) tt, refl)
one w x es false q o out = later w x es (λ t. subst T q t) o out

pub searched : (w : ℕ) (es : List ℕ) → Outcome w es (first_codeword (map (bit_xor w) es))
unfolding first_codeword
searched w [] = λ e m t. Memᴰ.not-nil m
searched w (x ∷ es) = one w x es (obeys (bit_xor w x)) refl (first_codeword (map (bit_xor w) es)) (searched w es)

small : ℕ → Bool
small e = leb (weight e) 2 && ltb e (2 ^ 32)

all_small : T (all small (errors 32))
unfolding small weight ones_in errors words
all_small = tt

outcome : (w : ℕ) → Outcome w (errors 32) (nearest w)
unfolding nearest
outcome w = searched w (errors 32)

-- a word with one of the errors is at most two bits away
close_by : (w c e : ℕ) → Memᴰ e (errors 32) → c ≡ bit_xor w e → distance w c ≤ 2
unfolding distance small
close_by w c e m q =
    let s : T (leb (weight e) 2 && ltb e (2 ^ 32)) = all_at small (errors 32) all_small e m in
    subst (λ (x : ℕ). weight x ≤ 2) (sym (ap (bit_xor w) q ∙ xor_cancel w e)) (leb→le (weight e) 2 (and_left (leb (weight e) 2) (ltb e (2 ^ 32)) s))

few_by : (w : ℕ) (o : Option ℕ) → Outcome w (errors 32) o → changed_of (answer w o) ≤ 2
few_by w None out = omega arith
few_by w (Some c) out = close_by w c out.0 out.1 out.3

-- no more than two bits are changed
pub changed_few : (w : ℕ) → changed w ≤ 2
changed_few w = few_by w (nearest w) (outcome w)

module _ (w : ℕ) (hw : w < 2 ^ 32) where
  near : (c e : ℕ) → Memᴰ e (errors 32) → T (obeys c) → c ≡ bit_xor w e → Near w c
  unfolding small
  near c e m t q =
      let s : T (leb (weight e) 2 && ltb e (2 ^ 32)) = all_at small (errors 32) all_small e m in
      let he : e < 2 ^ 32 = ltb→lt e (2 ^ 32) (and_right (leb (weight e) 2) (ltb e (2 ^ 32)) s) in
      record {
        codeword = record { fits = subst (λ (x : ℕ). x < 2 ^ 32) (sym q) (xor_lt 32 w e hw he); obeying = t };
        close = close_by w c e m q;
      }

  found : (o : Option ℕ) → Outcome w (errors 32) o → (c : ℕ) → o ≡ Some c → Near w c
  found None out c q = let z : ◌≡◌ {A = ℕ} 0 1 = cc in absurd (omega arith)
  found (Some d) out c q = let same : d ≡ c = cc in subst (Near w) same (near d out.0 out.1 out.2 out.3)

  is : (o : Option ℕ) → Outcome w (errors 32) o → (c : ℕ) → Near w c → o ≡ Some c
  unfolding distance weight
  is None out c n =
      absurd (out (bit_xor w c) (in_errors 32 (bit_xor w c) (xor_lt 32 w c hw n.codeword.fits) n.close)
      (subst (λ (x : ℕ). T (obeys x)) (sym (xor_cancel w c)) n.codeword.obeying))
  is (Some d) out c n = ap Some (unique w d c hw (near d out.0 out.1 out.2 out.3) n)

  missing : (o : Option ℕ) → Outcome w (errors 32) o → Far w → o ≡ None
  missing None out f = refl
  missing (Some d) out f = absurd (f d (near d out.0 out.1 out.2 out.3))

  -- a codeword at most two bits away is what is found
  pub nearest_is : (c : ℕ) → Near w c → nearest w ≡ Some c
  nearest_is = is (nearest w) (outcome w)

  -- what is found is a codeword at most two bits away
  pub nearest_near : (c : ℕ) → nearest w ≡ Some c → Near w c
  nearest_near = found (nearest w) (outcome w)

  -- where no codeword is at most two bits away, none is found
  pub nearest_none : Far w → nearest w ≡ None
  nearest_none = missing (nearest w) (outcome w)

  -- where none is found, no codeword is at most two bits away
  pub none_near : nearest w ≡ None → Far w
  none_near q c n = let found : nearest w ≡ Some c = nearest_is c n in let z : ◌≡◌ {A = ℕ} 0 1 = cc in omega arith

-- a word at most two bits away from sync is corrected to it
pub sync_near : (w : ℕ) → w < 2 ^ 32 → distance w sync ≤ 2 → nearest w ≡ Some sync
sync_near w h d = nearest_is w h sync (record { codeword = sync_obeying; close = d })

-- a word differs from itself in no bit
pub distance_self : (c : ℕ) → distance c c ≡ 0
unfolding distance weight ones_in
distance_self c = ap (ones_in 32) (xor_self c)
