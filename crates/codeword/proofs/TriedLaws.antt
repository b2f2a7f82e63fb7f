-- Trying words one bit more at a time, and what it finds: the nearest codeword. Assumes nothing.
use mathlib.Core.Path.{◌≡◌, refl, sym, ap, ap₂, ◌∙◌, subst}
use mathlib.Core.Bool.{Bool, true, false}
use mathlib.Core.List.{List, [], ◌∷◌, ◌++◌, map}
use mathlib.Core.Logic.{⊎_elim}
use Rattle.std.specs.Prelude.{Option, None, Some, option_map}
use Rattle.std.proofs.lemmas.Option.{none-some, same_Some}
use Prim.Native.Nat.{ℕ, zero, suc, ◌+◌, ◌*◌, ◌-◌, ◌/◌, ◌^◌, ◌≤◌, ◌<◌}
use native.Mathlib.Nat.{add-mul, eq-or-lt_of_le, mul_assoc, mul_comm, mul-one, one-mul, pow-suc}
use native.Mathlib.Numerals.{add-one}
use native.Mathlib.Omega.{arith}
use lib.Bits.{bit_xor, xor_comm, xor_shifted, xor_zero_r}
use lib.Count.{ones_in}
use lib.Dec.{T, eqb, eqb→eq}
use lib.Pow.{pow-add, pow-lt, shl-shr}
use Rattle.codeword.specs.declared.Codeword.{Codeword}
use Rattle.codeword.specs.Answer.{corrected_to, answer}
use Rattle.codeword.specs.Code.{weight, obeys}
use Rattle.codeword.specs.Nearest.{distance, words, errors, or_else, first_codeword, nearest}
use Rattle.codeword.specs.Tried.{tried, as_codeword, tried_codeword}
use Rattle.codeword.proofs.NearestLaws.{Outcome, searched, distance_self}
use Rattle.codeword.proofs.Tests.{all, all_at}
use Rattle.codeword.proofs.XorLaws.{xor_assoc, xor_cancel}

-- the first of two answers that is there
abbrev or_later : Option ℕ → Option ℕ → Option ℕ
or_later None o = o
or_later (Some c) o = Some c

knowing : (q : Option ℕ) {o p : Option ℕ} → o ≡ p → or_later o q ≡ or_later p q
knowing q e = ap (λ (o : Option ℕ). or_later o q) e

else_later : (b : Bool) (x : ℕ) (o p q : Option ℕ) → q ≡ or_later o p → or_else b x q ≡ or_later (or_else b x o) p
else_later true x o p q e = refl
else_later false x o p q e = e

-- a search through two lists
first_of_two : (f : ℕ → ℕ) (xs ys : List ℕ)
    → first_codeword (map f (xs ++ ys)) ≡ or_later (first_codeword (map f xs)) (first_codeword (map f ys))
unfolding first_codeword
first_of_two f [] ys = refl
first_of_two f (x ∷ xs) ys = else_later (obeys (f x)) (f x) (first_codeword (map f xs)) (first_codeword (map f ys)) _ (first_of_two f xs ys)

same_map : (f g h : ℕ → ℕ) → ((x : ℕ) → f (g x) ≡ h x) → (xs : List ℕ) → map f (map g xs) ≡ map h xs
same_map f g h e [] = refl
same_map f g h e (x ∷ xs) = ap₂ ◌∷◌ (e x) (same_map f g h e xs)

module _ (n : ℕ) (l : n < 32) where
  -- bit n + 1
  abbrev it : ℕ
  it = 2 ^ (32 - suc n)

  it_is : 2 ^ 31 / 2 ^ n ≡ it
  it_is =
      let whole : 32 - suc n + n ≡ 31 = omega arith in
      sym (ap (λ (x : ℕ). x / 2 ^ n) (sym (pow-add 2 (32 - suc n) n) ∙ ap (λ (x : ℕ). 2 ^ x) whole)) ∙ shl-shr it n

  -- the bits before it
  before : (e : ℕ) → e * 2 * it ≡ e * 2 ^ (32 - n)
  before e =
      let next : suc (32 - suc n) ≡ 32 - n = omega arith in
      mul_assoc e 2 it ∙ ap (λ (x : ℕ). e * x) (mul_comm 2 it ∙ sym (pow-suc 2 (32 - suc n)) ∙ ap (λ (x : ℕ). 2 ^ x) next)

  with_it : (w e : ℕ) → bit_xor w ((e * 2 + 1) * it) ≡ bit_xor (bit_xor w (2 ^ 31 / 2 ^ n)) (e * 2 ^ (32 - n))
  with_it w e =
      let both : (e * 2 + 1) * it ≡ e * 2 ^ (32 - n) + it = add-mul (e * 2) 1 it ∙ ap₂ ◌+◌ (before e) (one-mul it) in
      ap (bit_xor w) (both ∙ sym (xor_shifted e (32 - n) it (pow-lt (omega arith))) ∙ xor_comm (e * 2 ^ (32 - n)) it)
      ∙ sym (xor_assoc w it (e * 2 ^ (32 - n)))
      ∙ ap (λ (x : ℕ). bit_xor (bit_xor w x) (e * 2 ^ (32 - n))) (sym it_is)

  -- d + 1 of the first n + 1 bits flipped: of the first n, or bit n + 1 and d of the first n
  tried_more : (w d : ℕ) → tried w (suc n) (suc d) ≡ or_later (tried w n (suc d)) (tried (bit_xor w (2 ^ 31 / 2 ^ n)) n d)
  unfolding tried words
  tried_more w d =
      first_of_two (λ e. bit_xor w (e * it)) (map (λ x. x * 2) (words n (suc d))) (map (λ x. x * 2 + 1) (words n d))
      ∙ ap₂ (λ (xs ys : List ℕ). or_later (first_codeword xs) (first_codeword ys))
      (same_map (λ e. bit_xor w (e * it)) (λ x. x * 2) _ (λ e. ap (bit_xor w) (before e)) (words n (suc d)))
      (same_map (λ e. bit_xor w (e * it)) (λ x. x * 2 + 1) _ (with_it w) (words n d))

-- ---- the two loops

-- no bit is flipped: the word itself
no_ones : (n : ℕ) → words n 0 ≡ 0 ∷ []
unfolding words
no_ones zero = refl
no_ones (suc n) = ap (map (λ x. x * 2)) (no_ones n)

pub itself : (w n : ℕ) {b : Bool} → obeys w ≡ b → tried w n 0 ≡ or_else b w None
unfolding tried first_codeword
itself w n e =
    let nothing : 0 * 2 ^ (32 - n) ≡ 0 = omega arith in
    ap (λ (es : List ℕ). first_codeword (map (λ e. bit_xor w (e * 2 ^ (32 - n))) es)) (no_ones n)
    ∙ ap (λ (x : ℕ). or_else (obeys x) x None) (ap (bit_xor w) nothing ∙ xor_zero_r w)
    ∙ ap (λ (b : Bool). or_else b w None) e

-- with no bits to flip nothing is found
pub tried_start : (w d : ℕ) → tried w 0 (suc d) ≡ None
unfolding tried words first_codeword
tried_start w d = refl

-- with all 32 bits it is a part of the search of `nearest`
whole : (w d : ℕ) → tried w 32 d ≡ first_codeword (map (bit_xor w) (words 32 d))
unfolding tried
whole w d = λ i. first_codeword (map (λ e. bit_xor w (mul-one e i)) (words 32 d))

-- each of the numbers that `words 32 d` lists has d ones
abbrev Ones : ℕ → Type 0
Ones d = T (all (λ e. eqb (weight e) d) (words 32 d))

pub one_each : Ones 1
unfolding weight ones_in words
one_each = tt

pub two_each : Ones 2
unfolding weight ones_in words
two_each = tt

-- so what is found with d of them flipped is d bits away
away : (w d c : ℕ) → Ones d → tried w 32 d ≡ Some c → distance w c ≡ d
unfolding distance
away w d c t q =
    let out : Outcome w (words 32 d) (Some c) = subst (Outcome w (words 32 d)) (sym (whole w d) ∙ q) (searched w (words 32 d)) in
    ap weight (ap (bit_xor w) out.3 ∙ xor_cancel w out.0)
    ∙ eqb→eq _ d (all_at (λ e. eqb (weight e) d) (words 32 d) t out.0 out.1)

module _ (w d : ℕ) where
  found_before : (k n c : ℕ) → k ≤ n → n ≤ 32 → tried w k (suc d) ≡ Some c → tried w n (suc d) ≡ Some c
  found_before k zero c l h f = let start : k ≡ 0 = omega arith in subst (λ (x : ℕ). tried w x (suc d) ≡ Some c) start f
  found_before k (suc n) c l h f =
      ⊎_elim
      (λ e. subst (λ (x : ℕ). tried w x (suc d) ≡ Some c) e f)
      (λ m.
      tried_more n h w d
      ∙ knowing (tried (bit_xor w (2 ^ 31 / 2 ^ n)) n d) (found_before k n c (omega arith) (omega arith) f))
      (eq-or-lt_of_le l)

  -- nothing is found with the first k bits, and next comes bit k + 1
  module _ (k : ℕ) (missed : tried w k (suc d) ≡ None) (l : k < 32) where
    pub tried_next : tried w (k + 1) (suc d) ≡ tried (bit_xor w (2 ^ 31 / 2 ^ k)) k d
    tried_next =
        ap (λ (n : ℕ). tried w n (suc d)) (add-one k)
        ∙ tried_more k l w d
        ∙ knowing (tried (bit_xor w (2 ^ 31 / 2 ^ k)) k d) missed

    pub found : (n c : ℕ) → k < n → n ≤ 32 → tried (bit_xor w (2 ^ 31 / 2 ^ k)) k d ≡ Some c → tried w n (suc d) ≡ Some c
    found n c m h f = found_before (k + 1) n c (omega arith) h (tried_next ∙ f)

-- nothing is found with any of them
pub none_found : (w d k n : ℕ) → tried w k d ≡ None → k ≡ n → None ≡ tried_codeword w n d
none_found w d k n missed e = sym (ap (option_map as_codeword) (subst (λ (x : ℕ). tried w x d ≡ None) e missed))

-- what is found, as a codeword
pub tried_some : (o : Option ℕ) (c : Codeword) → Some c ≡ option_map as_codeword o → o ≡ Some c.0
tried_some None c q = absurd (none-some c (sym q))
tried_some (Some d) c q = ap Some (sym (ap (λ (x : Codeword). x.0) (same_Some _ _ q)))

pub tried_none : (o : Option ℕ) → None ≡ option_map as_codeword o → o ≡ None
tried_none None q = refl
tried_none (Some d) q = absurd (none-some _ q)

-- ---- the three together

module _ (w : ℕ) where
  all_tried : nearest w ≡ or_later (tried w 32 0) (or_later (tried w 32 1) (tried w 32 2))
  unfolding nearest errors
  all_tried =
      first_of_two (bit_xor w) (words 32 0) (words 32 1 ++ words 32 2)
      ∙ ap₂ or_later (sym (whole w 0)) (first_of_two (bit_xor w) (words 32 1) (words 32 2) ∙ ap₂ or_later (sym (whole w 1)) (sym (whole w 2)))

  -- the word itself
  pub at_once : obeys w ≡ true → corrected_to w 0 ≡ answer w (nearest w)
  at_once e =
      ap (corrected_to w) (sym (distance_self w))
      ∙ sym (ap (answer w) (all_tried ∙ knowing (or_later (tried w 32 1) (tried w 32 2)) (itself w 32 e)))

  answered : (d c : ℕ) → Ones d → nearest w ≡ tried w 32 d → tried w 32 d ≡ Some c → corrected_to c d ≡ answer w (nearest w)
  answered d c t n q = ap (corrected_to c) (sym (away w d c t q)) ∙ sym (ap (answer w) (n ∙ q))

  module _ (f : obeys w ≡ false) where
    flipped : nearest w ≡ or_later (tried w 32 1) (tried w 32 2)
    flipped = all_tried ∙ knowing (or_later (tried w 32 1) (tried w 32 2)) (itself w 32 f)

    pub one_bit : (c : Codeword) → Some c ≡ tried_codeword w 32 1 → corrected_to c.0 1 ≡ answer w (nearest w)
    one_bit c q =
        let it : tried w 32 1 ≡ Some c.0 = tried_some (tried w 32 1) c q in
        answered 1 c.0 one_each (flipped ∙ knowing (tried w 32 2) it ∙ sym it) it

    module _ (q : None ≡ tried_codeword w 32 1) where
      second : nearest w ≡ tried w 32 2
      second = flipped ∙ knowing (tried w 32 2) (tried_none (tried w 32 1) q)

      pub two_bits : (c : Codeword) → Some c ≡ tried_codeword w 32 2 → corrected_to c.0 2 ≡ answer w (nearest w)
      two_bits c p = answered 2 c.0 two_each second (tried_some (tried w 32 2) c p)

      pub no_bits : None ≡ tried_codeword w 32 2 → None ≡ answer w (nearest w)
      no_bits p = sym (ap (answer w) (second ∙ tried_none (tried w 32 2) p))
