-- A text comes back from its groups. Assumes nothing.
use mathlib.Core.Path.{◌≡◌, refl, sym, ap, ap₂, ◌∙◌}
use mathlib.Core.Bool.{Bool, true, false, not, cond}
use mathlib.Core.List.{List, [], ◌∷◌, ◌++◌, map}
use Prim.Native.Nat.{ℕ, zero, suc, ◌+◌, ◌-◌, ◌*◌, ◌/◌, ◌%◌, ◌^◌, ◌≤◌, ◌<◌}
use native.Mathlib.Omega.{arith}
use lib.ListN.{length, get_or, replicate}
use lib.Dec.{leb, eqb}
use borrow.Author.Tests.{leb-true, eqb-true, ne_eqb, le-leb}
use Rattle.base.specs.Hex.{between}
use Rattle.base.specs.Leading.{leading}
use Rattle.base.specs.Lists.{tab}
use Rattle.base.proofs.Bools.{and_true, true_false}
use Rattle.base.proofs.LeadingLaws.{leading_cons}
use Rattle.base.proofs.ListLaws.{tab-length, tab-at, tab-same, tab_list}
use Rattle.text.specs.Numeric.{numeric_of, numeric_byte}
use Rattle.text.specs.Coding.{char_ok, has_value, value_or0, ends_in_space, width_of, fill_of, value_of, bit_of, group_of, groups_of, groups_in}
use Rattle.text.specs.Heard.{bit_in, shown, char_heard, whole_in, chars_in, ahead, trimmed, goes_on, until_end, heard_text}
use Rattle.text.specs.Back.{Back}
use Rattle.std.specs.Prelude.{Option, Some}
use Rattle.text.specs.declared.Coding.{Coding}
use Rattle.text.specs.declared.Coding.TheVariants.{Numeric, Alphanumeric}
use Rattle.text.proofs.BitLaws.{low_same}
use Rattle.text.proofs.GroupLaws.{group_bit, char_bits}

-- ---- the characters: those of the text, and fill

bit_back : (c : Coding) (bytes : List ℕ) (n p : ℕ) → p < 20 * n → bit_in (tab (group_of c bytes) n) p ≡ bit_of c bytes p
bit_back c bytes n p h =
    let q : p / 20 < n = omega arith in
    let e : 20 * (p / 20) + p % 20 ≡ p = omega arith in
    ap (λ (g : ℕ). g / 2 ^ (19 - p % 20) % 2) (tab-at (group_of c bytes) n (p / 20) 0 q)
    ∙ group_bit c bytes (p / 20) (p % 20) (omega arith)
    ∙ ap (bit_of c bytes) e

pub inside : (c : Coding) (n i : ℕ) → i < whole_in c n → width_of c * i + width_of c ≤ 20 * n
inside Numeric n i h = omega arith
inside Alphanumeric n i h = omega arith

enough : (c : Coding) (k : ℕ) → k ≤ whole_in c (groups_of c k)
enough Numeric k = omega arith
enough Alphanumeric k = omega arith

-- a byte as it is heard
abbrev heard : Coding → ℕ → ℕ
heard c b = shown c (value_of c b % 2 ^ width_of c)

char_back : (c : Coding) (bytes : List ℕ) (n i : ℕ) → i < whole_in c n → char_heard c (tab (group_of c bytes) n) i ≡ heard c (get_or bytes i (fill_of c))
char_back c bytes n i h =
    let l = inside c n i h in
    ap (shown c)
    (low_same (λ b. bit_in (tab (group_of c bytes) n) (width_of c * i + b)) (λ b. bit_of c bytes (width_of c * i + b)) (width_of c)
    (λ b k. bit_back c bytes n (width_of c * i + b) (omega arith))
    ∙ char_bits c bytes i)

-- ---- the characters of a coding are heard as they are

abbrev Same : ℕ → Option ℕ → Type 0
Same b x = has_value x ≡ true → numeric_byte (value_or0 x % 16) ≡ b

choose : (b : ℕ) (t : Bool) (x y : Option ℕ) → (t ≡ true → Same b x) → (t ≡ false → Same b y) → Same b (cond t x y)
choose b true x y f g = f refl
choose b false x y f g = g refl

digit_back : (b : ℕ) → between 48 57 b ≡ true → Same b (Some (b - 48))
unfolding numeric_byte
digit_back b e _ =
    let h = and_true (leb 48 b) (leb b 57) e in
    let low : 48 ≤ b = leb-true 48 b h.0 in
    let high : b ≤ 57 = leb-true b 57 h.1 in
    let v : (b - 48) % 16 ≡ b - 48 = omega arith in
    let t : leb 0 (b - 48) ≡ true = le-leb 0 (b - 48) (omega arith) in
    let u : leb (b - 48) 9 ≡ true = le-leb (b - 48) 9 (omega arith) in
    rw (v, t, u) (omega arith)

letter_back : (b n : ℕ) → eqb b (numeric_byte (n % 16)) ≡ true → Same b (Some n)
letter_back b n e _ = sym (eqb-true b (numeric_byte (n % 16)) e)

byte_back : (c : Coding) (b : ℕ) → char_ok c b ≡ true → heard c b ≡ b
unfolding numeric_of numeric_byte
byte_back Numeric b ok =
    choose b (between 48 57 b) _ _ (digit_back b)
    (λ _. choose b (eqb b 85) _ _ (letter_back b 11)
    (λ _. choose b (eqb b 32) _ _ (letter_back b 12)
    (λ _. choose b (eqb b 45) _ _ (letter_back b 13)
    (λ _. choose b (eqb b 93) _ _ (letter_back b 14)
    (λ _. choose b (eqb b 91) _ _ (letter_back b 15)
    (λ _ p. absurd (true_false p refl))))))) ok
byte_back Alphanumeric b ok =
    let h = and_true (between 1 127 b) (not (between 3 4 b)) ok in
    let high : b ≤ 127 = leb-true b 127 (and_true (leb 1 b) (leb b 127) h.0).1 in
    omega arith

bytes_back : (c : Coding) (s : List ℕ) → length s ≤ leading (char_ok c) s → map (heard c) s ≡ s
bytes_back c [] h = refl
bytes_back c (b ∷ s) h = let x = leading_cons (char_ok c) b s h in ap₂ ◌∷◌ (byte_back c b x.0) (bytes_back c s x.1)

fill_back : (c : Coding) → heard c (fill_of c) ≡ fill_of c
unfolding numeric_of numeric_byte
fill_back Numeric = refl
fill_back Alphanumeric = refl

-- how many characters of fill stand behind a text
abbrev left : Coding → List ℕ → ℕ
left c bytes = whole_in c (groups_of c (length bytes)) - length bytes

chars_back : (c : Coding) (bytes : List ℕ) → length bytes ≤ leading (char_ok c) bytes → chars_in c (groups_in c bytes) ≡ bytes ++ replicate (left c bytes) (fill_of c)
unfolding groups_in
chars_back c bytes h =
    let n = groups_of c (length bytes) in
    let m = whole_in c n in
    rw (tab-length (group_of c bytes) n)
    (tab-same (char_heard c (tab (group_of c bytes) n)) (λ i. heard c (get_or bytes i (fill_of c))) m (char_back c bytes n)
    ∙ tab_list (heard c) (fill_of c) bytes m (enough c (length bytes))
    ∙ ap₂ ◌++◌ (bytes_back c bytes h) (ap (replicate (left c bytes)) (fill_back c)))

-- ---- fill goes

no_spaces : (n : ℕ) → trimmed (replicate n 32) ≡ []
unfolding trimmed
no_spaces zero = refl
no_spaces (suc n) = rw (no_spaces n)

last_of : (b x : ℕ) (s : List ℕ) → ends_in_space Numeric (b ∷ x ∷ s) ≡ ends_in_space Numeric (x ∷ s)
unfolding ends_in_space
last_of b x s = let e : suc (suc (length s)) - 1 ≡ suc (suc (length s) - 1) = omega arith in rw e

trim_back : (s : List ℕ) (n : ℕ) → ends_in_space Numeric s ≡ false → trimmed (s ++ replicate n 32) ≡ s
unfolding trimmed ends_in_space
trim_back [] n h = no_spaces n
trim_back (b ∷ []) n h = rw (no_spaces n, h)
trim_back (b ∷ x ∷ s) n h = ap (ahead b) (trim_back (x ∷ s) n (sym (last_of b x s) ∙ h))

goes_on_lem : (b : ℕ) → char_ok Alphanumeric b ≡ true → goes_on b ≡ true
goes_on_lem b ok =
    let h = and_true (between 1 127 b) (not (between 3 4 b)) ok in
    let low : 1 ≤ b = leb-true 1 b (and_true (leb 1 b) (leb b 127) h.0).0 in
    rw (ne_eqb b 0 (λ e. omega arith)) h.1

end_back : (s : List ℕ) (n : ℕ) → length s ≤ leading (char_ok Alphanumeric) s → until_end (s ++ replicate n 0) ≡ s
end_back [] zero h = refl
end_back [] (suc n) h = refl
end_back (b ∷ s) n h = let x = leading_cons (char_ok Alphanumeric) b s h in rw (goes_on_lem b x.0) (ap (λ (t : List ℕ). b ∷ t) (end_back s n x.1))

pub text_back : Back
unfolding heard_text
text_back Numeric bytes ok e = ap trimmed (chars_back Numeric bytes ok) ∙ trim_back bytes (left Numeric bytes) e
text_back Alphanumeric bytes ok e = ap until_end (chars_back Alphanumeric bytes ok) ∙ end_back bytes (left Alphanumeric bytes) ok
