-- Laws of hexadecimal digits: numbers and bytes there and back. Assumes nothing.
use Prim.Native.Nat.{ℕ, zero, suc, ◌+◌, ◌-◌, ◌*◌, ◌/◌, ◌%◌, ◌^◌, ◌≤◌, ◌<◌}
use mathlib.Core.Path.{◌≡◌, refl, ap, ap₂, sym, ◌∙◌}
use mathlib.Core.List.{List, [], ◌∷◌}
use mathlib.Core.Bool.{Bool, true, false, cond, ◌||◌}
use mathlib.Core.Logic.{⊎_elim}
use native.Mathlib.Numerals.{add-one}
use native.Mathlib.Nat.{div-div-eq-div-mul, div-one, pow-suc, pow-succ', pow-le-pow_right, mul-le-mul_right, mul_assoc}
use native.Mathlib.Omega.{arith}
use lib.Dec.{leb, ltb, eqb}
use lib.ListN.{length, get_or, take, drop, drop_of_length-le}
use lib.Seq.{drop-cons, take-nil}
use borrow.Author.Tests.{leb-true, leb-false, le-leb, lt-leb, lt-ltb, eq-eqb, ne_eqb, eqb-true}
use Rattle.base.specs.Hex.{between, is_hex, hex_of, digit_value, digit_of, hex_number, hex_word, digits_of, bytes_of, pairs_of}
use Rattle.base.specs.Leading.{leading}
use Rattle.base.specs.Lists.{Begins, has}
use Rattle.std.specs.Prelude.{Some, None}
use Rattle.base.proofs.Bools.{either, and_true, true_false}
use Rattle.base.proofs.LeadingLaws.{leading_cons}

-- ---- one digit

small_at : (b : ℕ) (p q : Bool) → (p ≡ true → b ≤ 57) → (q ≡ true → b ≤ 70) → cond p (b - 48) (cond q (b - 55) 0) ≤ 15
small_at b true q f g = let h = f refl in omega arith
small_at b false true f g = let h = g refl in omega arith
small_at b false false f g = omega arith

pub hex_small : (b : ℕ) → hex_of b ≤ 15
unfolding hex_of
hex_small b =
    small_at b (between 48 57 b) (between 65 70 b)
    (λ e. leb-true b 57 (and_true (leb 48 b) (leb b 57) e).1)
    (λ e. leb-true b 70 (and_true (leb 65 b) (leb b 70) e).1)

-- the value tells whether there is one
ltb_at : (p : Bool) (v : ℕ) → v ≤ 15 → ltb (cond p v 16) 16 ≡ p
ltb_at true v h = lt-ltb v 16 (omega arith)
ltb_at false v h = refl

pub value_hex : (b : ℕ) → ltb (digit_value b) 16 ≡ is_hex b
unfolding digit_value
value_hex b = ltb_at (is_hex b) (hex_of b) (hex_small b)

-- 16 is that of no digit
pub value_none : (b : ℕ) → digit_value b ≡ 16 → is_hex b ≡ false
value_none b e = sym (value_hex b) ∙ ap (λ (v : ℕ). ltb v 16) e

pub value_some : (b : ℕ) → (digit_value b ≡ 16 → ⊥) → (is_hex b ≡ true) × (digit_value b ≡ hex_of b)
unfolding digit_value
value_some b h =
    ⊎_elim
    (λ (e : is_hex b ≡ true). (e, rw e))
    (λ (e : is_hex b ≡ false). absurd (h (rw e)))
    (either (is_hex b))

mod_at : (p q : Bool) (x y : ℕ) → cond p x (cond q y 0) ≤ 15 → cond (p || q) (cond p x (cond q y 0)) 16 % 16 ≡ cond p x (cond q y 0)
mod_at true q x y h = omega arith
mod_at false true x y h = omega arith
mod_at false false x y h = refl

pub value_low : (b : ℕ) → digit_value b % 16 ≡ hex_of b
unfolding digit_value is_hex hex_of
value_low b = mod_at (between 48 57 b) (between 65 70 b) (b - 48) (b - 55) (hex_small b)

value_at : (v : ℕ) (low : Bool) → leb v 9 ≡ low → v < 16 → hex_of (cond low (v + 48) (v + 55)) ≡ v
unfolding hex_of
value_at v true e h = let g = leb-true v 9 e in simp (le-leb 48 (v + 48) (omega arith), le-leb (v + 48) 57 (omega arith)) (omega arith)
value_at v false e h =
    let g = leb-false v 9 e in
    simp (le-leb 48 (v + 55) (omega arith), lt-leb (v + 55) 57 (omega arith), le-leb 65 (v + 55) (omega arith), le-leb (v + 55) 70 (omega arith)) (omega arith)

-- a value is read back from its digit
pub digit_value_lem : (v : ℕ) → v < 16 → hex_of (digit_of v) ≡ v
unfolding digit_of
digit_value_lem v h = value_at v (leb v 9) refl h

hex_at : (v : ℕ) (low : Bool) → leb v 9 ≡ low → v < 16 → is_hex (cond low (v + 48) (v + 55)) ≡ true
unfolding is_hex
hex_at v true e h = let g = leb-true v 9 e in simp (le-leb 48 (v + 48) (omega arith), le-leb (v + 48) 57 (omega arith))
hex_at v false e h =
    let g = leb-false v 9 e in
    simp (le-leb 48 (v + 55) (omega arith), lt-leb (v + 55) 57 (omega arith), le-leb 65 (v + 55) (omega arith), le-leb (v + 55) 70 (omega arith))

pub digit_hex : (v : ℕ) → v < 16 → is_hex (digit_of v) ≡ true
unfolding digit_of
digit_hex v h = hex_at v (leb v 9) refl h

-- a digit is written back from its value
pub value_digit : (b : ℕ) → is_hex b ≡ true → digit_of (hex_of b) ≡ b
unfolding is_hex hex_of digit_of
value_digit b = go (between 48 57 b) (between 65 70 b) refl refl
  where
    go : (t u : Bool) → between 48 57 b ≡ t → between 65 70 b ≡ u → t || u ≡ true → digit_of (cond t (b - 48) (cond u (b - 55) 0)) ≡ b
    go true u e f _ =
        let h = and_true (leb 48 b) (leb b 57) e in
        let low : 48 ≤ b = leb-true 48 b h.0 in
        let high : b ≤ 57 = leb-true b 57 h.1 in
        rw (le-leb (b - 48) 9 (omega arith)) (omega arith)
    go false true e f _ =
        let h = and_true (leb 65 b) (leb b 70) f in
        let low : 65 ≤ b = leb-true 65 b h.0 in
        let high : b ≤ 70 = leb-true b 70 h.1 in
        rw (lt-leb (b - 55) 9 (omega arith)) (omega arith)
    go false false e f x = absurd (true_false x refl)

-- ---- numbers

-- one more digit, and the last
pub number_more : (n : ℕ) (s : List ℕ) (i : ℕ) → i < length s → hex_number n (drop i s) ≡ hex_number (n * 16 + hex_of (get_or s i 0)) (drop (i + 1) s)
number_more n s i h = rw (add-one, drop-cons s i 0)

pub number_end : (n : ℕ) (s : List ℕ) (i : ℕ) → length s ≤ i → hex_number n (drop i s) ≡ n
number_end n s i h = rw drop_of_length-le

-- the low 32 bits of a number need only those of what stands before
number_cong : (m n : ℕ) (s : List ℕ) → m % 2 ^ 32 ≡ n % 2 ^ 32 → hex_number m s % 2 ^ 32 ≡ hex_number n s % 2 ^ 32
number_cong m n [] e = e
number_cong m n (b ∷ s) e = number_cong (m * 16 + hex_of b) (n * 16 + hex_of b) s (omega arith)

pub number_low : (n b : ℕ) (s : List ℕ) → hex_number (n * 16 + hex_of b) s % 2 ^ 32 ≡ hex_number (n % 268435456 * 16 + hex_of b) s % 2 ^ 32
number_low n b s = number_cong (n * 16 + hex_of b) (n % 268435456 * 16 + hex_of b) s (omega arith)

-- digits have room for so much, and up to eight fit 32 bits
pub number_lt : (n : ℕ) (s : List ℕ) → hex_number n s < (n + 1) * 16 ^ length s
number_lt n [] = omega arith
number_lt n (b ∷ s) =
    let room : (n * 16 + hex_of b + 1) * 16 ^ length s ≤ (n + 1) * 16 * 16 ^ length s = mul-le-mul_right (16 ^ length s) (omega (arith, hex_small b)) in
    let more : (n + 1) * 16 * 16 ^ length s ≡ (n + 1) * 16 ^ suc (length s) = rw (pow-succ' 16 (length s)) (mul_assoc (n + 1) 16 (16 ^ length s)) in
    omega (arith, number_lt (n * 16 + hex_of b) s)

pub number_fits : (s : List ℕ) → length s ≤ 8 → hex_number 0 s % 2 ^ 32 ≡ hex_number 0 s
number_fits s h = omega (arith, number_lt 0 s, pow-le-pow_right {n = 16} (omega arith) {i = length s} {j = 8} h)

-- all are digits, or not
pub word_number : (s : List ℕ) {n : ℕ} → leading is_hex s ≡ length s → n ≡ hex_number 0 s % 2 ^ 32 → Some n ≡ hex_word s
unfolding hex_word
word_number s e f = rw (eq-eqb (leading is_hex s) (length s) e, f)

pub word_none : (s : List ℕ) → (leading is_hex s ≡ length s → ⊥) → None ≡ hex_word s
unfolding hex_word
word_none s h = rw (ne_eqb (leading is_hex s) (length s) h)

-- and what the answer says of the bytes
pub number_word : (s : List ℕ) (n : ℕ) → hex_word s ≡ Some n → (leading is_hex s ≡ length s) × (n ≡ hex_number 0 s % 2 ^ 32)
unfolding hex_word
number_word s n e =
    ⊎_elim
    (λ (t : eqb (leading is_hex s) (length s) ≡ true). let f = rw t at e in (eqb-true (leading is_hex s) (length s) t, cc))
    (λ (t : eqb (leading is_hex s) (length s) ≡ false). let f = rw t at e in absurd (let z : ◌≡◌ {A = ℕ} 0 1 = cc in omega arith))
    (either (eqb (leading is_hex s) (length s)))

pub none_word : (s : List ℕ) → hex_word s ≡ None → leading is_hex s ≡ length s → ⊥
none_word s e all = let f = word_number s all refl in let z : ◌≡◌ {A = ℕ} 0 1 = cc in omega arith

pub shift_digit : (k n : ℕ) → n / 16 ^ k / 16 ≡ n / 16 ^ suc k
shift_digit k n = rw (pow-suc 16 k) (div-div-eq-div-mul n (16 ^ k) 16)

-- the digits of a number are digits, as many as are asked for, and write the number
pub digits_length : (k n : ℕ) → length (digits_of k n) ≡ k
unfolding digits_of
digits_length zero n = refl
digits_length (suc k) n = ap suc (digits_length k n)

-- one digit more, in front
pub digits_more : (k n : ℕ) {d : ℕ} → d ≡ digit_of (n / 16 ^ k % 16) → d ∷ digits_of k n ≡ digits_of (suc k) n
unfolding digits_of
digits_more k n e = rw e

pub digits_hex : (k n : ℕ) → leading is_hex (digits_of k n) ≡ k
unfolding digits_of
digits_hex zero n = refl
digits_hex (suc k) n = rw (digit_hex (n / 16 ^ k % 16) (omega arith), digits_hex k n)

pub digits_back : (k n : ℕ) → hex_number (n / 16 ^ k) (digits_of k n) ≡ n
unfolding digits_of
digits_back zero n = div-one n
digits_back (suc k) n =
    let d = shift_digit k n in
    let v = digit_value_lem (n / 16 ^ k % 16) (omega arith) in
    let e : n / 16 ^ suc k * 16 + hex_of (digit_of (n / 16 ^ k % 16)) ≡ n / 16 ^ k = omega arith in
    ap (λ (x : ℕ). hex_number x (digits_of k n)) e ∙ digits_back k n

-- what stood before the digits is above them, and the digits of the number are those that wrote it
number_high : (n : ℕ) (s : List ℕ) → hex_number n s / 16 ^ length s ≡ n
number_high n [] = div-one n
number_high n (b ∷ s) =
    sym (shift_digit (length s) (hex_number (n * 16 + hex_of b) s))
    ∙ ap (λ (x : ℕ). x / 16) (number_high (n * 16 + hex_of b) s)
    ∙ omega (arith, hex_small b)

pub number_digits : (n : ℕ) (s : List ℕ) → length s ≤ leading is_hex s → digits_of (length s) (hex_number n s) ≡ s
unfolding digits_of
number_digits n [] h = refl
number_digits n (b ∷ s) h =
    let p = leading_cons is_hex b s h in
    let last : (n * 16 + hex_of b) % 16 ≡ hex_of b = omega (arith, hex_small b) in
    ap₂ ◌∷◌ (ap (λ (x : ℕ). digit_of (x % 16)) (number_high (n * 16 + hex_of b) s) ∙ ap digit_of last ∙ value_digit b p.0) (number_digits (n * 16 + hex_of b) s p.1)

-- ---- bytes as pairs

pub bytes_length : (t : List ℕ) → length (bytes_of t) ≡ length t / 2
bytes_length [] = refl
bytes_length (h ∷ []) = refl
bytes_length (h ∷ l ∷ s) = let e = bytes_length s in omega arith

pub bytes_at : (t : List ℕ) (k d : ℕ) → k < length t / 2 → get_or (bytes_of t) k d ≡ hex_of (get_or t (2 * k) 0) * 16 + hex_of (get_or t (2 * k + 1) 0)
bytes_at [] k d h = absurd (omega arith)
bytes_at (x ∷ []) k d h = absurd (omega arith)
bytes_at (x ∷ y ∷ s) zero d h = refl
bytes_at (x ∷ y ∷ s) (suc k) d h =
    let e₁ : 2 * suc k + 1 ≡ suc (suc (2 * k + 1)) = omega arith in
    let e₀ : 2 * suc k ≡ suc (suc (2 * k)) = omega arith in
    rw (e₁, e₀) (bytes_at s k d (omega arith))

pub pairs_length : (s : List ℕ) → length (pairs_of s) ≡ 2 * length s
unfolding pairs_of
pairs_length [] = refl
pairs_length (b ∷ s) = omega (arith, pairs_length s)

-- the pairs of the first bytes begin those of all
pairs_front : (k : ℕ) (s : List ℕ) → pairs_of (take k s) ≡ take (2 * k) (pairs_of s)
unfolding pairs_of
pairs_front zero s = refl
pairs_front (suc k) [] = sym (take-nil (2 * suc k))
pairs_front (suc k) (b ∷ s) = let e : 2 * suc k ≡ suc (suc (2 * k)) = omega arith in rw (e, pairs_front k s)

pub pairs_begin : (t s : List ℕ) → Begins t s → Begins (pairs_of t) (pairs_of s)
pairs_begin t s e = ap pairs_of e ∙ pairs_front (length t) s ∙ ap (λ (n : ℕ). take n (pairs_of s)) (sym (pairs_length t))

-- pairs of digits are written back from their bytes
pub pairs_back : (ps : List ℕ) → length ps % 2 ≡ 0 → length ps ≤ leading is_hex ps → pairs_of (bytes_of ps) ≡ ps
unfolding pairs_of
pairs_back [] e h = refl
pairs_back (x ∷ []) e h = absurd (omega arith)
pairs_back (x ∷ y ∷ s) e h =
    let p = leading_cons is_hex x (y ∷ s) h in
    let q = leading_cons is_hex y s p.1 in
    let high : (hex_of x * 16 + hex_of y) / 16 ≡ hex_of x = omega (arith, hex_small y) in
    let low : (hex_of x * 16 + hex_of y) % 16 ≡ hex_of y = omega (arith, hex_small y) in
    ap₂ ◌∷◌ (ap digit_of high ∙ value_digit x p.0)
    (ap₂ ◌∷◌ (ap digit_of low ∙ value_digit y q.0) (pairs_back s (omega arith) q.1))

-- ---- a value below that of '0', as a space, `-` or a newline is

module _ (x : ℕ) (low : x < 48) where
  -- no digit has it
  pub digit_not : (v : ℕ) → eqb (digit_of v) x ≡ false
  unfolding digit_of
  digit_not v = go (leb v 9)
    where
      go : (b : Bool) → eqb (cond b (v + 48) (v + 55)) x ≡ false
      go true = ne_eqb (v + 48) x (λ e. omega arith)
      go false = ne_eqb (v + 55) x (λ e. omega arith)

  pub digits_lack : (k n : ℕ) → has x (digits_of k n) ≡ false
  unfolding has digits_of
  digits_lack zero n = refl
  digits_lack (suc k) n = rw (digit_not (n / 16 ^ k % 16)) (digits_lack k n)

  pub pairs_lack : (s : List ℕ) → has x (pairs_of s) ≡ false
  unfolding has pairs_of
  pairs_lack [] = refl
  pairs_lack (b ∷ s) = rw (digit_not (b / 16), digit_not (b % 16)) (pairs_lack s)
