-- Laws of data: how many groups there are, that each has 20 bits, and that their digits come back. Assumes nothing.
use Prim.Native.Nat.{ℕ, zero, suc, ◌+◌, ◌*◌, ◌/◌, ◌^◌, ◌≤◌, ◌<◌}
use mathlib.Core.Path.{◌≡◌, refl, sym, ap, ap₂, ◌∙◌}
use mathlib.Core.Bool.{false}
use mathlib.Core.List.{List, [], ◌∷◌, ◌++◌}
use mathlib.Core.Logic.{⊎_elim}
use native.Mathlib.Nat.{pow-le-pow_right}
use native.Mathlib.Omega.{arith}
use lib.ListN.{length, get_or, take, drop, length-drop, length-take, length-append, get_or-eq_default}
use lib.Seq.{length-take-le, drop-drop, take_all, take-add, take-append-add}
use Rattle.base.specs.Hex.{is_hex, hex_number, digits_of}
use Rattle.base.specs.Leading.{leading}
use Rattle.base.specs.Lists.{tab, Begins, has}
use Rattle.base.proofs.HexLaws.{number_lt, digits_length, number_digits, digits_lack}
use Rattle.base.proofs.LeadingLaws.{leading_cons}
use Rattle.base.proofs.ListLaws.{has_append, tab-length, tab-at, tab-same}
use Rattle.base.proofs.SearchLaws.{le_or_lt}
use Rattle.text.specs.Fives.{five_at, fives_in, fives, FivesBack}

-- ---- how many, and their bits

pub fives_count : (digits : List ℕ) → length (fives_in digits) ≡ length digits / 5
unfolding fives_in
fives_count digits = tab-length (five_at digits) (length digits / 5)

pub five_small : (digits : List ℕ) (g : ℕ) → five_at digits g < 2 ^ 20
five_small digits g =
    let s = take 5 (drop (5 * g) digits) in
    let few : length s ≤ 5 = omega (arith, length-take 5 (drop (5 * g) digits)) in
    omega (arith, number_lt 0 s, pow-le-pow_right {n = 16} (omega arith) {i = length s} {j = 5} few)

pub fives_small : (digits : List ℕ) (i : ℕ) → get_or (fives_in digits) i 0 < 2 ^ 20
unfolding fives_in
fives_small digits i =
    let n = length digits / 5 in
    ⊎_elim
    (λ (h : n ≤ i). rw (get_or-eq_default (tab (five_at digits) n) 0 {n = i} (omega (arith, tab-length (five_at digits) n))) (omega arith))
    (λ (h : i < n). rw (tab-at (five_at digits) n i 0 h) (five_small digits i))
    (le_or_lt n i)

-- ---- there and back

-- a part of digits is digits
front_hex : (n : ℕ) (ds : List ℕ) → length ds ≤ leading is_hex ds → length (take n ds) ≤ leading is_hex (take n ds)
front_hex zero ds h = omega arith
front_hex (suc n) [] h = omega arith
front_hex (suc n) (d ∷ ds) h =
    let x = leading_cons is_hex d ds h in
    let r = front_hex n ds x.1 in
    rw x.0 (omega arith)

rest_hex : (n : ℕ) (ds : List ℕ) → length ds ≤ leading is_hex ds → length (drop n ds) ≤ leading is_hex (drop n ds)
rest_hex zero ds h = h
rest_hex (suc n) [] h = omega arith
rest_hex (suc n) (d ∷ ds) h = rest_hex n ds (leading_cons is_hex d ds h).1

-- r groups come back as their digits
some_back : (r : ℕ) (ds : List ℕ) → 5 * r ≤ length ds → length ds ≤ leading is_hex ds → fives (tab (five_at ds) r) ≡ take (5 * r) ds
unfolding fives tab
some_back zero ds l h = refl
some_back (suc r) ds l h =
    let five : length (take 5 ds) ≡ 5 = length-take-le 5 ds (omega arith) in
    let first : digits_of 5 (hex_number 0 (take 5 ds)) ≡ take 5 ds =
    ap (λ (k : ℕ). digits_of k (hex_number 0 (take 5 ds))) (sym five) ∙ number_digits 0 (take 5 ds) (front_hex 5 ds h) in
    let shift : tab (λ k. five_at ds (suc k)) r ≡ tab (five_at (drop 5 ds)) r =
    tab-same (λ k. five_at ds (suc k)) (five_at (drop 5 ds)) r
    (λ k _. let z : 5 * suc k ≡ 5 + 5 * k = omega arith in ap (λ (t : List ℕ). hex_number 0 (take 5 t)) (ap (λ (i : ℕ). drop i ds) z ∙ sym (drop-drop (5 * k) 5 ds))) in
    let z : 5 * suc r ≡ 5 + 5 * r = omega arith in
    ap₂ ◌++◌ first (ap fives shift ∙ some_back r (drop 5 ds) (omega (arith, length-drop 5 ds)) (rest_hex 5 ds h))
    ∙ rw (z, take-add 5 (5 * r) ds)

-- all of them
pub fives_back : FivesBack
unfolding fives_in
fives_back ds e h = some_back (length ds / 5) ds (omega arith) h ∙ take_all (5 * (length ds / 5)) ds (omega arith)

-- ---- the digits of any groups

pub fives_length : (gs : List ℕ) → length (fives gs) ≡ 5 * length gs
unfolding fives
fives_length [] = refl
fives_length (g ∷ gs) = let r = fives_length gs in omega (arith, length-append (digits_of 5 g) (fives gs), digits_length 5 g)

-- those of the first begin those of all
front_is : (k : ℕ) (gs : List ℕ) → fives (take k gs) ≡ take (5 * length (take k gs)) (fives gs)
unfolding fives
front_is zero gs = refl
front_is (suc k) [] = refl
front_is (suc k) (g ∷ gs) =
    let e : 5 * suc (length (take k gs)) ≡ length (digits_of 5 g) + 5 * length (take k gs) = omega (arith, digits_length 5 g) in
    rw (e, front_is k gs) (sym (take-append-add (digits_of 5 g) (fives gs) (5 * length (take k gs))))

pub fives_begin : (k : ℕ) (gs : List ℕ) → Begins (fives (take k gs)) (fives gs)
fives_begin k gs = rw (fives_length (take k gs)) (front_is k gs)

-- no value below that of '0' is among them
pub fives_lack : (x : ℕ) → x < 48 → (gs : List ℕ) → has x (fives gs) ≡ false
unfolding has fives
fives_lack x low [] = refl
fives_lack x low (g ∷ gs) = rw (has_append x (digits_of 5 g) (fives gs), digits_lack x low 5 g) (fives_lack x low gs)
