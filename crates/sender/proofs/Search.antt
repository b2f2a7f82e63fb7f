-- Laws of the tests and searches of a step. Assumes nothing.
use mathlib.Core.Path.{◌≡◌, refl, sym, ◌∙◌}
use Prim.Native.Nat.{ℕ, zero, suc, ◌<◌, ◌≤◌}
use mathlib.Core.Bool.{Bool, true, false, not, cond, ◌&&◌, ◌||◌}
use mathlib.Core.List.{List, [], ◌∷◌}
use native.Mathlib.Nat.{not-suc-le-zero, le_of_suc-le-suc}
use native.Mathlib.Omega.{arith}
use lib.Dec.{eqb, ltb, eqb-zero-suc, eqb-suc-suc}
use lib.ListN.{length, get_or, take}
use Rattle.std.specs.Prelude.{Option, Some, None, MatchOption}
use Rattle.std.specs.List.{list_any}
use borrow.Author.Tests.{ltb-true, ltb-false, lt-ltb, eqb-false, eq-eqb, ne_eqb, not-true}
use Rattle.base.specs.Search.{least}
use Rattle.base.proofs.Bools.{true_false}
use Rattle.base.proofs.SearchLaws.{least_is, least_only}
use Rattle.std.specs.Int.{from_bool}
use Rattle.sender.specs.Step.{is_set, flag_of}
use Rattle.sender.specs.Pages.{first_below}

pub or_false : (a b : Bool) → a || b ≡ false → (a ≡ false) × (b ≡ false)
or_false true b e = absurd (true_false refl e)
or_false false b e = (refl, e)

pub or_right : (a : Bool) {b : Bool} → b ≡ true → a || b ≡ true
or_right true q = refl
or_right false q = q

pub and_with : (a : Bool) → a && true ≡ a
and_with true = refl
and_with false = refl

pub both_false : {a b : Bool} → a ≡ false → b ≡ false → a || b ≡ false
both_false p q = rw (p, q)

-- ---- flags

pub set_flag : (x : ℕ) → (x ≡ 0 → ⊥) → is_set x ≡ true
set_flag x h = rw (ne_eqb x 0 h)

pub clear_flag : (x : ℕ) → x ≡ 0 → is_set x ≡ false
clear_flag x h = rw (eq-eqb x 0 h)

pub flag_set : (x : ℕ) → is_set x ≡ true → x ≡ 0 → ⊥
flag_set x e = eqb-false x 0 (not-true (eqb x 0) e)

-- a flag that is made of a test
pub flag_is : (b : Bool) → from_bool b ≡ flag_of b
flag_is true = refl
flag_is false = refl

-- ---- a search for a number below n that passes t

module _ (t : ℕ → Bool) (n : ℕ) where
  -- none passes
  pub none_found : ((k : ℕ) → k < n → t k ≡ false) → ltb (least t n) n ≡ false
  none_found h = go (ltb (least t n) n) refl
    where
      go : (b : Bool) → ltb (least t n) n ≡ b → ltb (least t n) n ≡ false
      go true e = let l = ltb-true (least t n) n e in absurd (true_false ((least_is t n).here l) (h (least t n) l))
      go false e = e

  -- one does
  pub one_found : (k : ℕ) → k < n → t k ≡ true → ltb (least t n) n ≡ true
  one_found k l e = go (ltb (least t n) n) refl
    where
      go : (b : Bool) → ltb (least t n) n ≡ b → ltb (least t n) n ≡ true
      go true q = q
      go false q = let m = ltb-false (least t n) n q in absurd (true_false e ((least_is t n).before k (omega arith)))

  pub found_none : ltb (least t n) n ≡ false → (k : ℕ) → k < n → t k ≡ false
  found_none e k l = let m = ltb-false (least t n) n e in (least_is t n).before k (omega arith)

-- a search asks only for the test's values
pub least_same : (p q : ℕ → Bool) (n : ℕ) → ((k : ℕ) → k < n → p k ≡ q k) → least p n ≡ least q n
least_same p q n h =
    let r = least_is q n in
    least_only p n (least q n)
    (record { within = r.within; before = λ k l. h k (omega (arith, r.within)) ∙ r.before k l; here = λ l. h (least q n) l ∙ r.here l })

-- ---- the first number that passes, as an option

first_found : (t : ℕ → Bool) (n i : ℕ) → i < n → t i ≡ true → ((k : ℕ) → k < i → t k ≡ false) → Some i ≡ first_below t n
first_found t n i l e b =
    let f : least t n ≡ i = least_only t n i (record { within = omega arith; before = b; here = λ _. e }) in
    rw (f, lt-ltb i n l)

first_lacking : (t : ℕ → Bool) (n : ℕ) → ((k : ℕ) → k < n → t k ≡ false) → None ≡ first_below t n
first_lacking t n b = rw (none_found t n b)

pub first_is : (t : ℕ → Bool) (n : ℕ) (r : Option ℕ) → MatchOption r ((k : ℕ) → 0 ≤ k → k < n → t k ≡ false) (λ i. (0 ≤ i) × (i < n) × (t i ≡ true) × ((k : ℕ) → 0 ≤ k → k < i → t k ≡ false)) → r ≡ first_below t n
first_is t n None h = first_lacking t n (λ k l. h k (omega arith) l)
first_is t n (Some i) h = first_found t n i h.1 h.2 (λ k l. h.3 k (omega arith) l)

pub first_some : (t : ℕ → Bool) (n k : ℕ) → first_below t n ≡ Some k → (k ≡ least t n) × (k < n)
first_some t n k = go (ltb (least t n) n) refl
  where
    go : (b : Bool) → ltb (least t n) n ≡ b → cond b (Some (least t n)) None ≡ Some k → (k ≡ least t n) × (k < n)
    go true e q = let f : least t n ≡ k = cc in let l = ltb-true (least t n) n e in (sym f, omega arith)
    go false e q = absurd (let z : ◌≡◌ {A = ℕ} 0 1 = cc in omega arith)

pub first_none : (t : ℕ → Bool) (n : ℕ) → first_below t n ≡ None → n ≤ least t n
first_none t n = go (ltb (least t n) n) refl
  where
    go : (b : Bool) → ltb (least t n) n ≡ b → cond b (Some (least t n)) None ≡ None → n ≤ least t n
    go true e q = absurd (let z : ◌≡◌ {A = ℕ} 0 1 = cc in omega arith)
    go false e q = ltb-false (least t n) n e

-- a list's first n numbers have no 0 exactly where no number below n is the place of one
pub none_zero : (n : ℕ) (xs : List ℕ) → n ≤ length xs → not (list_any (λ y. eqb y 0) (take n xs)) ≡ eqb (least (λ i. eqb (get_or xs i 0) 0) n) n
unfolding least
none_zero zero xs l = refl
none_zero (suc n) [] l = absurd (not-suc-le-zero l)
none_zero (suc n) (x ∷ xs) l =
    elim (eqb x 0) as (λ b. not (b || list_any (λ y. eqb y 0) (take n xs)) ≡ eqb (elim b [ true ↦ zero | false ↦ suc (least (λ i. eqb (get_or xs i 0) 0) n) ]) (suc n)) [
      | true ↦ sym (eqb-zero-suc n)
      | false ↦ none_zero n xs (le_of_suc-le-suc l) ∙ sym (eqb-suc-suc (least (λ i. eqb (get_or xs i 0) 0) n) n)
    ]
