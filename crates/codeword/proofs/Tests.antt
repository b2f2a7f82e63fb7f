-- Tests that antt computes over a whole list or all numbers below a limit, and what they show of each. Assumes nothing.
use mathlib.Core.Path.{◌≡◌, ◌∙◌, ap, subst, sym}
use mathlib.Core.Bool.{Bool, true, not, ◌&&◌}
use mathlib.Core.List.Memᴰ
use mathlib.Core.List.{List, [], ◌∷◌, map, Memᴰ}
use mathlib.Core.Logic.{⊎_elim}
use Prim.Native.Nat.{ℕ, zero, suc, ◌<◌}
use native.Mathlib.Nat.{eq-or-lt_of_le, le_of_suc-le-suc, not-suc-le-zero}
use lib.Dec.{T, T_not, eqb, eqb_refl}
use Rattle.base.proofs.Bools.{and_left, and_right}

-- a test passes at each entry
abbrev pub all : (ℕ → Bool) → List ℕ → Bool
all f [] = true
all f (x ∷ xs) = f x && all f xs

pub all_at : (f : ℕ → Bool) (xs : List ℕ) → T (all f xs) → (a : ℕ) → Memᴰ a xs → T (f a)
all_at f [] t a m = absurd (Memᴰ.not-nil m)
all_at f (x ∷ xs) t a m =
    ⊎_elim
    (λ e. subst (λ (y : ℕ). T (f y)) (sym e) (and_left (f x) (all f xs) t))
    (λ n. all_at f xs (and_right (f x) (all f xs) t) a n)
    (Memᴰ.cases_cons m)

-- a test passes at each number below n
abbrev pub below : (ℕ → Bool) → ℕ → Bool
below f zero = true
below f (suc n) = f n && below f n

pub below_at : (f : ℕ → Bool) (n : ℕ) → T (below f n) → (i : ℕ) → i < n → T (f i)
below_at f zero t i h = absurd (not-suc-le-zero h)
below_at f (suc n) t i h =
    ⊎_elim
    (λ e. subst (λ (m : ℕ). T (f m)) (sym e) (and_left (f n) (below f n) t))
    (λ l. below_at f n (and_right (f n) (below f n) t) i l)
    (eq-or-lt_of_le (le_of_suc-le-suc h))

-- no two entries are equal
abbrev apart : ℕ → List ℕ → Bool
apart x ys = all (λ y. not (eqb x y)) ys

abbrev pub distinct : List ℕ → Bool
distinct [] = true
distinct (x ∷ xs) = apart x xs && distinct xs

module _ (f : ℕ → ℕ) where
  -- no entry has the value z, which one of them has
  not_apart : (z : ℕ) (xs : List ℕ) → T (apart z (map f xs)) → (b : ℕ) → Memᴰ b xs → z ≡ f b → ⊥
  not_apart z [] t b m e = Memᴰ.not-nil m
  not_apart z (x ∷ xs) t b m e =
      ⊎_elim
      (λ q. T_not (eqb z (f x)) (and_left (not (eqb z (f x))) (apart z (map f xs)) t)
      (subst (λ (y : ℕ). T (eqb z y)) (e ∙ ap f q) (eqb_refl z)))
      (λ n. not_apart z xs (and_right (not (eqb z (f x))) (apart z (map f xs)) t) b n e)
      (Memᴰ.cases_cons m)

  -- where f has distinct values on the entries, entries with the same value are the same
  pub injective : (xs : List ℕ) → T (distinct (map f xs)) → (a b : ℕ) → Memᴰ a xs → Memᴰ b xs → f a ≡ f b → a ≡ b
  injective [] t a b m n e = absurd (Memᴰ.not-nil m)
  injective (x ∷ xs) t a b m n e =
      ⊎_elim
      (λ p. ⊎_elim
      (λ q. p ∙ sym q)
      (λ n'. absurd (not_apart (f x) xs first b n' (ap f (sym p) ∙ e)))
      (Memᴰ.cases_cons n))
      (λ m'. ⊎_elim
      (λ q. absurd (not_apart (f x) xs first a m' (ap f (sym q) ∙ sym e)))
      (λ n'. injective xs rest a b m' n' e)
      (Memᴰ.cases_cons n))
      (Memᴰ.cases_cons m)
    where
      first : T (apart (f x) (map f xs))
      first = and_left (apart (f x) (map f xs)) (distinct (map f xs)) t

      rest : T (distinct (map f xs))
      rest = and_right (apart (f x) (map f xs)) (distinct (map f xs)) t
