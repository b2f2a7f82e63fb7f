-- Laws of `passing`: the elements that pass a test stand in the list in the same order. Assumes nothing.
use mathlib.Core.Path.{◌≡◌, refl, ap}
use mathlib.Core.Bool.{Bool, true, false, cond}
use mathlib.Core.List.{List, [], ◌∷◌, ◌++◌, append-nil}
use Prim.Native.Nat.{ℕ, zero, suc, ◌<◌, zero-le, suc-le-suc}
use native.Mathlib.Nat.{not-suc-le-zero, le_of_suc-le-suc}
use lib.ListN.{length, get_or}
use Rattle.base.specs.Passing.{passing}
use Rattle.base.proofs.Bools.{true_false}

module _ {A : Type 0} (f : A → Bool) where
  -- an element in front, where it passes
  onto : (b : Bool) (x : A) (l m r : List A) → l ≡ m ++ r → cond b (x ∷ l) l ≡ cond b (x ∷ m) m ++ r
  onto true x l m r e = ap (λ (t : List A). x ∷ t) e
  onto false x l m r e = e

  -- those of two lists, one behind the other
  pub passing_append : (o p : List A) → passing f (o ++ p) ≡ passing f o ++ passing f p
  unfolding passing
  passing_append [] p = refl
  passing_append (x ∷ o) p = onto (f x) x (passing f (o ++ p)) (passing f o) (passing f p) (passing_append o p)

  -- one element
  pub passing_one : (p : A) {b : Bool} → f p ≡ b → passing f (p ∷ []) ≡ cond b (p ∷ []) []
  unfolding passing
  passing_one p e = rw e

  -- one element more at the end
  pub passing_more : (o : List A) (p : A) → f p ≡ true → passing f (o ++ (p ∷ [])) ≡ passing f o ++ (p ∷ [])
  passing_more o p e = rw (passing_append o (p ∷ []), passing_one p e)

  pub passing_skip : (o : List A) (p : A) → f p ≡ false → passing f (o ++ (p ∷ [])) ≡ passing f o
  passing_skip o p e = rw (passing_append o (p ∷ []), passing_one p e) (append-nil (passing f o))

  -- where all pass
  pub passing_all : ((p : A) → f p ≡ true) → (o : List A) → passing f o ≡ o
  unfolding passing
  passing_all h [] = refl
  passing_all h (x ∷ o) = rw (h x, passing_all h o)

-- ---- where they stand

-- the elements of l stand in o at rising places, where f holds, and every element of o where f holds is one of them
pub record Within (f : ℕ → Bool) (o l : List ℕ) : Type 0 where
  pub place : ℕ → ℕ
  pub inside : (k : ℕ) → k < length l → place k < length o
  pub there : (k : ℕ) → k < length l → get_or o (place k) 0 ≡ get_or l k 0
  pub passes : (k : ℕ) → k < length l → f (get_or l k 0) ≡ true
  pub rises : (j k : ℕ) → j < k → k < length l → place j < place k
  pub every : (k : ℕ) → k < length o → f (get_or o k 0) ≡ true → (j : ℕ) × (j < length l) × (get_or l j 0 ≡ get_or o k 0)

-- the places of a list with its head
abbrev shifted : (ℕ → ℕ) → ℕ → ℕ
shifted g zero = zero
shifted g (suc k) = suc (g k)

module _ (f : ℕ → Bool) (x : ℕ) (o l : List ℕ) (w : Within f o l) where
  kept_rises : (j k : ℕ) → j < k → k < suc (length l) → shifted w.place j < shifted w.place k
  kept_rises j zero h m = absurd (not-suc-le-zero h)
  kept_rises zero (suc k) h m = suc-le-suc zero-le
  kept_rises (suc j) (suc k) h m = suc-le-suc (w.rises j k (le_of_suc-le-suc h) (le_of_suc-le-suc m))

  kept : f x ≡ true → Within f (x ∷ o) (x ∷ l)
  kept e =
      record {
        place = shifted w.place;
        inside = elim [ zero ↦ λ h. suc-le-suc zero-le | suc k ↦ λ h. suc-le-suc (w.inside k (le_of_suc-le-suc h)) ];
        there = elim [ zero ↦ λ h. refl | suc k ↦ λ h. w.there k (le_of_suc-le-suc h) ];
        passes = elim [ zero ↦ λ h. e | suc k ↦ λ h. w.passes k (le_of_suc-le-suc h) ];
        rises = kept_rises;
        every = elim [
          | zero ↦ λ h t. (0, suc-le-suc zero-le, refl)
          | suc k ↦ λ h t. let y = w.every k (le_of_suc-le-suc h) t in (suc y.0, suc-le-suc y.1, y.2)
        ];
      }

  left_out : f x ≡ false → Within f (x ∷ o) l
  left_out e =
      record {
        place = λ k. suc (w.place k);
        inside = λ k h. suc-le-suc (w.inside k h);
        there = w.there;
        passes = w.passes;
        rises = λ j k h m. suc-le-suc (w.rises j k h m);
        every = elim [ zero ↦ λ h t. absurd (true_false t e) | suc k ↦ λ h t. w.every k (le_of_suc-le-suc h) t ];
      }

  either_way : (b : Bool) → f x ≡ b → Within f (x ∷ o) (cond b (x ∷ l) l)
  either_way true e = kept e
  either_way false e = left_out e

pub passing_within : (f : ℕ → Bool) (o : List ℕ) → Within f o (passing f o)
unfolding passing
passing_within f [] =
    record {
      place = λ k. k;
      inside = λ k h. h;
      there = λ k h. refl;
      passes = λ k h. absurd (not-suc-le-zero h);
      rises = λ j k h m. h;
      every = λ k h t. absurd (not-suc-le-zero h);
    }
passing_within f (x ∷ o) = either_way f x o (passing f o) (passing_within f o) (f x) refl
