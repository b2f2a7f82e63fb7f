-- Laws of reports: their limits, and what the call answers. Assumes nothing.
use mathlib.Core.Path.{◌≡◌, refl, sym, ap, ◌∙◌}
use mathlib.Core.Bool.{Bool, true, false, ◌||◌}
use mathlib.Core.List.{List, [], ◌∷◌}
use mathlib.Core.Logic.{⊎_elim}
use Rattle.std.specs.List.{list_any}
use Prim.Native.Nat.{ℕ, zero, suc, ◌*◌, ◌≤◌}
use native.Mathlib.Omega.{arith}
use lib.Dec.{leb, ltb}
use lib.ListN.{length, get_or}
use borrow.Author.Tests.{eq-eqb, ne_eqb, le-leb, lt-leb, leb-true, lt-ltb, le-ltb, ltb-true, ltb-false}
use Rattle.base.specs.Leading.{leading}
use Rattle.base.proofs.Bools.{either, or_false}
use Rattle.base.proofs.LeadingLaws.{leading_cons}
use Rattle.base.proofs.SearchLaws.{le_or_lt}
use Rattle.coverage.specs.Month.{InBounds}
use Rattle.coverage.specs.Report.{joined, coverage_of, any_over, is_over, added_to}
use Rattle.std.specs.Prelude.{Ok, Err}
use Rattle.coverage.specs.declared.AddError.TheVariants.{OverLimit, Full}
use Rattle.coverage.specs.declared.Coverage.{Coverage}

ltb_suc : (m n : ℕ) → ltb m n ≡ ltb (suc m) (suc n)
ltb_suc m n =
    ⊎_elim (λ l. le-ltb m n l ∙ sym (le-ltb (suc m) (suc n) (omega arith))) (λ l. lt-ltb m n l ∙ sym (lt-ltb (suc m) (suc n) (omega arith)))
    (le_or_lt n m)

module _ (limit : ℕ) where
  all_lead : (l : List ℕ) → ((i : ℕ) → get_or l i 0 ≤ limit) → leading (λ x. leb x limit) l ≡ length l
  all_lead [] h = refl
  all_lead (x ∷ l) h = rw (le-leb x limit (h 0)) (ap suc (all_lead l (λ i. h (suc i))))

  none_high : (l : List ℕ) → length l ≤ leading (λ x. leb x limit) l → (i : ℕ) → get_or l i 0 ≤ limit
  none_high [] h i = omega arith
  none_high (x ∷ l) h zero = leb-true x limit (leading_cons (λ x. leb x limit) x l h).0
  none_high (x ∷ l) h (suc i) = none_high l (leading_cons (λ x. leb x limit) x l h).1 i

  none_over : (l : List ℕ) → ((i : ℕ) → get_or l i 0 ≤ limit) → any_over limit l ≡ false
  none_over l h = le-ltb (leading (λ x. leb x limit) l) (length l) (omega (arith, all_lead l h))

  each_low : (l : List ℕ) → any_over limit l ≡ false → (i : ℕ) → get_or l i 0 ≤ limit
  each_low l e = none_high l (ltb-false (leading (λ x. leb x limit) l) (length l) e)

  -- as the code finds it
  pub some_over : (l : List ℕ) → list_any (λ x. ltb limit x) l ≡ any_over limit l
  some_over [] = refl
  some_over (x ∷ l) =
      ⊎_elim
      (λ e.
      ap (λ (b : Bool). b || list_any (λ x. ltb limit x) l) e
      ∙ sym (rw (lt-leb x limit (ltb-true limit x e)) (lt-ltb 0 (length (x ∷ l)) (omega arith))))
      (λ e.
      ap (λ (b : Bool). b || list_any (λ x. ltb limit x) l) e
      ∙ some_over l
      ∙ rw (le-leb x limit (ltb-false limit x e)) (ltb_suc (leading (λ x. leb x limit) l) (length l)))
      (either (ltb limit x))

-- a report that is not number 11 is in bounds, and the other way round
module _ (c : Coverage) where
  abbrev limit : ℕ
  limit = 600 * c.listings

  pub in_bounds : is_over c ≡ false → InBounds c
  unfolding is_over
  in_bounds e =
      let pages = any_over limit c.pages in
      let sync = any_over limit c.sync || pages in
      let frames = any_over limit c.frames || sync in
      let a = or_false (ltb 1000 c.listings) (any_over limit c.refused || frames) e in
      let b = or_false (any_over limit c.refused) frames a.1 in
      let d = or_false (any_over limit c.frames) sync b.1 in
      let f = or_false (any_over limit c.sync) pages d.1 in
      record {
        listings = ltb-false 1000 c.listings a.0;
        refused = each_low limit c.refused b.0;
        frames = each_low limit c.frames d.0;
        sync = each_low limit c.sync f.0;
        pages = each_low limit c.pages f.1;
      }

  pub passes : InBounds c → is_over c ≡ false
  unfolding is_over
  passes w =
      rw (
        le-ltb 1000 c.listings w.listings,
        none_over limit c.refused w.refused,
        none_over limit c.frames w.frames,
        none_over limit c.sync w.sync,
        none_over limit c.pages w.pages,
      )

-- ---- the call, test by test

module _ (c : Coverage) (s : List ℕ) where
  pub added_over : is_over c ≡ true → added_to c s ≡ record { answer = Err OverLimit; coverage = c }
  unfolding added_to
  added_over e = rw e

  pub added_full : is_over c ≡ false → c.listings ≡ 1000 → added_to c s ≡ record { answer = Err Full; coverage = c }
  unfolding added_to
  added_full e n = rw (e, eq-eqb c.listings 1000 n)

  pub added_more : is_over c ≡ false → (c.listings ≡ 1000 → ⊥) → added_to c s ≡ record { answer = Ok tt; coverage = joined c (coverage_of s) }
  unfolding added_to
  added_more e n = rw (e, ne_eqb c.listings 1000 n)
