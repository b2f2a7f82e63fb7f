-- How often a place is among others, and laws of `tally`: one place more is one count more. Assumes nothing.
use mathlib.Core.Path.{◌≡◌, refl, sym, ap, ◌∙◌}
use mathlib.Core.Bool.{Bool, true, false, cond}
use mathlib.Core.List.{List, [], ◌∷◌, ◌++◌, map}
use mathlib.Core.Logic.{⊎_elim}
use Prim.Native.Nat.{ℕ, zero, suc, ◌+◌, ◌≤◌, ◌<◌}
use native.Mathlib.Numerals.{add-one}
use native.Mathlib.Omega.{arith}
use lib.Dec.{eqb}
use lib.ListN.{length, get_or, set, replicate, length-set, length-replicate, get_or-replicate}
use lib.Seq.{ext_get_or, get_or-set_same, get_or-set_other}
use borrow.Author.Tests.{eqb-true, eqb-false}
use Rattle.base.specs.Lists.{tab}
use Rattle.base.specs.Passing.{passing}
use Rattle.base.specs.Search.{sum}
use Rattle.base.proofs.Bools.{either}
use Rattle.base.proofs.CountLaws.{one, one_le, one_of}
use Rattle.base.proofs.ListLaws.{tab-length, tab-at, tab_most, tab-next}
use Rattle.base.proofs.SearchLaws.{sum_cong, sum_zeros, sum_plus}
use Rattle.coverage.specs.Tally.{tally}
use Rattle.coverage.specs.Progress.{UpTo, bumped}

-- how many of the places are i
abbrev pub times_in : List ℕ → ℕ → ℕ
times_in places i = length (passing (λ p. eqb p i) places)

-- one place more in front, and at the end
pub times_first : (p : ℕ) (places : List ℕ) (i : ℕ) → times_in (p ∷ places) i ≡ one (eqb p i) + times_in places i
unfolding passing
times_first p places i = go (eqb p i)
  where
    go : (b : Bool) → length (cond b (p ∷ passing (λ q. eqb q i) places) (passing (λ q. eqb q i) places)) ≡ one b + times_in places i
    go true = omega arith
    go false = omega arith

pub times_more : (places : List ℕ) (p i : ℕ) → times_in (places ++ (p ∷ [])) i ≡ times_in places i + one (eqb p i)
unfolding passing
times_more [] p i = omega (arith, times_first p [] i)
times_more (q ∷ places) p i = omega (arith, times_first q (places ++ (p ∷ [])) i, times_first q places i, times_more places p i)

pub times_le : (places : List ℕ) (i : ℕ) → times_in places i ≤ length places
unfolding passing
times_le [] i = omega arith
times_le (p ∷ places) i = omega (arith, times_first p places i, one_le (eqb p i), times_le places i)

-- places by index
pub times_tab : (f : ℕ → ℕ) (n i : ℕ) → times_in (tab f n) i ≡ sum (λ k. one (eqb (f k) i)) n
unfolding tab passing sum
times_tab f zero i = refl
times_tab f (suc n) i =
    ap (λ (l : List ℕ). times_in l i) (ap (tab f) (sym (add-one n)) ∙ tab-next f n) ∙ times_more (tab f n) (f n) i
    ∙ ap (λ (x : ℕ). x + one (eqb (f n) i)) (times_tab f n i)

-- where every place is one of m
pub times_all : {A : Type 0} (g : A → ℕ) (m : ℕ) → ((a : A) → g a < m) → (l : List A) → sum (times_in (map g l)) m ≡ length l
unfolding passing
times_all g m h [] = sum_zeros m
times_all g m h (a ∷ l) =
    sum_cong (times_in (g a ∷ map g l)) (λ i. one (eqb (g a) i) + times_in (map g l) i) m (λ i q. times_first (g a) (map g l) i)
    ∙ sum_plus (λ i. one (eqb (g a) i)) (times_in (map g l)) m
    ∙ omega (arith, one_of (g a) m (h a), times_all g m h l)

-- ---- tallies

module _ (m : ℕ) (places : List ℕ) where
  pub tally_length : length (tally m places) ≡ m
  unfolding tally
  tally_length = tab-length (times_in places) m

  pub tally_at : (i : ℕ) → i < m → get_or (tally m places) i 0 ≡ times_in places i
  unfolding tally
  tally_at i h = tab-at (times_in places) m i 0 h

  pub tally_few : (b : ℕ) → ((i : ℕ) → times_in places i ≤ b) → UpTo m b (tally m places)
  unfolding tally
  tally_few b h = record { size = tally_length; each = λ i. tab_most (times_in places) m i b (h i) }

pub tally_none : (m : ℕ) → tally m [] ≡ replicate m 0
unfolding passing
tally_none m =
    ext_get_or 0 (tally m []) (replicate m 0) (tally_length m [] ∙ sym (length-replicate m 0))
    (λ i h. let l : i < m = omega (arith, tally_length m []) in tally_at m [] i l ∙ sym (get_or-replicate m i 0 0 l))

pub tally_more : (m : ℕ) (places : List ℕ) (p : ℕ) {counts : List ℕ} → counts ≡ tally m places → p < m → bumped counts p ≡ tally m (places ++ (p ∷ []))
tally_more m places p {counts} e h =
    ext_get_or 0 (bumped counts p) (tally m (places ++ (p ∷ []))) (length-set counts p (get_or counts p 0 + 1) ∙ size ∙ sym (tally_length m (places ++ (p ∷ []))))
    (λ i l.
    let inside : i < m = omega (arith, length-set counts p (get_or counts p 0 + 1), size) in
    let after = tally_at m (places ++ (p ∷ [])) i inside ∙ times_more places p i in
    let before = ap (λ (c : List ℕ). get_or c i 0) e ∙ tally_at m places i inside in
    ⊎_elim
    (λ (q : eqb p i ≡ true).
    let at = eqb-true p i q in
    ap (λ (x : ℕ). get_or (set counts p (get_or counts p 0 + 1)) x 0) (sym at)
    ∙ get_or-set_same counts p (get_or counts p 0 + 1) 0 (omega (arith, size))
    ∙ ap (λ (x : ℕ). get_or counts x 0 + 1) at
    ∙ omega (arith, before, after, ap one q))
    (λ (q : eqb p i ≡ false).
    get_or-set_other counts p i (get_or counts p 0 + 1) 0 (λ x. eqb-false p i q (sym x))
    ∙ omega (arith, before, after, ap one q))
    (either (eqb p i)))
  where
    size : length counts ≡ m
    size = ap length e ∙ tally_length m places

-- ---- counts as a loop makes them, one place after another

-- none is over the number of places
pub tally_within : (m b : ℕ) (places : List ℕ) {counts : List ℕ} → counts ≡ tally m places → length places ≤ b → UpTo m b counts
tally_within m b places e h = rw e (tally_few m places b (λ i. omega (arith, times_le places i)))

-- places given by index
module _ (m : ℕ) (place : ℕ → ℕ) where
  pub counted_none : {counts : List ℕ} → counts ≡ replicate m 0 → counts ≡ tally m (tab place 0)
  unfolding tab
  counted_none e = e ∙ sym (tally_none m)

  module _ (n : ℕ) {counts : List ℕ} (e : counts ≡ tally m (tab place n)) where
    pub counted_few : UpTo m n counts
    counted_few = tally_within m n (tab place n) e (omega (arith, tab-length place n))

    pub counted_next : {at : ℕ} → at ≡ place n → place n < m → bumped counts at ≡ tally m (tab place (n + 1))
    counted_next q h = ap (bumped counts) q ∙ tally_more m (tab place n) (place n) e h ∙ ap (tally m) (sym (tab-next place n))
