-- Laws of lists: filling loops, lists by index. Assumes nothing.
use Prim.Native.Nat.{ℕ, zero, suc, ◌+◌, ◌-◌, ◌≤◌, ◌<◌, zero-le, suc-le-suc}
use mathlib.Core.Path.{◌≡◌, refl, sym, ap, ap₂, ◌∙◌}
use mathlib.Core.Bool.{◌||◌, or_assoc}
use mathlib.Core.List.{List, [], ◌∷◌, ◌++◌, map, append-nil, append_assoc}
use native.Mathlib.Nat.{not-suc-le-zero, le_of_suc-le-suc}
use native.Mathlib.Numerals.{add-one}
use native.Mathlib.Omega.{arith}
use lib.Dec.{eqb}
use lib.ListN.{length, set, get_or, take, drop, replicate, length-take, length-drop, length-append, drop_of_length-le}
use lib.Seq.{take_all, take-nil, drop-cons, drop-drop, append_snoc, take-append_seam, drop-append_seam, set-append_seam, get_or_at, length-take-le}
use Rattle.base.specs.Lists.{over, tab, padded, has}

-- a part that goes to the end of its slice
pub to_end : (a : ℕ) (l : List ℕ) → take (length l - a) (drop a l) ≡ drop a l
to_end a l = take_all (length l - a) (drop a l) (omega (arith, length-drop a l))

-- a part of a part
pub drop_take : (m n : ℕ) (l : List ℕ) → drop m (take n l) ≡ take (n - m) (drop m l)
drop_take zero n l = let e : n - 0 ≡ n = omega arith in rw e
drop_take (suc m) zero l = let e : 0 - suc m ≡ 0 = omega arith in rw e
drop_take (suc m) (suc n) [] = sym (take-nil (suc n - suc m))
drop_take (suc m) (suc n) (x ∷ l) = let e : suc n - suc m ≡ n - m = omega arith in rw e (drop_take m n l)

-- what one list or the other has
pub has_append : (x : ℕ) (s t : List ℕ) → has x (s ++ t) ≡ has x s || has x t
unfolding has
has_append x [] t = refl
has_append x (b ∷ s) t = rw (has_append x s t) (sym (or_assoc (eqb b x) (has x s) (has x t)))

-- ---- filling loops

-- old with its first i elements replaced by those of new
abbrev pub filled {ℓ} : {A : Type ℓ} → List A → List A → ℕ → List A
filled old new i = take i new ++ drop i old

pub filled-suc {ℓ} : {A : Type ℓ} (old new : List A) (i : ℕ) (d : A) → i < length old → i < length new → set (filled old new i) i (get_or new i d) ≡ filled old new (suc i)
filled-suc [] new i d l m = absurd (not-suc-le-zero l)
filled-suc (y ∷ old) [] i d l m = absurd (not-suc-le-zero m)
filled-suc (y ∷ old) (x ∷ new) zero d l m = refl
filled-suc (y ∷ old) (x ∷ new) (suc i) d l m = ap (◌∷◌ x) (filled-suc old new i d (le_of_suc-le-suc l) (le_of_suc-le-suc m))

-- a turn of the loop: v goes into place i
pub filled_turn : (old new : List ℕ) (i : ℕ) {l : List ℕ} {v : ℕ} → l ≡ filled old new i → i < length old → i < length new → v ≡ get_or new i 0
    → set l i v ≡ filled old new (i + 1)
filled_turn old new i e h m q = rw (q, e, add-one) (filled-suc old new i 0 h m)

-- where the loop stands, the old element is still there
pub filled_here : (old new : List ℕ) (i : ℕ) → i < length old → i ≤ length new → get_or (filled old new i) i 0 ≡ get_or old i 0
filled_here old new i h m = rw (drop-cons old i 0 h) (get_or_at (take i new) (get_or old i 0) (drop (suc i) old) 0 i (length-take-le i new m))

-- its end: the new elements over the old ones
pub filled_over : (old new : List ℕ) → filled old new (length new) ≡ over old new
filled_over old new = ap (λ (x : List ℕ). x ++ drop (length new) old) (take_all (length new) new (omega arith))

pub filled_length : (old new : List ℕ) (i : ℕ) → i ≤ length old → i ≤ length new → length (filled old new i) ≡ length old
filled_length old new zero h m = refl
filled_length [] new (suc i) h m = absurd (not-suc-le-zero h)
filled_length (y ∷ old) [] (suc i) h m = absurd (not-suc-le-zero m)
filled_length (y ∷ old) (x ∷ new) (suc i) h m = ap suc (filled_length old new i (le_of_suc-le-suc h) (le_of_suc-le-suc m))

-- what is left of an array of equal elements
pub equal-left {ℓ} : {A : Type ℓ} (d : A) (n k : ℕ) → drop k (replicate n d) ≡ replicate (n - k) d
equal-left d n zero = let e : n - 0 ≡ n = omega arith in rw e
equal-left d zero (suc k) = let e : 0 - suc k ≡ 0 = omega arith in rw e
equal-left d (suc n) (suc k) = let e : suc n - suc k ≡ n - k = omega arith in rw e (equal-left d n k)

-- an array of zeros with elements over it
pub over_zeros : (n : ℕ) (xs : List ℕ) → over (replicate n 0) xs ≡ padded n xs
over_zeros n xs = ap (λ (t : List ℕ). xs ++ t) (equal-left 0 n (length xs))

-- ---- writing on behind what is written already

-- a place behind it gets v
pub over_byte : (old new : List ℕ) (a v : ℕ) {out : List ℕ} → out ≡ over old new → length new ≡ a → a < length old → set out a v ≡ over old (new ++ (v ∷ []))
over_byte old new a v e l h =
    let tail : drop (length new) old ≡ get_or old (length new) 0 ∷ drop (suc (length new)) old = drop-cons old (length new) 0 (omega arith) in
    let size : length (new ++ (v ∷ [])) ≡ suc (length new) = length-append new (v ∷ []) ∙ add-one (length new) in
    rw (e, ← l, tail, set-append_seam new (get_or old (length new) 0) (drop (suc (length new)) old) v, size) (sym (append_snoc new v (drop (suc (length new)) old)))

-- n places behind it get p
pub over_part : (old new p : List ℕ) (a n : ℕ) {out : List ℕ} → out ≡ over old new → length new ≡ a → length p ≡ n
    → take a out ++ (p ++ drop n (drop a out)) ≡ over old (new ++ p)
over_part old new p a n e l m =
    let size : length (new ++ p) ≡ length new + length p = length-append new p in
    rw (e, ← l, ← m, take-append_seam new (drop (length new) old), drop-append_seam new (drop (length new) old), drop-drop (length p) (length new) old, size)
    (sym (append_assoc new p (drop (length new + length p) old)))

-- all places behind it were lent, and q was written over their front
pub over_behind : (old new q : List ℕ) (a : ℕ) {out p : List ℕ} → out ≡ over old new → length new ≡ a → a ≤ length out → p ≡ over (take (length out - a) (drop a out)) q
    → take a out ++ (p ++ drop (length out - a) (drop a out)) ≡ over old (new ++ q)
over_behind old new q a {out} e l h f =
    let none : drop (length out - a) (drop a out) ≡ [] = drop_of_length-le (drop a out) {i = length out - a} (omega (arith, length-drop a out)) in
    rw (none, f, to_end a out, append-nil (over (drop a out) q)) (over_part old new q a (length q) e l refl)

-- the slice keeps its length
pub over_length : (old new : List ℕ) → length new ≤ length old → length (over old new) ≡ length old
over_length old new h = omega (arith, length-append new (drop (length new) old), length-drop (length new) old)

-- a slice that is written over whole
pub over_all_lem : (old new : List ℕ) → length old ≤ length new → over old new ≡ new
over_all_lem old new h = rw (drop_of_length-le old h, append-nil new)

-- ---- lists by index

pub tab-length {ℓ} : {A : Type ℓ} (f : ℕ → A) (n : ℕ) → length (tab f n) ≡ n
unfolding tab
tab-length f zero = refl
tab-length f (suc n) = ap suc (tab-length (λ k. f (suc k)) n)

pub tab-at {ℓ} : {A : Type ℓ} (f : ℕ → A) (n i : ℕ) (d : A) → i < n → get_or (tab f n) i d ≡ f i
unfolding tab
tab-at f zero i d h = absurd (not-suc-le-zero h)
tab-at f (suc n) zero d h = refl
tab-at f (suc n) (suc i) d h = tab-at (λ k. f (suc k)) n i d (le_of_suc-le-suc h)

-- no element is over what its number allows
pub tab_most : (f : ℕ → ℕ) (n i b : ℕ) → f i ≤ b → get_or (tab f n) i 0 ≤ b
unfolding tab
tab_most f zero i b h = zero-le
tab_most f (suc n) zero b h = h
tab_most f (suc n) (suc i) b h = tab_most (λ k. f (suc k)) n i b h

pub tab-same {ℓ} : {A : Type ℓ} (f g : ℕ → A) (n : ℕ) → ((i : ℕ) → i < n → f i ≡ g i) → tab f n ≡ tab g n
unfolding tab
tab-same f g zero h = refl
tab-same f g (suc n) h = ap₂ ◌∷◌ (h 0 (suc-le-suc zero-le)) (tab-same (λ k. f (suc k)) (λ k. g (suc k)) n (λ i l. h (suc i) (suc-le-suc l)))

-- with one element more
pub tab-next {ℓ} : {A : Type ℓ} (f : ℕ → A) (n : ℕ) → tab f (n + 1) ≡ tab f n ++ (f n ∷ [])
unfolding tab
tab-next {A = A} f n = rw (add-one n) (go f n)
  where
    go : (g : ℕ → A) (m : ℕ) → tab g (suc m) ≡ tab g m ++ (g m ∷ [])
    go g zero = refl
    go g (suc m) = ap (◌∷◌ (g 0)) (go (λ k. g (suc k)) m)

-- the front of such a list
pub tab_take : (f : ℕ → ℕ) (n m : ℕ) → m ≤ n → take m (tab f n) ≡ tab f m
unfolding tab
tab_take f n zero h = refl
tab_take f zero (suc m) h = absurd (not-suc-le-zero h)
tab_take f (suc n) (suc m) h = ap (λ (t : List ℕ). f 0 ∷ t) (tab_take (λ k. f (suc k)) n m (le_of_suc-le-suc h))

pub map-tab {ℓ κ} : {A : Type ℓ} {B : Type κ} (g : A → B) (f : ℕ → A) (n : ℕ) → map g (tab f n) ≡ tab (λ i. g (f i)) n
unfolding tab
map-tab g f zero = refl
map-tab g f (suc n) = ap₂ ◌∷◌ refl (map-tab g (λ k. f (suc k)) n)

-- a list's elements and, behind them, its default
tab_nothing : (g : ℕ → ℕ) (d n : ℕ) → tab (λ i. g (get_or [] i d)) n ≡ replicate n (g d)
unfolding tab
tab_nothing g d zero = refl
tab_nothing g d (suc n) = ap₂ ◌∷◌ refl (tab_nothing g d n)

pub tab_list : (g : ℕ → ℕ) (d : ℕ) (s : List ℕ) (n : ℕ) → length s ≤ n → tab (λ i. g (get_or s i d)) n ≡ map g s ++ replicate (n - length s) (g d)
unfolding tab
tab_list g d [] n h = let e : n - 0 ≡ n = omega arith in rw e (tab_nothing g d n)
tab_list g d (b ∷ s) zero h = absurd (not-suc-le-zero h)
tab_list g d (b ∷ s) (suc n) h =
    let e : suc n - suc (length s) ≡ n - length s = omega arith in
    rw e (ap₂ ◌∷◌ refl (tab_list g d s n (le_of_suc-le-suc h)))

-- a loop that fills a whole slice or array by index
module _ (f : ℕ → ℕ) (n : ℕ) (old : List ℕ) (size : length old ≡ n) (i : ℕ) {l : List ℕ} (e : l ≡ filled old (tab f n) i) where
  -- a turn of the loop: place i gets f i
  pub tab_turn : {v : ℕ} → i < n → v ≡ f i → set l i v ≡ filled old (tab f n) (i + 1)
  tab_turn h q = filled_turn old (tab f n) i e (omega arith) (omega (arith, tab-length f n)) (q ∙ sym (tab-at f n i 0 h))

  -- its end
  pub tab_full : i ≡ n → l ≡ tab f n
  tab_full q = e ∙ rw (q ∙ sym (tab-length f n), filled_over old (tab f n)) (over_all_lem old (tab f n) (omega (arith, tab-length f n)))

-- ---- a text that is copied over the front of a buffer

pub copied : (old : List ℕ) {text front : List ℕ} {n : ℕ} → n ≡ length text → front ≡ text → front ++ drop n old ≡ over old text
copied old size e = ap₂ (λ (t : List ℕ) (n : ℕ). t ++ drop n old) e size

-- and one that stands at the front of another

module _ {text : List ℕ} (buffer : List ℕ) {n : ℕ} (size : n ≡ length text) (stands : take n buffer ≡ text) where
  pub stands_inside : n ≤ length buffer
  stands_inside = omega (arith, ap length stands, length-take n buffer)

  pub stands_size : n ≡ length (take n buffer)
  stands_size = size ∙ sym (ap length stands)
