-- Laws of `least` and `sum`. Assumes nothing.
use mathlib.Core.Path.{◌≡◌, refl, ap, ◌∙◌}
use mathlib.Core.Bool.{Bool, true, false}
use mathlib.Core.Logic.{⊎_elim, ◌⊎◌, inl, inr}
use Prim.Native.Nat.{ℕ, zero, suc, ◌+◌, ◌*◌, ◌≤◌, ◌<◌, zero-le, suc-le-suc}
use native.Mathlib.Nat.{le_of_suc-le-suc, not-suc-le-zero, eq-or-lt_of_le, add-zero, add-suc, mul-suc}
use native.Mathlib.Numerals.{add-one}
use native.Mathlib.Omega.{arith}
use Rattle.base.specs.Search.{least, sum}
use Rattle.base.proofs.Bools.{true_false}

-- r is the least number below n that passes p, or n where none does
pub record Least (p : ℕ → Bool) (n r : ℕ) : Type 0 where
  pub within : r ≤ n
  pub before : (k : ℕ) → k < r → p k ≡ false
  pub here : r < n → p r ≡ true

pub least_is : (p : ℕ → Bool) (n : ℕ) → Least p n (least p n)
unfolding least
least_is p zero =
    record { within = zero-le; before = λ k h. absurd (not-suc-le-zero h); here = λ h. absurd (not-suc-le-zero h) }
least_is p (suc n) = go (p zero) refl (least_is (λ k. p (suc k)) n)
  where
    go : (b : Bool) → p zero ≡ b → Least (λ k. p (suc k)) n (least (λ k. p (suc k)) n) → Least p (suc n) (least p (suc n))
    go true e r = rw (e, least) (record { within = zero-le; before = λ k h. absurd (not-suc-le-zero h); here = λ h. e })
    go false e r =
        rw (e, least)
        (record {
          within = suc-le-suc r.within;
          before = elim [ zero ↦ λ h. e | suc k ↦ λ h. r.before k (le_of_suc-le-suc h) ];
          here = λ h. r.here (le_of_suc-le-suc h);
        })

pub le_or_lt : (a b : ℕ) → (a ≤ b) ⊎ (b < a)
le_or_lt zero b = inl zero-le
le_or_lt (suc a) zero = inr (suc-le-suc zero-le)
le_or_lt (suc a) (suc b) = ⊎_elim (λ p. inl (suc-le-suc p)) (λ q. inr (suc-le-suc q)) (le_or_lt a b)

not_above : (p : ℕ → Bool) (n r q : ℕ) → Least p n r → Least p n q → r ≤ q
not_above p n r q h g =
    ⊎_elim (λ l. l) (λ l. absurd (true_false (g.here (omega (arith, h.within))) (h.before q l))) (le_or_lt r q)

-- there is one such number at most
pub least_only : (p : ℕ → Bool) (n r : ℕ) → Least p n r → least p n ≡ r
least_only p n r h =
    omega (arith, not_above p n (least p n) r (least_is p n) h, not_above p n r (least p n) h (least_is p n))

-- ---- sums

-- a sum as a loop makes it: of nothing, and with one more
pub sum_none : (f : ℕ → ℕ) → 0 ≡ sum f 0
unfolding sum
sum_none f = refl

pub sum_next : (f : ℕ → ℕ) (n : ℕ) {total x : ℕ} → total ≡ sum f n → x ≡ f n → total + x ≡ sum f (n + 1)
unfolding sum
sum_next f n e h = rw (add-one n, e, h)

-- of numbers up to b
pub sum_most : (f : ℕ → ℕ) (b n : ℕ) → ((k : ℕ) → f k ≤ b) → sum f n ≤ b * n
unfolding sum
sum_most f b zero h = zero-le
sum_most f b (suc n) h =
    let a : sum f n ≤ b * n = sum_most f b n h in
    let c : f n ≤ b = h n in
    rw (mul-suc b n) (omega arith)

pub sum_cong : (f g : ℕ → ℕ) (n : ℕ) → ((k : ℕ) → k < n → f k ≡ g k) → sum f n ≡ sum g n
unfolding sum
sum_cong f g zero h = refl
sum_cong f g (suc n) h =
    let a : sum f n ≡ sum g n = sum_cong f g n (λ k l. h k (omega arith)) in
    let b : f n ≡ g n = h n (omega arith) in
    omega arith

pub sum_le : (f g : ℕ → ℕ) (n : ℕ) → ((k : ℕ) → k < n → f k ≤ g k) → sum f n ≤ sum g n
unfolding sum
sum_le f g zero h = zero-le
sum_le f g (suc n) h =
    let a : sum f n ≤ sum g n = sum_le f g n (λ k l. h k (omega arith)) in
    let b : f n ≤ g n = h n (omega arith) in
    omega arith

-- two sums that differ at one place only
pub sum_at : (f g : ℕ → ℕ) (n i : ℕ) → i < n → ((k : ℕ) → k < n → (k ≡ i → ⊥) → g k ≡ f k) → sum g n + f i ≡ sum f n + g i
unfolding sum
sum_at f g zero i l h = absurd (not-suc-le-zero l)
sum_at f g (suc n) i l h = ⊎_elim here (λ m. below m (sum_at f g n i m (λ k q. h k (omega arith)))) (eq-or-lt_of_le (le_of_suc-le-suc l))
  where
    here : i ≡ n → sum g n + g n + f i ≡ sum f n + f n + g i
    here e =
        let a : sum g n ≡ sum f n = sum_cong g f n (λ k m. h k (omega arith) (λ q. omega arith)) in
        rw e (omega arith)

    below : i < n → sum g n + f i ≡ sum f n + g i → sum g n + g n + f i ≡ sum f n + f n + g i
    below m a =
        let b : g n ≡ f n = h n (omega arith) (λ q. omega arith) in
        omega arith

pub sum_ones : (n : ℕ) → sum (λ _. 1) n ≡ n
unfolding sum
sum_ones zero = refl
sum_ones (suc n) = let a : sum (λ _. 1) n ≡ n = sum_ones n in omega arith

pub sum_zeros : (n : ℕ) → sum (λ _. 0) n ≡ 0
unfolding sum
sum_zeros zero = refl
sum_zeros (suc n) = let a : sum (λ _. 0) n ≡ 0 = sum_zeros n in omega arith

-- of a front, and of what stands behind it
pub sum_add : (f : ℕ → ℕ) (n m : ℕ) → sum f (n + m) ≡ sum f n + sum (λ k. f (n + k)) m
unfolding sum
sum_add f n zero = rw (add-zero n) (omega arith)
sum_add f n (suc m) = rw (add-suc n m) (let a : sum f (n + m) ≡ sum f n + sum (λ k. f (n + k)) m = sum_add f n m in omega arith)

-- two by two
pub sum_pairs : (f : ℕ → ℕ) (n : ℕ) → sum (λ k. f (2 * k) + f (2 * k + 1)) n ≡ sum f (2 * n)
unfolding sum
sum_pairs f zero = refl
sum_pairs f (suc n) =
    let a : sum (λ k. f (2 * k) + f (2 * k + 1)) n ≡ sum f (2 * n) = sum_pairs f n in
    let two : 2 * suc n ≡ suc (suc (2 * n)) = omega arith in
    let next : 2 * n + 1 ≡ suc (2 * n) = omega arith in
    rw (two, next, sum) (omega arith)

-- ---- sums of sums

pub sum_plus : (f g : ℕ → ℕ) (n : ℕ) → sum (λ k. f k + g k) n ≡ sum f n + sum g n
unfolding sum
sum_plus f g zero = refl
sum_plus f g (suc n) = let a : sum (λ k. f k + g k) n ≡ sum f n + sum g n = sum_plus f g n in omega arith

pub sum_twice : (f g : ℕ → ℕ) (n : ℕ) → sum (λ k. f k + 2 * g k) n ≡ sum f n + 2 * sum g n
unfolding sum
sum_twice f g zero = refl
sum_twice f g (suc n) = let a : sum (λ k. f k + 2 * g k) n ≡ sum f n + 2 * sum g n = sum_twice f g n in omega arith

-- the other way round
pub sum_swap : (f : ℕ → ℕ → ℕ) (m n : ℕ) → sum (λ i. sum (λ j. f i j) n) m ≡ sum (λ j. sum (λ i. f i j) m) n
unfolding sum
sum_swap f m zero = sum_zeros m
sum_swap f m (suc n) = sum_plus (λ i. sum (λ j. f i j) n) (λ i. f i n) m ∙ ap (λ (x : ℕ). x + sum (λ i. f i n) m) (sum_swap f m n)
