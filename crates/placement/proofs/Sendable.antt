-- What `is_sendable` says, and how it is found page by page. Assumes nothing.
use mathlib.Core.Path.{◌≡◌, refl, sym, ap, ◌∙◌}
use mathlib.Core.Bool.{true, false, ◌&&◌}
use mathlib.Core.List.{List, [], ◌∷◌}
use mathlib.Core.Logic.{⊎_elim}
use Prim.Native.Nat.{ℕ, zero, suc, ◌+◌, ◌≤◌, ◌<◌, zero-le, suc-le-suc}
use native.Mathlib.Nat.{le_of_suc-le-suc, not-suc-le-zero}
use native.Mathlib.Omega.{arith}
use lib.Dec.{eqb, leb, ltb}
use lib.ListN.{length, get_or}
use borrow.Author.Tests.{ltb-true, leb-true, eqb-true, lt-ltb, le-leb, eq-eqb}
use Rattle.std.specs.Prelude as list
use Rattle.std.specs.List.{list_all}
use Rattle.std.proofs.lemmas.List.Sums.{sum_by-cons}
use Rattle.base.specs.Search.{sum}
use Rattle.base.proofs.Bools.{either, and_true, and_both}
use Rattle.placement.specs.Placement.{Framed, messages, job_of, all_framed, is_sendable}

-- a job that can be sent
pub record Sendable (frames words : List ℕ) : Type 0 where
  pub framed : Framed (job_of frames words)
  pub few : length frames ≤ 48
  pub short : messages (job_of frames words) ≤ 4032
  pub paired : length words ≡ length frames

all_framed_lem : (frames : List ℕ) → all_framed frames ≡ true → (i : ℕ) → i < length frames → get_or frames i 0 < 8
unfolding all_framed
all_framed_lem [] e i h = absurd (not-suc-le-zero h)
all_framed_lem (f ∷ frames) e zero h = ltb-true f 8 (and_true (ltb f 8) (all_framed frames) e).0
all_framed_lem (f ∷ frames) e (suc i) h = all_framed_lem frames (and_true (ltb f 8) (all_framed frames) e).1 i (le_of_suc-le-suc h)

framed_all : (frames : List ℕ) → ((i : ℕ) → i < length frames → get_or frames i 0 < 8) → all_framed frames ≡ true
unfolding all_framed
framed_all [] h = refl
framed_all (f ∷ frames) h = and_both (lt-ltb f 8 (h 0 (suc-le-suc zero-le))) (framed_all frames (λ i l. h (suc i) (suc-le-suc l)))

-- what the whole test gives, and what gives it
pub sendable_of : (frames words : List ℕ) → is_sendable frames words ≡ true → Sendable frames words
unfolding is_sendable
sendable_of frames words e =
    let a = and_true (eqb (length words) (length frames) && leb (length frames) 48 && all_framed frames) (leb (messages (job_of frames words)) 4032) e in
    let b = and_true (eqb (length words) (length frames) && leb (length frames) 48) (all_framed frames) a.0 in
    let c = and_true (eqb (length words) (length frames)) (leb (length frames) 48) b.0 in
    record {
      framed = all_framed_lem frames b.1;
      few = leb-true (length frames) 48 c.1;
      short = leb-true (messages (job_of frames words)) 4032 a.1;
      paired = eqb-true (length words) (length frames) c.0;
    }

pub of_sendable : {frames words : List ℕ} → Sendable frames words → is_sendable frames words ≡ true
unfolding is_sendable
of_sendable {frames} {words} s =
    and_both
    (and_both (and_both (eq-eqb (length words) (length frames) s.paired) (le-leb (length frames) 48 s.few)) (framed_all frames s.framed))
    (le-leb (messages (job_of frames words)) 4032 s.short)

-- ---- by the two lists

all_framed_is : (frames : List ℕ) → all_framed frames ≡ list_all (λ f. ltb f 8) frames
unfolding all_framed
all_framed_is [] = refl
all_framed_is (f ∷ frames) = rw (all_framed_is frames)

sum_first : (f : ℕ → ℕ) (n : ℕ) → sum f (suc n) ≡ f 0 + sum (λ k. f (suc k)) n
unfolding sum
sum_first f zero = omega arith
sum_first f (suc n) = omega (arith, sum_first f n)

sum_list : (xs : List ℕ) → sum (λ k. get_or xs k 0) (length xs) ≡ list.sum xs
unfolding sum
sum_list [] = refl
sum_list (x ∷ xs) = sum_first (λ k. get_or (x ∷ xs) k 0) (length xs) ∙ ap (λ (n : ℕ). x + n) (sum_list xs) ∙ sym (sum_by-cons (λ (n : ℕ). n) x xs)

module _ (frames words : List ℕ) where
  -- the test as the code makes it
  pub by_lists : length words ≡ length frames → length frames ≤ 48
      → is_sendable frames words ≡ (list_all (λ f. ltb f 8) frames && leb (list.sum words) 4032)
  unfolding is_sendable
  by_lists p f =
      let all : messages (job_of frames words) ≡ list.sum words = rw (← p) (sum_list words) in
      rw (all, all_framed_is frames, eq-eqb (length words) (length frames) p, le-leb (length frames) 48 f)

  -- each answer of the code
  not_sendable : (Sendable frames words → ⊥) → false ≡ is_sendable frames words
  not_sendable f = ⊎_elim (λ e. absurd (f (sendable_of frames words e))) (λ e. sym e) (either (is_sendable frames words))

  pub unpaired : (length words ≡ length frames → ⊥) → false ≡ is_sendable frames words
  unpaired h = not_sendable (λ s. h s.paired)

  pub many : 48 < length frames → false ≡ is_sendable frames words
  many h = not_sendable (λ s. omega (arith, s.few))
