-- The batches of a recording: where the hunt stops, how far a stretch goes, and which stretches there are. Assumes nothing.
use mathlib.Core.Path.{◌≡◌, refl, sym, ap, ◌∙◌}
use mathlib.Core.Bool.{Bool, true, false, not}
use mathlib.Core.List.{List, [], ◌∷◌}
use mathlib.Core.Logic.{⊎_elim}
use Prim.Native.Nat.{ℕ, zero, suc, ◌+◌, ◌-◌, ◌*◌, ◌≤◌, ◌<◌}
use native.Mathlib.Omega.{arith}
use lib.Dec.{leb}
use borrow.Author.Count.{below_more}
use borrow.Author.Tests.{le-leb, lt-leb, leb-true, not-true, not-false}
use Rattle.base.specs.Search.{least}
use Rattle.base.proofs.Bools.{either, true_false, and_true, and_both, and_false}
use Rattle.base.proofs.SearchLaws.{Least, least_is, least_only, le_or_lt}
use Rattle.codeword.specs.Nearest.{nearest}
use Rattle.reader.specs.Meaning.{is_sync}
use Rattle.receiver.specs.Bits.{bit_count, word_from}
use Rattle.receiver.specs.Stretches.{is_batch, hunt_from, batches_from, Stretch, stretch_at, stretch_end, stretches_in, stretches_of}
use Rattle.receiver.specs.Progress.{stretches_from}

module _ (s : List ℕ) where
  -- ---- where there is a batch

  -- 32 bits that correct to sync, with 512 bits behind them, begin a batch
  pub batch_is : (p : ℕ) → p + 544 ≤ bit_count s → is_sync (nearest (word_from s p)) ≡ true → is_batch s p ≡ true
  unfolding is_batch
  batch_is p l e = and_both (le-leb (p + 544) (bit_count s) l) e

  -- 32 bits that don't correct to sync begin none
  pub batch_not : (p : ℕ) → is_sync (nearest (word_from s p)) ≡ false → is_batch s p ≡ false
  unfolding is_batch
  batch_not p e = rw e (and_false (leb (p + 544) (bit_count s)))

  -- where fewer than 544 bits are left there is none
  pub batch_late : (p : ℕ) → bit_count s < p + 544 → is_batch s p ≡ false
  unfolding is_batch
  batch_late p l = rw (lt-leb (p + 544) (bit_count s) l)

  both : (p : ℕ) → is_batch s p ≡ true → (leb (p + 544) (bit_count s) ≡ true) × (is_sync (nearest (word_from s p)) ≡ true)
  unfolding is_batch
  both p e = and_true (leb (p + 544) (bit_count s)) (is_sync (nearest (word_from s p))) e

  -- a batch has its 544 bits
  batch_fits : (p : ℕ) → is_batch s p ≡ true → p + 544 ≤ bit_count s
  batch_fits p e = leb-true (p + 544) (bit_count s) (both p e).0

  -- a batch begins with sync
  pub batch_synced : (p : ℕ) → is_batch s p ≡ true → is_sync (nearest (word_from s p)) ≡ true
  batch_synced p e = (both p e).1

  -- what the sync test of the word at position p answered
  pub tested : (p : ℕ) {w : ℕ} {r b : Bool} → w ≡ word_from s p → r ≡ is_sync (nearest w) → r ≡ b → is_sync (nearest (word_from s p)) ≡ b
  tested p e f g = ap (λ (x : ℕ). is_sync (nearest x)) (sym e) ∙ sym f ∙ g

  -- ---- the hunt

  -- how far it goes
  abbrev far : ℕ → ℕ
  far p = least (λ k. is_batch s (p + k)) (bit_count s - p)

  far_is : (p : ℕ) → Least (λ k. is_batch s (p + k)) (bit_count s - p) (far p)
  far_is p = least_is (λ k. is_batch s (p + k)) (bit_count s - p)

  -- the hunt goes on from where it starts
  pub hunt_on : (p : ℕ) → p ≤ hunt_from s p
  unfolding hunt_from
  hunt_on p = omega arith

  -- the hunt ends in the recording
  pub hunt_inside : (p : ℕ) → p ≤ bit_count s → hunt_from s p ≤ bit_count s
  unfolding hunt_from
  hunt_inside p l = omega (arith, (far_is p).within)

  stops : (p t : ℕ) → p ≤ t → t ≤ bit_count s → ((q : ℕ) → p ≤ q → q < t → is_batch s q ≡ false) → (t < bit_count s → is_batch s t ≡ true)
      → hunt_from s p ≡ t
  unfolding hunt_from
  stops p t h l before here =
      let e : p + (t - p) ≡ t = omega arith in
      let r : Least (λ k. is_batch s (p + k)) (bit_count s - p) (t - p) =
      record {
        within = omega arith;
        before = λ k m. before (p + k) (omega arith) (omega arith);
        here = λ m. rw e (here (omega arith));
      } in
      omega (arith, least_only (λ k. is_batch s (p + k)) (bit_count s - p) (t - p) r)

  -- the hunt stops at the first batch
  pub hunt_is : (p t : ℕ) → p ≤ t → ((q : ℕ) → p ≤ q → q < t → is_batch s q ≡ false) → is_batch s t ≡ true → hunt_from s p ≡ t
  hunt_is p t h before here = stops p t h (omega (arith, batch_fits t here)) before (λ _. here)

  -- without a batch, up to a position too near the end for one, the hunt goes to the end
  pub hunt_none : (p t : ℕ) → p ≤ bit_count s → ((q : ℕ) → p ≤ q → q < t → is_batch s q ≡ false) → bit_count s < t + 544 → hunt_from s p ≡ bit_count s
  hunt_none p t h before late =
      stops p (bit_count s) h (omega arith)
      (λ q l m. ⊎_elim (λ (a : t ≤ q). batch_late q (omega arith)) (λ (b : q < t). before q l b) (le_or_lt t q)) (λ l. absurd (omega arith))

  -- one more position without a batch
  pub passed_more : (p t : ℕ) → ((q : ℕ) → p ≤ q → q < t → is_batch s q ≡ false) → is_batch s t ≡ false → (q : ℕ) → p ≤ q → q < t + 1 → is_batch s q ≡ false
  passed_more p t before here q l m = below_more (λ k. p ≤ k → is_batch s k ≡ false) t (λ k a b. before k b a) (λ _. here) q m l

  -- ---- a stretch

  -- how many batches it has, as a search
  count_is : (q : ℕ) → Least (λ k. not (is_batch s (q + 544 * k))) (bit_count s) (batches_from s q)
  unfolding batches_from
  count_is q = least_is (λ k. not (is_batch s (q + 544 * k))) (bit_count s)

  -- each batch counted is one
  pub batches_are : (q k : ℕ) → k < batches_from s q → is_batch s (q + 544 * k) ≡ true
  batches_are q k l = not-false (is_batch s (q + 544 * k)) ((count_is q).before k l)

  -- directly behind a stretch there is no batch
  pub batches_end : (q : ℕ) → is_batch s (stretch_end (stretch_at s q)) ≡ false
  batches_end q =
      ⊎_elim (λ (l : bit_count s ≤ batches_from s q). batch_late (q + 544 * batches_from s q) (omega arith))
      (λ (l : batches_from s q < bit_count s). not-true (is_batch s (q + 544 * batches_from s q)) ((count_is q).here l)) (le_or_lt (bit_count s) (batches_from s q))

  -- b batches, one directly behind the other, and no further one are b
  pub batches_is : (t b : ℕ) → ((k : ℕ) → k < b → is_batch s (t + 544 * k) ≡ true) → is_batch s (t + 544 * b) ≡ false → batches_from s t ≡ b
  unfolding batches_from
  batches_is t b each end = least_only (λ k. not (is_batch s (t + 544 * k))) (bit_count s) b
      (record {
        within = ⊎_elim (λ (l : b ≤ 0). omega arith) (λ (l : 0 < b). omega (arith, batch_fits (t + 544 * (b - 1)) (each (b - 1) (omega arith)))) (le_or_lt b 0);
        before = λ k l. ap not (each k l);
        here = λ l. ap not end;
      })

  -- a stretch ends in the recording
  pub stretch_inside : (q : ℕ) → q ≤ bit_count s → stretch_end (stretch_at s q) ≤ bit_count s
  stretch_inside q h =
      let b = batches_from s q in
      ⊎_elim (λ (l : b ≤ 0). omega arith) (λ (l : 0 < b). omega (arith, batch_fits (q + 544 * (b - 1)) (batches_are q (b - 1) (omega arith)))) (le_or_lt b 0)

  -- where there is a batch one at least is counted
  pub batches_some : (q : ℕ) → is_batch s q ≡ true → 1 ≤ batches_from s q
  batches_some q e = ⊎_elim (λ (l : 1 ≤ batches_from s q). l)
      (λ (l : batches_from s q < 1). let z : q + 544 * batches_from s q ≡ q = omega arith in absurd (true_false e (rw z at (batches_end q)))) (le_or_lt 1 (batches_from s q))

  -- where there is none, none is
  pub batches_none : (q : ℕ) → is_batch s q ≡ false → batches_from s q ≡ 0
  batches_none q e =
      let z : q + 544 * 0 ≡ q = omega arith in
      batches_is q 0 (λ k l. absurd (omega arith)) (rw z e)

  -- where one is counted there is a batch
  batches_first_lem : (q : ℕ) → 1 ≤ batches_from s q → is_batch s q ≡ true
  batches_first_lem q l = let z : q + 544 * 0 ≡ q = omega arith in rw z at (batches_are q 0 (omega arith))

  -- ---- the stretches

  -- the one that the hunt from position p on finds
  abbrev next : ℕ → Stretch
  next p = stretch_at s (hunt_from s p)

  some : (n p : ℕ) → is_batch s (hunt_from s p) ≡ true → stretches_in s (suc n) p ≡ next p ∷ stretches_in s n (stretch_end (next p))
  unfolding stretches_in
  some n p e = rw e

  none : (n p : ℕ) → is_batch s (hunt_from s p) ≡ false → stretches_in s n p ≡ []
  unfolding stretches_in
  none zero p e = refl
  none (suc n) p e = rw e

  late : (p : ℕ) → bit_count s ≤ p → is_batch s (hunt_from s p) ≡ false
  late p l = batch_late (hunt_from s p) (omega (arith, hunt_on p))

  further : (p : ℕ) → is_batch s (hunt_from s p) ≡ true → p < stretch_end (next p)
  further p e = omega (arith, hunt_on p, batches_some (hunt_from s p) e)

  -- as many hunts as bits are left find all
  enough : (n m p : ℕ) → bit_count s ≤ n + p → bit_count s ≤ m + p → stretches_in s n p ≡ stretches_in s m p
  unfolding stretches_in
  enough zero m p h g = sym (none m p (late p (omega arith)))
  enough (suc n) zero p h g = none (suc n) p (late p (omega arith))
  enough (suc n) (suc m) p h g =
      ⊎_elim
      (λ (e : is_batch s (hunt_from s p) ≡ true).
      let l = further p e in
      some n p e ∙ ap (λ (rs : List Stretch). next p ∷ rs) (enough n m (stretch_end (next p)) (omega arith) (omega arith)) ∙ sym (some m p e))
      (λ (e : is_batch s (hunt_from s p) ≡ false). none (suc n) p e ∙ sym (none (suc m) p e))
      (either (is_batch s (hunt_from s p)))

  -- where the hunt finds no batch there is no stretch
  pub stretches_none : (p : ℕ) → batches_from s (hunt_from s p) ≡ 0 → stretches_from s p ≡ []
  stretches_none p e = let z : stretch_end (next p) ≡ hunt_from s p = omega arith in none (bit_count s - p) p (rw z at (batches_end (hunt_from s p)))

  -- where it finds one: the stretch there, and those that the hunt from its end finds
  pub stretches_next : (p : ℕ) → 1 ≤ batches_from s (hunt_from s p)
      → stretches_from s p ≡ stretch_at s (hunt_from s p) ∷ stretches_from s (stretch_end (stretch_at s (hunt_from s p)))
  stretches_next p l =
      let e = batches_first_lem (hunt_from s p) l in
      let n = bit_count s - (p + 1) in
      let left : bit_count s - p ≡ suc n = omega (arith, hunt_on p, batch_fits (hunt_from s p) e) in
      ap (λ (m : ℕ). stretches_in s m p) left
      ∙ some n p e
      ∙ ap (λ (rs : List Stretch). next p ∷ rs) (enough n (bit_count s - stretch_end (next p)) (stretch_end (next p)) (omega (arith, further p e)) (omega arith))

  -- the stretches of the whole recording are those from position 0 on
  pub stretches_all : stretches_of s ≡ stretches_from s 0
  stretches_all = let e : bit_count s ≡ bit_count s - 0 = omega arith in ap (λ (n : ℕ). stretches_in s n 0) e
