-- The order of the pages as the slots have it: every page once, by rising slots. Assumes nothing.
use mathlib.Core.Path.{◌≡◌, refl, sym, ◌∙◌}
use mathlib.Core.List.{List, [], ◌∷◌, ◌++◌}
use mathlib.Core.Logic.{◌⊎◌, ⊎_elim}
use Prim.Native.Nat.{ℕ, zero, suc, ◌+◌, ◌*◌, ◌<◌}
use native.Mathlib.Nat.{le_of_suc-le-suc, eq-or-lt_of_le, not-suc-le-zero}
use native.Mathlib.Omega.{arith}
use lib.ListN.{length, get_or, length-append, get_or-append}
use lib.Seq.{get_or-append_seam}
use Rattle.placement.specs.Placement.{Job, Framed, Content, idle, address, message, state_at, content_at, batches, slot_of}
use Rattle.placement.proofs.Bounds.{count, none_sent, all_sent}
use Rattle.placement.proofs.Contents.{began}
use Rattle.placement.proofs.Placed.{placed, done, sent, once, addresses, count_next}
use Rattle.guarantees.specs.Order.{with_address, order_to, order, InOrder, Ordered}

-- one entry more at the end
module _ (o : List ℕ) (p : ℕ) where
  snoc_length : length (o ++ (p ∷ [])) ≡ length o + 1
  snoc_length = length-append o (p ∷ [])

  snoc_old : (k : ℕ) → k < length o → get_or (o ++ (p ∷ [])) k 0 ≡ get_or o k 0
  snoc_old k h = get_or-append o (p ∷ []) 0 k h

  snoc_last : (k : ℕ) → k ≡ length o → get_or (o ++ (p ∷ [])) k 0 ≡ p
  snoc_last k e = rw e (get_or-append_seam o p [] 0)

  last_or_old : (k : ℕ) → k < length (o ++ (p ∷ [])) → (k ≡ length o) ⊎ (k < length o)
  last_or_old k l = eq-or-lt_of_le (let n = snoc_length in omega arith)

module _ (job : Job) (framed : Framed job) where
  -- ---- as many entries as pages

  counted : (o : List ℕ) (c : Content) → length (with_address o c) ≡ length o + addresses c
  counted o idle = omega arith
  counted o (address p) = snoc_length o p
  counted o (message p j) = omega arith

  order_count : (s : ℕ) → length (order_to job s) ≡ count job (state_at job s)
  unfolding order_to state_at
  order_count zero = sym (none_sent job)
  order_count (suc s) = omega (arith, counted (order_to job s) (content_at job s), order_count s, count_next job framed s)

  -- ---- every page, by rising slots

  -- the order of the slots before s
  record Upto (s : ℕ) (o : List ℕ) : Type 0 where
    every : (p : ℕ) → p < job.pages → slot_of job p < s → (k : ℕ) × (k < length o) × (get_or o k 0 ≡ p)
    only : (k : ℕ) → k < length o → (get_or o k 0 < job.pages) × (slot_of job (get_or o k 0) < s)
    rising : (k l : ℕ) → k < l → l < length o → slot_of job (get_or o k 0) < slot_of job (get_or o l 0)

  -- a slot without an address
  skips : (s : ℕ) (o : List ℕ) → ((p : ℕ) → content_at job s ≡ address p → ⊥) → Upto s o → Upto (suc s) o
  skips s o none u =
      record {
        every = λ p l h.
            ⊎_elim
            (λ e. absurd (none p (rw (← e) (sent job framed p l))))
            (λ m. u.every p l m)
            (eq-or-lt_of_le (le_of_suc-le-suc h));
        only = λ k l. let x = u.only k l in (x.0, omega arith);
        rising = u.rising;
      }

  -- a slot with the address of page q
  adds : (s q : ℕ) (o : List ℕ) → content_at job s ≡ address q → Upto s o → Upto (suc s) (o ++ (q ∷ []))
  adds s q o e u =
      let here : s ≡ slot_of job q = once job framed s q e in
      let n = snoc_length o q in
      record {
        every = λ p l h.
            ⊎_elim
            (λ x. let same : content_at job s ≡ address p = rw (← x) (sent job framed p l) in
            let qp : q ≡ p = cc in
            (length o, omega arith, snoc_last o q (length o) refl ∙ qp))
            (λ m. let x = u.every p l m in (x.0, omega arith, snoc_old o q x.0 x.1 ∙ x.2))
            (eq-or-lt_of_le (le_of_suc-le-suc h));
        only = λ k l.
            ⊎_elim
            (λ x. rw (snoc_last o q k x) ((began job s q e).page, omega arith))
            (λ m. let x = u.only k m in rw (snoc_old o q k m) (x.0, omega arith))
            (last_or_old o q k l);
        rising = λ k l h m.
            ⊎_elim
            (λ x. let old : k < length o = omega arith in
            let y : slot_of job (get_or o k 0) < s = (u.only k old).1 in
            let z : slot_of job (get_or o k 0) < slot_of job q = omega arith in
            rw (snoc_last o q l x, snoc_old o q k old) z)
            (λ g. let old : k < length o = omega arith in rw (snoc_old o q l g, snoc_old o q k old) (u.rising k l h g))
            (last_or_old o q l m);
      }

  upto_next : (s : ℕ) (o : List ℕ) (c : Content) → content_at job s ≡ c → Upto s o → Upto (suc s) (with_address o c)
  upto_next s o idle e u = skips s o (λ p q. let z : ◌≡◌ {A = ℕ} 0 1 = cc in omega arith) u
  upto_next s o (address p) e u = adds s p o e u
  upto_next s o (message p j) e u = skips s o (λ q x. let z : ◌≡◌ {A = ℕ} 0 1 = cc in omega arith) u

  upto : (s : ℕ) → Upto s (order_to job s)
  unfolding order_to
  upto zero =
      record {
        every = λ p l h. absurd (not-suc-le-zero h);
        only = λ k l. absurd (not-suc-le-zero l);
        rising = λ k l h m. absurd (not-suc-le-zero m);
      }
  upto (suc s) = upto_next s (order_to job s) (content_at job s) refl (upto s)

  all_in_order : InOrder job (order job)
  unfolding order
  all_in_order =
      let u = upto (16 * batches job) in
      record {
        every = λ p l. u.every p l (omega (arith, (placed job framed).inside p l));
        only = λ k l. (u.only k l).0;
        once = order_count (16 * batches job) ∙ all_sent job (state_at job (16 * batches job)) (done job framed).1;
        rising = u.rising;
      }

pub in_order : Ordered
in_order job framed = all_in_order job framed
