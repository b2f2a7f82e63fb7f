-- One slot of the placement as three cases: a message runs, a page starts, or the slot is idle. Every law of the
-- placement is proved by these cases, so a change of the rule is met in `turn` and in the laws that name a case. Assumes nothing.
use mathlib.Core.Path.{◌≡◌, refl}
use mathlib.Core.Bool.{Bool, true, false, not, cond, ◌||◌}
use Prim.Native.Nat.{ℕ, zero, suc, ◌-◌, ◌<◌}
use lib.ListN.{get_or}
use lib.Dec.{eqb, ltb}
use borrow.Author.Tests.{eqb-true, eq-eqb, ltb-true, ltb-false}
use native.Mathlib.Omega.{arith}
use Rattle.base.proofs.Bools.{true_false, and_true, and_both}
use Rattle.base.proofs.SearchLaws.{Least, least_is}
use Rattle.placement.specs.Placement.{Job, State, Content, idle, address, message, frame_of, may_start, ready, first, rested, started, ran, out, out_of, after, next}

-- page i may start in slot s: `ready` as facts
abbrev pub May : Job → ℕ → State → ℕ → Type 0
May job s st i = (get_or st.sent i 0 ≡ 0) × (job.frame i ≡ frame_of s) × (st.pause ≡ true → job.words i ≡ 0)

pub ready_true : (job : Job) (s : ℕ) (st : State) (i : ℕ) → ready job s st i ≡ true → May job s st i
unfolding ready may_start
ready_true job s st i e =
    let all = and_true _ _ e in
    let two = and_true _ _ all.0 in
    (eqb-true _ _ two.0, eqb-true _ _ two.1, tone st.pause all.1)
  where
    tone : (b : Bool) → not b || eqb (job.words i) 0 ≡ true → b ≡ true → job.words i ≡ 0
    tone true t _ = eqb-true _ _ t
    tone false t q = absurd (true_false q refl)

pub ready_is : (job : Job) (s : ℕ) (st : State) (i : ℕ) → May job s st i → ready job s st i ≡ true
unfolding ready may_start
ready_is job s st i m = and_both (and_both (eq-eqb _ _ m.0) (eq-eqb _ _ m.1)) (tone st.pause m.2)
  where
    tone : (b : Bool) → (b ≡ true → job.words i ≡ 0) → not b || eqb (job.words i) 0 ≡ true
    tone true h = eq-eqb _ _ (h refl)
    tone false h = refl

pub ready_false : (job : Job) (s : ℕ) (st : State) (i : ℕ) → ready job s st i ≡ false → May job s st i → ⊥
ready_false job s st i e m = true_false (ready_is job s st i m) e

-- what slot s holds in the state st, and the state after it
pub data Turn (job : Job) (s : ℕ) (st : State) : Content → State → Type 0 where
  runs : (l : ℕ) → st.left ≡ suc l
      → Turn job s st (message st.page (job.words st.page - suc l)) (ran st)
  starts : (i : ℕ) → st.left ≡ 0 → i < job.pages → ready job s st i ≡ true → ((k : ℕ) → k < i → ready job s st k ≡ false)
      → Turn job s st (address i) (started job s st i)
  rests : st.left ≡ 0 → ((k : ℕ) → k < job.pages → ready job s st k ≡ false) → Turn job s st idle (rested st)

pub turn : (job : Job) (s : ℕ) (st : State) → Turn job s st (out job s st) (next job s st)
unfolding next out out_of after first
turn job s st = go st.left refl
  where
    r : Least (ready job s st) job.pages (first job s st)
    r = least_is (ready job s st) job.pages

    choose : (b : Bool) → st.left ≡ 0 → ltb (first job s st) job.pages ≡ b
        → Turn job s st (cond b (address (first job s st)) idle) (after job s st (cond b (address (first job s st)) idle))
    choose true z e = starts (first job s st) z (ltb-true _ _ e) (r.here (ltb-true _ _ e)) r.before
    choose false z e = rests z (λ k l. r.before k (omega (arith, ltb-false (first job s st) job.pages e)))

    go : (l : ℕ) → st.left ≡ l → Turn job s st (out_of job s st l) (after job s st (out_of job s st l))
    go zero e = choose (ltb (first job s st) job.pages) e refl
    go (suc l) e = runs l e
