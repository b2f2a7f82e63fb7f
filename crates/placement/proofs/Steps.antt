-- What a turn of the code does to the marks, the message codewords left and the count of sent pages, in terms of the placement.
-- Assumes nothing.
use mathlib.Core.Path.{◌≡◌, refl, sym, ap, ◌∙◌}
use mathlib.Core.Bool.{Bool, true, false, not, ◌&&◌}
use mathlib.Core.Logic.{⊎_elim}
use mathlib.Core.List.{List}
use Prim.Native.Nat.{ℕ, suc, ◌+◌, ◌*◌, ◌-◌, ◌/◌, ◌%◌, ◌≤◌, ◌<◌}
use native.Mathlib.Nat.{eq-or-lt_of_le}
use native.Mathlib.Numerals.{add-one}
use native.Mathlib.Omega.{arith}
use lib.ListN.{length, get_or, set}
use lib.Dec.{eqb}
use borrow.Author.Tests.{eqb-true, eq-eqb}
use Rattle.base.specs.Search.{least}
use Rattle.base.proofs.Bools.{true_false, and_true, and_both}
use Rattle.base.proofs.SearchLaws.{least_only, sum_ones, le_or_lt}
use Rattle.placement.specs.Placement.{Job, Framed, State, Content, idle, address, message, is_message, fresh, rested, started, ran, may_start, ready, out, next, state_at, content_at, all_out, ends_with, batches}
use Rattle.placement.proofs.Turn.{Turn, runs, starts, rests, turn, ready_true}
use Rattle.placement.proofs.Contents.{pause_is}
use Rattle.placement.proofs.Bounds.{none_sent, all_sent, good, total_le, total_start, total_without, count}
use Rattle.placement.proofs.Placed.{all_out_lem, out_all, ended, some_batch, batches_is}

-- no page below i may start in slot s
abbrev pub Passed : Job → ℕ → State → ℕ → Type 0
Passed job s st i = (k : ℕ) → k < i → ready job s st k ≡ false

-- One slot, from any state, by what the code has compared.
module _ (job : Job) (s : ℕ) (st : State) where
  pub slot_runs : 0 < st.left
      → (out job s st ≡ message st.page (job.words st.page - st.left)) × (next job s st ≡ ran st)
  slot_runs h = go _ _ (turn job s st)
    where
      go : (c : Content) (st' : State) → Turn job s st c st'
          → (c ≡ message st.page (job.words st.page - st.left)) × (st' ≡ ran st)
      go c st' (runs l z) = (rw z, refl)
      go c st' (starts k z b r _) = absurd (omega arith)
      go c st' (rests z none) = absurd (omega arith)

  pub slot_starts : (i : ℕ) → st.left ≡ 0 → i < job.pages → ready job s st i ≡ true → Passed job s st i
      → (out job s st ≡ address i) × (next job s st ≡ started job s st i)
  slot_starts i z l m p = go _ _ (turn job s st)
    where
      is_first : (k : ℕ) → k < job.pages → ready job s st k ≡ true → Passed job s st k → least (ready job s st) job.pages ≡ k
      is_first k b r q = least_only _ _ k (record { within = omega arith; before = q; here = λ _. r })

      go : (c : Content) (st' : State) → Turn job s st c st' → (c ≡ address i) × (st' ≡ started job s st i)
      go c st' (runs k e) = absurd (omega arith)
      go c st' (starts k e b r q) = let same : k ≡ i = omega (arith, is_first i l m p, is_first k b r q) in (rw same, rw same)
      go c st' (rests e none) = absurd (true_false m (none i l))

  pub slot_rests : st.left ≡ 0 → Passed job s st job.pages → (out job s st ≡ idle) × (next job s st ≡ rested st)
  slot_rests z p = go _ _ (turn job s st)
    where
      go : (c : Content) (st' : State) → Turn job s st c st' → (c ≡ idle) × (st' ≡ rested st)
      go c st' (runs l e) = absurd (omega arith)
      go c st' (starts k e b r _) = absurd (true_false r (p k b))
      go c st' (rests e none) = (refl, refl)

-- What the code has before slot s: the placement's marks, its message codewords left, whether the slot before held one, and how many
-- pages are sent.
pub record At (job : Job) (s : ℕ) (marks : List ℕ) (left sent : ℕ) (pause : Bool) : Type 0 where
  pub marked : marks ≡ (state_at job s).sent
  pub leaves : left ≡ (state_at job s).left
  pub counted : sent ≡ count job (state_at job s)
  pub pauses : pause ≡ (state_at job s).pause

pub at_start : (job : Job) → At job 0 (fresh job).sent 0 0 false
unfolding state_at
at_start job = record { marked = refl; leaves = refl; counted = sym (none_sent job); pauses = refl }

module _ (job : Job) (framed : Framed job) (s : ℕ) (marks : List ℕ) (left sent : ℕ) (pause : Bool) (a : At job s marks left sent pause) where
  pub marks_length : length marks ≡ job.pages
  marks_length = rw a.marked (good job framed s).marks

  pub sent_few : sent ≤ job.pages
  sent_few = omega (arith, a.counted, total_le job (λ _. 1) (state_at job s).sent, sum_ones job.pages)

  -- the code's question about page i
  pub asked : (i : ℕ) → may_start (get_or marks i 0) (job.frame i) (job.words i) pause s ≡ ready job s (state_at job s) i
  unfolding ready
  asked i = rw (a.marked, a.pauses)

  -- the state after slot s made into what the code has
  make : (st : State) (sent' : ℕ) → next job s (state_at job s) ≡ st → sent' ≡ count job st → At job (suc s) st.sent st.left sent' st.pause
  unfolding state_at
  make st sent' x g =
      record {
        marked = ap (λ (q : State). q.sent) (sym x);
        leaves = ap (λ (q : State). q.left) (sym x);
        counted = g ∙ ap (count job) (sym x);
        pauses = ap (λ (q : State). q.pause) (sym x);
      }

  pub at_runs : 0 < left → At job (s + 1) marks (left - 1) sent true
  at_runs h =
      rw (a.marked, a.leaves, add-one s)
      (make (ran (state_at job s)) sent (slot_runs job s (state_at job s) (rw a.leaves at h)).1 a.counted)

  pub at_starts : (i : ℕ) → left ≡ 0 → i < job.pages → ready job s (state_at job s) i ≡ true → Passed job s (state_at job s) i
      → At job (s + 1) (set marks i (s + 1)) (job.words i) (sent + 1) false
  at_starts i z l m p =
      rw (a.marked, add-one s)
      (make (started job s (state_at job s) i) (sent + 1) (slot_starts job s (state_at job s) i (sym a.leaves ∙ z) l m p).1
      (omega (
        arith,
        a.counted,
        total_start job (λ _. 1) (state_at job s).sent i l (ready_true job s (state_at job s) i m).0 s (good job framed s).marks,
      )))

  pub at_rests : left ≡ 0 → Passed job s (state_at job s) job.pages → At job (s + 1) marks left sent false
  at_rests z p =
      rw (a.marked, a.leaves, add-one s)
      (make (rested (state_at job s)) sent (slot_rests job s (state_at job s) (sym a.leaves ∙ z) p).1 a.counted)

-- the code's test after slot s
abbrev pub Ends : Job → ℕ → ℕ → ℕ → Bool → Bool
Ends job s left sent said = eqb ((s + 1) % 16) 0 && not said && eqb left 0 && eqb sent job.pages

-- the same as facts
record Over (job : Job) (s left sent : ℕ) (said : Bool) : Type 0 where
  whole : (s + 1) % 16 ≡ 0
  silent : not said ≡ true
  none : left ≡ 0
  full : sent ≡ job.pages

-- no batch that is over ends the transmission
abbrev pub Open : Job → ℕ → Type 0
Open job s = (b : ℕ) → 16 * b + 16 ≤ s → ends_with job b ≡ false

-- a slot that is reached lies inside the batches
pub open_slot : (job : Job) → Framed job → (s : ℕ) → Open job s → s < 16 * batches job
open_slot job framed s o =
    ⊎_elim
    (λ h. absurd (true_false (ended job framed) (o (batches job - 1) (omega (arith, some_batch job framed)))))
    (λ h. h)
    (le_or_lt (16 * batches job) s)

module _ (job : Job) (framed : Framed job) (s : ℕ) (marks : List ℕ) (left sent : ℕ) (said : Bool) (x : At job (s + 1) marks left sent said) (o : Open job s) where
  told : said ≡ is_message (content_at job s)
  told = x.pauses ∙ rw add-one (pause_is job s)

  over : Ends job s left sent said ≡ true → Over job s left sent said
  over e =
      let d = and_true (eqb ((s + 1) % 16) 0 && not said && eqb left 0) (eqb sent job.pages) e in
      let c = and_true (eqb ((s + 1) % 16) 0 && not said) (eqb left 0) d.0 in
      let b = and_true (eqb ((s + 1) % 16) 0) (not said) c.0 in
      record { whole = eqb-true _ _ b.0; silent = b.1; none = eqb-true _ _ c.1; full = eqb-true _ _ d.1 }

  -- batch b ends with slot s
  module _ (b : ℕ) (here : 16 * b + 16 ≡ s + 1) where
    ends_at : ends_with job b ≡ (all_out job (state_at job (s + 1)) && not (is_message (content_at job s)))
    unfolding ends_with
    ends_at = let e : 16 * b + 15 ≡ s = omega arith in rw (here, e)

    test_of : ends_with job b ≡ true → Ends job s left sent said ≡ true
    test_of e =
        let both = and_true (all_out job (state_at job (s + 1))) (not (is_message (content_at job s))) (sym ends_at ∙ e) in
        let all = out_all job (state_at job (s + 1)) both.0 in
        and_both
        (and_both (and_both (eq-eqb ((s + 1) % 16) 0 (omega arith)) (rw told both.1)) (eq-eqb _ _ (x.leaves ∙ all.0)))
        (eq-eqb _ _ (x.counted ∙ all_sent job (state_at job (s + 1)) all.1))

    of_test : Over job s left sent said → ends_with job b ≡ true
    of_test f =
        ends_at
        ∙ and_both
        (all_out_lem job (state_at job (s + 1)) (sym x.leaves ∙ f.none)
        (λ i l u. omega (
          arith,
          x.counted,
          f.full,
          sum_ones job.pages,
          total_without job (λ _. 1) (state_at job (s + 1)).sent i l u (good job framed (s + 1)).marks,
        )))
        (rw (← told) f.silent)

  -- what the code's answer to that test shows
  pub goes_on : {answer : Bool} → answer ≡ Ends job s left sent said → answer ≡ false → Open job (s + 1)
  goes_on d f b h = ⊎_elim (λ e. not_yet e (ends_with job b) refl) (λ l. o b (omega arith)) (eq-or-lt_of_le h)
    where
      not_yet : 16 * b + 16 ≡ s + 1 → (t : Bool) → ends_with job b ≡ t → ends_with job b ≡ false
      not_yet e true q = absurd (true_false (d ∙ test_of b e q) f)
      not_yet e false q = q

  pub all_over : {answer : Bool} → answer ≡ Ends job s left sent said → answer ≡ true → (batches job ≡ (s + 1) / 16) × (16 * ((s + 1) / 16) ≡ s + 1)
  all_over d e =
      let f = over (sym d ∙ e) in
      let b = (s + 1) / 16 - 1 in
      let here : 16 * b + 16 ≡ s + 1 = omega arith in
      (omega (arith, batches_is job framed b (of_test b here f) (λ k l. o k (omega arith))), omega arith)
