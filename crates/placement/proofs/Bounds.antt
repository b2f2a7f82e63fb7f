-- The two bounds of demand 3, by one invariant of the state (`Good`). Assumes nothing.
use mathlib.Core.Path.{◌≡◌, refl, sym, ap, ◌∙◌}
use mathlib.Core.Logic.{⊎_elim}
use mathlib.Core.Bool.{Bool, true, false}
use mathlib.Core.List.{List}
use Prim.Native.Nat.{ℕ, zero, suc, ◌+◌, ◌*◌, ◌-◌, ◌%◌, ◌≤◌, ◌<◌, zero-le}
use native.Mathlib.Omega.{arith}
use lib.ListN.{length, get_or, set, replicate, length-set, length-replicate, get_or-replicate}
use lib.Seq.{get_or-set_same, get_or-set_other}
use Rattle.base.specs.Search.{sum}
use Rattle.base.proofs.Bools.{true_false}
use Rattle.base.proofs.SearchLaws.{le_or_lt, sum_at, sum_le, sum_cong, sum_ones, sum_zeros}
use Rattle.placement.specs.Placement.{fresh, Job, Framed, messages, slot_bound, State, Content, frame_of, state_at}
use Rattle.placement.proofs.Turn.{Turn, runs, starts, rests, turn, ready_true, ready_false}

-- in any 15 slots in a row each frame has one at least
pub near : (t f : ℕ) → f < 8 → (u : ℕ) × (t ≤ u) × (u ≤ t + 14) × (frame_of u ≡ f)
near t f h =
    ⊎_elim
    (λ l. (t + (2 * f - t % 16), omega arith, omega arith, omega arith))
    (λ l. ⊎_elim
    (λ m. (t, omega arith, omega arith, omega arith))
    (λ m. (t + (16 + 2 * f - t % 16), omega arith, omega arith, omega arith))
    (le_or_lt (t % 16) (2 * f + 1)))
    (le_or_lt (t % 16) (2 * f))

-- what a page counts for: nothing while it is unsent
abbrev pub gone : ℕ → ℕ → ℕ
gone zero w = 0
gone (suc t) w = w

-- the sum of w over the pages that have been sent
unfoldable pub total : Job → (ℕ → ℕ) → List ℕ → ℕ
total job w sent = sum (λ i. gone (get_or sent i 0) (w i)) job.pages

module _ (job : Job) (w : ℕ → ℕ) (sent : List ℕ) (i : ℕ) (l : i < job.pages) (u : get_or sent i 0 ≡ 0) where
  -- a page that starts is counted from now on
  pub total_start : (s : ℕ) → length sent ≡ job.pages → total job w (set sent i (suc s)) ≡ total job w sent + w i
  unfolding total
  total_start s len =
      let m : i < length sent = omega arith in
      let old : gone (get_or sent i 0) (w i) ≡ 0 = rw u in
      let new : gone (get_or (set sent i (suc s)) i 0) (w i) ≡ w i = rw (get_or-set_same sent i (suc s) 0 m) in
      omega (
        arith,
        sum_at (λ k. gone (get_or sent k 0) (w k)) (λ k. gone (get_or (set sent i (suc s)) k 0) (w k)) job.pages i l
            (λ k _ ne. rw (get_or-set_other sent i k (suc s) 0 ne)),
      )

gone_le : (x w : ℕ) → gone x w ≤ w
gone_le zero w = zero-le
gone_le (suc t) w = omega arith

pub total_le : (job : Job) (w : ℕ → ℕ) (sent : List ℕ) → total job w sent ≤ sum w job.pages
unfolding total
total_le job w sent = sum_le _ _ job.pages (λ k _. gone_le (get_or sent k 0) (w k))

-- a page that is unsent is not in the sum
pub total_without : (job : Job) (w : ℕ → ℕ) (sent : List ℕ) (i : ℕ) → i < job.pages → get_or sent i 0 ≡ 0 → length sent ≡ job.pages
    → total job w sent + w i ≤ sum w job.pages
total_without job w sent i l u len = rw (← total_start job w sent i l u 0 len) (total_le job w (set sent i 1))

-- the pages sent, and their message codewords
abbrev pub count : Job → State → ℕ
count job st = total job (λ _. 1) st.sent

abbrev pub carried : Job → State → ℕ
carried job st = total job job.words st.sent

-- at first none is sent; and where none is unsent, all are
pub none_sent : (job : Job) → count job (fresh job) ≡ 0
unfolding total
none_sent job = sum_cong _ (λ _. 0) job.pages none ∙ sum_zeros job.pages
  where
    none : (k : ℕ) → k < job.pages → gone (get_or (replicate job.pages 0) k 0) 1 ≡ 0
    none k l = rw (get_or-replicate {A = ℕ} job.pages k 0 0 l)

pub all_sent : (job : Job) (st : State) → ((i : ℕ) → i < job.pages → get_or st.sent i 0 ≡ 0 → ⊥) → count job st ≡ job.pages
unfolding total
all_sent job st h = sum_cong _ _ job.pages (λ k l. go (get_or st.sent k 0) (h k l)) ∙ sum_ones job.pages
  where
    go : (x : ℕ) → (x ≡ 0 → ⊥) → gone x 1 ≡ 1
    go zero f = absurd (f refl)
    go (suc x) f = refl

-- the slot by which the next page starts
abbrev pub next_by : Job → State → ℕ
next_by job st = 16 * (count job st + 1) - 2 + carried job st

-- how many slots a page with w message codewords is held back beyond the l codewords that are left of a message: one, the pause, while
-- the message runs and directly behind it; none for a tone
abbrev hold : ℕ → ℕ → Bool → ℕ
hold zero l pause = 0
hold (suc w) (suc l) pause = 1
hold (suc w) zero true = 1
hold (suc w) zero false = 0

hold_le : (w l : ℕ) (pause : Bool) → hold w l pause ≤ 1
hold_le zero l pause = zero-le
hold_le (suc w) (suc l) pause = omega arith
hold_le (suc w) zero true = omega arith
hold_le (suc w) zero false = zero-le

-- a message codeword that goes out holds no page back longer
hold_ran : (w l left : ℕ) (pause : Bool) → hold w left true ≤ hold w (suc l) pause
hold_ran zero l left pause = zero-le
hold_ran (suc w) l zero pause = omega arith
hold_ran (suc w) l (suc left) pause = omega arith

-- with no message before it a page is not held back; and one that is not held back in a pause is a tone
hold_none : (w : ℕ) → hold w 0 false ≡ 0
hold_none zero = refl
hold_none (suc w) = refl

hold_free : (w : ℕ) (pause : Bool) → hold w 0 pause ≡ 0 → pause ≡ true → w ≡ 0
hold_free zero pause h q = refl
hold_free (suc w) true h q = absurd (omega arith)
hold_free (suc w) false h q = absurd (true_false q refl)

-- Before slot s: no unsent page has to wait for a slot of its frame beyond the bound, and a running message ends before it.
pub record Good (job : Job) (s : ℕ) (st : State) : Type 0 where
  pub marks : length st.sent ≡ job.pages
  pub waits : (i : ℕ) → i < job.pages → get_or st.sent i 0 ≡ 0
      → (t : ℕ) × (s + st.left + hold (job.words i) st.left st.pause ≤ t) × (t ≤ next_by job st) × (frame_of t ≡ job.frame i)
  pub ends : 0 < st.left → s + st.left < 16 * count job st + carried job st

module _ (job : Job) (framed : Framed job) where
  good_start : Good job 0 (state_at job 0)
  unfolding state_at
  good_start =
      record {
        marks = length-replicate job.pages 0;
        waits = λ i l u. let n = near 0 (job.frame i) (framed i l) in (n.0, omega (arith, hold_none (job.words i)), omega arith, n.3);
        ends = λ h. omega arith;
      }

  good_next : (s : ℕ) (st st' : State) (c : Content) → Turn job s st c st' → Good job s st → Good job (suc s) st'
  good_next s st st' c (runs l e) g =
      record {
        marks = g.marks;
        waits = λ i h u.
            let n = g.waits i h u in
            let less : hold (job.words i) (st.left - 1) true ≤ hold (job.words i) st.left st.pause = rw e (hold_ran (job.words i) l _ st.pause) in
            (n.0, omega arith, n.2, n.3);
        ends = λ h. let b = g.ends (omega arith) in omega arith;
      }
  good_next s st st' c (starts i z l r _) g =
      let ri = ready_true job s st i r in
      let at = g.waits i l ri.0 in
      let a : s ≤ next_by job st = omega arith in
      let c1 = total_start job (λ _. 1) st.sent i l ri.0 s g.marks in
      let c2 = total_start job job.words st.sent i l ri.0 s g.marks in
      record {
        marks = length-set st.sent i (suc s) ∙ g.marks;
        waits = λ k h u.
            let n = near (suc s + job.words i + 1) (job.frame k) (framed k h) in
            (n.0, omega (arith, hold_le (job.words k) (job.words i) false), omega arith, n.3);
        ends = λ h. omega arith;
      }
  good_next s st st' c (rests z none) g =
      record {
        marks = g.marks;
        waits = λ i h u.
            let n = g.waits i h u in
            let now : hold (job.words i) st.left false ≡ 0 = rw z (hold_none (job.words i)) in
            let free : s ≡ n.0 → hold (job.words i) st.left st.pause ≡ 0 = λ e. omega arith in
            let off : s ≡ n.0 → ⊥ = λ e. ready_false job s st i (none i h)
            (u, sym n.3 ∙ ap frame_of (sym e), hold_free (job.words i) st.pause (rw z at (free e))) in
            (n.0, omega arith, n.2, n.3);
        ends = λ h. omega arith;
      }

  pub good : (s : ℕ) → Good job s (state_at job s)
  unfolding state_at
  good zero = good_start
  good (suc s) = good_next s (state_at job s) _ _ (turn job s (state_at job s)) (good s)

  -- from `slot_bound` on, no message is running and no page is unsent
  pub no_message : (s : ℕ) → slot_bound job ≤ s → (state_at job s).left ≡ 0
  no_message s h = go (state_at job s).left refl
    where
      c1 : count job (state_at job s) ≤ sum (λ _. 1) job.pages
      c1 = total_le job (λ _. 1) (state_at job s).sent

      c2 : carried job (state_at job s) ≤ messages job
      c2 = total_le job job.words (state_at job s).sent

      go : (l : ℕ) → (state_at job s).left ≡ l → (state_at job s).left ≡ 0
      go zero e = e
      go (suc l) e = absurd (omega (arith, c1, c2, sum_ones job.pages, (good s).ends (omega arith)))

  pub none_unsent : (s i : ℕ) → slot_bound job ≤ s → i < job.pages → get_or (state_at job s).sent i 0 ≡ 0 → ⊥
  none_unsent s i h l u =
      let g = good s in
      let n = g.waits i l u in
      let c1 = total_without job (λ _. 1) (state_at job s).sent i l u g.marks in
      let c2 = total_without job job.words (state_at job s).sent i l u g.marks in
      omega (arith, sum_ones job.pages)
