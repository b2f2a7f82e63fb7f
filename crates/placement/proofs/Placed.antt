-- Demand 3 over the placement: `placed` proves the record `Placed` of specs/Promise.antt. Assumes nothing.
use mathlib.Core.Path.{◌≡◌, refl, sym, ap, ◌∙◌}
use mathlib.Core.Bool.{true, false, not, cond}
use mathlib.Core.Logic.{⊎_elim}
use mathlib.Core.List.{List, map, append-nil}
use Prim.Native.Nat.{ℕ, zero, suc, pred, ◌+◌, ◌*◌, ◌-◌, ◌/◌, ◌≤◌, ◌<◌}
use native.Mathlib.Nat.{le_of_suc-le-suc, eq-or-lt_of_le}
use native.Mathlib.Numerals.{add-one}
use native.Mathlib.Omega.{arith}
use native.Mathlib.Decide.{le_ind}
use lib.ListN.{length, get_or}
use lib.Dec.{ltb, eqb}
use borrow.Author.Tests.{eqb-true, eq-eqb, ne_eqb, lt-ltb, le-ltb}
use Rattle.base.specs.Search.{least, sum}
use Rattle.base.proofs.ListLaws.{tab-length, tab-at, tab_list}
use Rattle.base.proofs.Bools.{true_false, and_true, and_both}
use Rattle.base.proofs.SearchLaws.{Least, least_is, least_only, sum_cong, le_or_lt}
use Rattle.placement.specs.Placement.{Job, job_of, Framed, slot_bound, State, Content, idle, address, message, is_message, state_at, content_at, all_out, ends_with, batches, slot_of, slots}
use Rattle.placement.specs.Promise.{earlier, Holds, nothing, its_address, its_message, Placed, Limits}
use Rattle.placement.proofs.Sendable.{Sendable}
use Rattle.placement.proofs.Turn.{Turn, runs, starts, rests, ready_true}
use Rattle.placement.proofs.Bounds.{none_sent, all_sent, total_start, good, gone, total, count, no_message, none_unsent}
use Rattle.placement.proofs.Contents.{slot, pause_is, began, marks, keeps_on, comes, running, follows, Runs, runs_at}

-- all is out: as a test and as facts
pub all_out_lem : (job : Job) (st : State) → st.left ≡ 0 → ((i : ℕ) → i < job.pages → get_or st.sent i 0 ≡ 0 → ⊥) → all_out job st ≡ true
unfolding all_out
all_out_lem job st z h =
    and_both
    (eq-eqb _ _ (least_only _ job.pages job.pages
    (record { within = omega arith; before = λ k l. ne_eqb _ 0 (h k l); here = λ l. absurd (omega arith) })))
    (eq-eqb _ _ z)

pub out_all : (job : Job) (st : State) → all_out job st ≡ true → (st.left ≡ 0) × ((i : ℕ) → i < job.pages → get_or st.sent i 0 ≡ 0 → ⊥)
unfolding all_out
out_all job st e =
    let both = and_true _ _ e in
    let r = least_is (λ i. eqb (get_or st.sent i 0) 0) job.pages in
    let full : least (λ i. eqb (get_or st.sent i 0) 0) job.pages ≡ job.pages = eqb-true _ _ both.0 in
    (eqb-true _ _ both.1, λ i l u. true_false (eq-eqb _ _ u) (r.before i (omega arith)))

-- where no message is left, the slot holds no message codeword
no_message_in : {job : Job} {s : ℕ} {st st' : State} {c : Content} → st.left ≡ 0 → Turn job s st c st' → not (is_message c) ≡ true
no_message_in e (runs l z) = absurd (omega arith)
no_message_in e (starts k z b r _) = refl
no_message_in e (rests z none) = refl

-- how many addresses stand in a slot with these contents
abbrev pub addresses : Content → ℕ
addresses idle = 0
addresses (address i) = 1
addresses (message i j) = 0

-- the reported slots: how many, and each
pub slots_length : (job : Job) → length (slots job) ≡ job.pages
unfolding slots
slots_length job = tab-length (slot_of job) job.pages

pub slots_at : (job : Job) (i : ℕ) → i < job.pages → get_or (slots job) i 0 ≡ slot_of job i
unfolding slots
slots_at job i l = tab-at (slot_of job) job.pages i 0 l

module _ (job : Job) (framed : Framed job) where
  -- the bound of demand 3 is enough
  pub enough : ends_with job (slot_bound job / 16) ≡ true
  unfolding ends_with
  enough =
      let b = slot_bound job / 16 in
      and_both
      (all_out_lem job (state_at job (16 * b + 16)) (no_message job framed (16 * b + 16) (omega arith)) (λ i. none_unsent job framed (16 * b + 16) i (omega arith)))
      (no_message_in (no_message job framed (16 * b + 15) (omega arith)) (slot job (16 * b + 15)))

  last : Least (ends_with job) (slot_bound job / 16) (batches job - 1)
  unfolding batches
  last =
      let e : batches job - 1 ≡ least (ends_with job) (slot_bound job / 16) = omega arith in
      rw e (least_is (ends_with job) (slot_bound job / 16))

  pub some_batch : 0 < batches job
  unfolding batches
  some_batch = omega arith

  pub ended : ends_with job (batches job - 1) ≡ true
  ended = ⊎_elim (λ e. rw e enough) last.here (eq-or-lt_of_le last.within)

  -- the first batch that ends the transmission tells their number
  pub batches_is : (b : ℕ) → ends_with job b ≡ true → ((k : ℕ) → k < b → ends_with job k ≡ false) → batches job ≡ suc b
  unfolding batches
  batches_is b e h =
      ap suc
      (least_only (ends_with job) (slot_bound job / 16) b
      (record {
        within = ⊎_elim (λ l. l) (λ l. absurd (true_false enough (h _ l))) (le_or_lt b (slot_bound job / 16));
        before = h;
        here = λ _. e;
      }))

  -- after the last batch all is out
  pub done : ((state_at job (16 * batches job)).left ≡ 0) × ((i : ℕ) → i < job.pages → get_or (state_at job (16 * batches job)).sent i 0 ≡ 0 → ⊥)
  unfolding ends_with
  done =
      let e : 16 * (batches job - 1) + 16 ≡ 16 * batches job = omega (arith, some_batch) in
      rw e at (out_all job _ (and_true _ _ ended).0)

  slot_is : (i : ℕ) → slot_of job i ≡ pred (get_or (state_at job (16 * batches job)).sent i 0)
  unfolding slot_of
  slot_is i = refl

  -- the mark of page i after the last batch
  pub marked : (i : ℕ) → i < job.pages → get_or (state_at job (16 * batches job)).sent i 0 ≡ suc (slot_of job i)
  marked i l = let ne = done.1 i l in omega (arith, slot_is i)

  pub sent : (i : ℕ) → i < job.pages → content_at job (slot_of job i) ≡ address i
  sent i l = (comes job framed (16 * batches job) i (slot_of job i) l (marked i l)).1

  -- an address stands nowhere but in the page's slot
  pub once : (s i : ℕ) → content_at job s ≡ address i → s ≡ slot_of job i
  once s i e = ⊎_elim inside outside (le_or_lt (suc s) (16 * batches job))
    where
      l : i < job.pages
      l = (began job s i e).page

      inside : suc s ≤ 16 * batches job → s ≡ slot_of job i
      inside h = omega (arith, keeps_on job framed (suc s) (16 * batches job) i s h (marks job framed s i e), marked i l)

      outside : 16 * batches job < suc s → s ≡ slot_of job i
      outside h =
          absurd (omega (arith, keeps_on job framed (16 * batches job) s i (slot_of job i) (le_of_suc-le-suc h) (marked i l), (began job s i e).fresh))

  pub only : (s : ℕ) → Holds job s (content_at job s)
  unfolding Runs
  only s = go _ _ (slot job s) refl (runs_at job framed s)
    where
      go : (c : Content) (st' : State) → Turn job s (state_at job s) c st' → content_at job s ≡ c → Runs job s (state_at job s) → Holds job s c
      go c st' (runs l z) q r =
          let x = r (omega arith) in
          let page = (state_at job s).page in
          let t : x.0 ≡ slot_of job page = once x.0 page (comes job framed s page x.0 x.1 x.2).1 in
          its_message page (job.words page - suc l) x.1 (omega arith) (omega arith)
      go c st' (starts k z b r _) q _ = its_address k b (once s k q)
      go c st' (rests z none) q _ = nothing

  -- where the codewords of all pages stand before slot s, all is out there
  pub out_before : (s : ℕ) → ((i : ℕ) → i < job.pages → slot_of job i + job.words i < s) → all_out job (state_at job s) ≡ true
  unfolding Runs
  out_before s h = all_out_lem job (state_at job s) (go (state_at job s).left refl) unsent
    where
      go : (l : ℕ) → (state_at job s).left ≡ l → (state_at job s).left ≡ 0
      go zero e = e
      go (suc l) e =
          let x = runs_at job framed s (omega arith) in
          let page = (state_at job s).page in
          let t : x.0 ≡ slot_of job page = once x.0 page (comes job framed s page x.0 x.1 x.2).1 in
          absurd (omega (arith, h page x.1))

      unsent : (i : ℕ) → i < job.pages → get_or (state_at job s).sent i 0 ≡ 0 → ⊥
      unsent i l u =
          omega (
            arith,
            u,
            keeps_on job framed (suc (slot_of job i)) s i (slot_of job i) (omega (arith, h i l)) (marks job framed (slot_of job i) i (sent i l)),
          )

  -- the pages marked before a slot are those whose slot is earlier
  marked_before : (w : ℕ → ℕ) (s : ℕ) → total job w (state_at job s).sent ≡ sum (λ j. cond (ltb (slot_of job j) s) (w j) 0) job.pages
  unfolding total
  marked_before w s = sum_cong _ _ job.pages (λ j l. go j l (get_or (state_at job s).sent j 0) refl)
    where
      go : (j : ℕ) → j < job.pages → (x : ℕ) → get_or (state_at job s).sent j 0 ≡ x → gone x (w j) ≡ cond (ltb (slot_of job j) s) (w j) 0
      go j l zero e =
          ⊎_elim
          (λ h. rw (le-ltb (slot_of job j) s h))
          (λ h. absurd (omega (arith, e, keeps_on job framed (suc (slot_of job j)) s j (slot_of job j) h (marks job framed (slot_of job j) j (sent j l)))))
          (le_or_lt s (slot_of job j))
      go j l (suc t) e =
          let c = comes job framed s j t l e in
          let q : t ≡ slot_of job j = once t j c.1 in
          let h : slot_of job j < s = omega arith in
          rw (lt-ltb (slot_of job j) s h)

  -- a slot with an address sends one page more
  pub count_next : (s : ℕ) → count job (state_at job (suc s)) ≡ count job (state_at job s) + addresses (content_at job s)
  count_next s = go _ _ (slot job s)
    where
      go : (c : Content) (st' : State) → Turn job s (state_at job s) c st' → count job st' ≡ count job (state_at job s) + addresses c
      go c st' (runs l z) = omega arith
      go c st' (starts i z l r _) =
          total_start job (λ _. 1) (state_at job s).sent i l (ready_true job s (state_at job s) i r).0 s (good job framed s).marks
      go c st' (rests z none) = omega arith

  -- how many pages go out before page i
  abbrev rank_of : ℕ → ℕ
  rank_of i = earlier (slot_of job) job.pages (λ _. 1) i

  -- the page that starts in slot s is that of its rank
  pub rank : (s i : ℕ) → content_at job s ≡ address i → rank_of i ≡ count job (state_at job s)
  unfolding earlier
  rank s i e = rw (← once s i e) (sym (marked_before (λ _. 1) s))

  -- a page of each rank below the count has been sent
  ranked : (s k : ℕ) → k < count job (state_at job s) → (i : ℕ) × (i < job.pages) × (rank_of i ≡ k)
  unfolding state_at
  ranked zero k h = absurd (omega (arith, none_sent job))
  ranked (suc s) k h = go (content_at job s) refl (count_next s) (ranked s k)
    where
      go : (c : Content) → content_at job s ≡ c → count job (state_at job (suc s)) ≡ count job (state_at job s) + addresses c
          → (k < count job (state_at job s) → (i : ℕ) × (i < job.pages) × (rank_of i ≡ k)) → (i : ℕ) × (i < job.pages) × (rank_of i ≡ k)
      go idle e n ih = ih (omega arith)
      go (message i j) e n ih = ih (omega arith)
      go (address i) e n ih =
          ⊎_elim ih (λ l. (i, (began job s i e).page, omega (arith, rank s i e))) (le_or_lt (suc k) (count job (state_at job s)))

  rises : (s u : ℕ) → s ≤ u → count job (state_at job s) ≤ count job (state_at job u)
  rises s u h =
      le_ind {n = s} (λ (v : ℕ). count job (state_at job s) ≤ count job (state_at job v)) (omega arith) (λ v _ q. omega (arith, count_next v)) u h

  counts : (s i : ℕ) → content_at job s ≡ address i → count job (state_at job (suc s)) ≡ count job (state_at job s) + 1
  counts s i e = count_next s ∙ ap (λ (c : Content). count job (state_at job s) + addresses c) e

  -- a page that goes out later has a higher rank
  later : (i j : ℕ) → i < job.pages → j < job.pages → slot_of job i < slot_of job j → rank_of i < rank_of j
  later i j li lj h =
      omega (
        arith,
        rank _ i (sent i li),
        rank _ j (sent j lj),
        rises (suc (slot_of job i)) (slot_of job j) h,
        counts (slot_of job i) i (sent i li),
      )

  same_slot : (i j : ℕ) → i < job.pages → j < job.pages → slot_of job i ≡ slot_of job j → i ≡ j
  same_slot i j li lj e =
      let p : content_at job (slot_of job i) ≡ address j = rw e (sent j lj) in
      let q = sent i li in
      cc

  pub behind : (i j : ℕ) → i < job.pages → j < job.words i → content_at job (slot_of job i + 1 + j) ≡ message i j
  behind i j l h = rw add-one (follows job (slot_of job i) i (sent i l) j h)

  -- behind its last codeword no other message starts
  paused : (i j : ℕ) → i < job.pages → j < job.pages → 0 < job.words i → 0 < job.words j → slot_of job j ≡ slot_of job i + job.words i + 1 → ⊥
  paused i j li lj mi mj e =
      let t = slot_of job i + 1 + (job.words i - 1) in
      let here : slot_of job j ≡ suc t = omega arith in
      let pause : (state_at job (slot_of job j)).pause ≡ true = rw here (pause_is job t ∙ ap is_message (behind i (job.words i - 1) li (omega arith))) in
      omega (arith, (began job (slot_of job j) j (sent j lj)).in_pause pause)

  inside : (i : ℕ) → i < job.pages → slot_of job i + job.words i < 16 * batches job
  inside i l =
      let t : slot_of job i < 16 * batches job = (comes job framed (16 * batches job) i (slot_of job i) l (marked i l)).0 in
      let j = 16 * batches job - suc (slot_of job i) in
      let e : suc (slot_of job i) + j ≡ 16 * batches job = omega arith in
      ⊎_elim
      (λ h. omega (arith, rw e at (running job (slot_of job i) i (sent i l) j h).1, done.0))
      (λ h. omega arith)
      (le_or_lt j (job.words i))

  -- the reported slots from the marks after the last batch
  pub slots_marks : slots job ≡ map pred (state_at job (16 * batches job)).sent
  unfolding slots slot_of
  slots_marks =
      let marks = (state_at job (16 * batches job)).sent in
      let size : length marks ≡ job.pages = (good job framed (16 * batches job)).marks in
      let none : job.pages - length marks ≡ 0 = omega arith in
      tab_list pred 0 marks job.pages (omega arith) ∙ rw none (append-nil _)

  pub placed : Placed job
  unfolding earlier
  placed =
      record {
        kth = λ k i l e.
            let s = slot_of job i in
            let w = (good job framed s).waits i l (began job s i (sent i l)).fresh in
            omega (arith, marked_before (λ _. 1) s, marked_before job.words s);
        some = λ k h l.
            let n : count job (state_at job (16 * batches job)) ≡ job.pages = all_sent job (state_at job (16 * batches job)) done.1 in
            let x = ranked (16 * batches job) (k - 1) (omega arith) in
            (x.0, x.1, omega arith);
        one = λ k i j li lj e f.
            ⊎_elim
            (λ h. ⊎_elim (λ q. same_slot i j li lj q) (λ q. absurd (omega (arith, later i j li lj q))) (eq-or-lt_of_le h))
            (λ h. absurd (omega (arith, later j i lj li h)))
            (le_or_lt (slot_of job i) (slot_of job j));
        few = omega (arith, last.within);
        ended = ended;
        soonest = λ b h. last.before b (omega arith);
        sent = sent;
        framed = λ i l. (began job (slot_of job i) i (sent i l)).in_frame;
        inside = inside;
        behind = behind;
        paused = paused;
        only = only;
      }

-- a sendable job's batches and slots
pub limits : {frames words : List ℕ} → Sendable frames words → Limits frames words
limits {frames} {words} h =
    let most : batches (job_of frames words) ≤ 300 = omega (arith, (placed (job_of frames words) h.framed).few, h.few, h.short) in
    record { most = most; below = λ s l. omega arith }
