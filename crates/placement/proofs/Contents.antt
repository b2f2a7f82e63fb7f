-- What the slots hold: an address marks its page for good, a mark comes from an address, and a message follows its address. Assumes nothing.
use mathlib.Core.Path.{◌≡◌, refl, sym, ap, ◌∙◌}
use mathlib.Core.Bool.{true}
use Prim.Native.Nat.{ℕ, zero, suc, ◌+◌, ◌-◌, ◌≤◌, ◌<◌}
use native.Mathlib.Nat.{add-zero, add-suc}
use native.Mathlib.Omega.{arith}
use native.Mathlib.Decide.{ℕ_discrete, le_ind}
use lib.ListN.{length, get_or, get_or-replicate}
use lib.Seq.{get_or-set_same, get_or-set_other}
use Rattle.placement.specs.Placement.{started, Job, Framed, State, Content, address, message, is_message, frame_of, state_at, content_at}
use Rattle.placement.proofs.Turn.{Turn, runs, starts, rests, turn, ready_true}
use Rattle.placement.proofs.Bounds.{good}

-- slot s as a case, with what it holds and the state after it
pub slot : (job : Job) (s : ℕ) → Turn job s (state_at job s) (content_at job s) (state_at job (suc s))
unfolding state_at content_at
slot job s = turn job s (state_at job s)

-- the state's field `pause` says whether the slot before held a message codeword
pub pause_is : (job : Job) (s : ℕ) → (state_at job (suc s)).pause ≡ is_message (content_at job s)
pause_is job s = go _ _ (slot job s)
  where
    go : (c : Content) (st' : State) → Turn job s (state_at job s) c st' → st'.pause ≡ is_message c
    go c st' (runs l z) = refl
    go c st' (starts k z l r _) = refl
    go c st' (rests z none) = refl

-- page i started in slot s
pub record Began (job : Job) (s i : ℕ) : Type 0 where
  pub page : i < job.pages
  pub fresh : get_or (state_at job s).sent i 0 ≡ 0
  pub in_frame : frame_of s ≡ job.frame i
  pub in_pause : (state_at job s).pause ≡ true → job.words i ≡ 0
  pub next : state_at job (suc s) ≡ started job s (state_at job s) i

pub began : (job : Job) (s i : ℕ) → content_at job s ≡ address i → Began job s i
began job s i e = go _ _ (slot job s) e refl
  where
    go : (c : Content) (st' : State) → Turn job s (state_at job s) c st' → c ≡ address i → state_at job (suc s) ≡ st' → Began job s i
    go c st' (runs l z) q n = absurd (let x : ◌≡◌ {A = ℕ} 0 1 = cc in omega arith)
    go c st' (starts k z l r _) q n =
        let same : k ≡ i = cc in
        let rk = ready_true job s (state_at job s) k r in
        let b : Began job s k = record { page = l; fresh = rk.0; in_frame = sym rk.1; in_pause = rk.2; next = n } in
        rw same at b
    go c st' (rests z none) q n = absurd (let x : ◌≡◌ {A = ℕ} 0 1 = cc in omega arith)

module _ (job : Job) (framed : Framed job) where
  -- an address marks its page
  pub marks : (s i : ℕ) → content_at job s ≡ address i → get_or (state_at job (suc s)).sent i 0 ≡ suc s
  marks s i e =
      let b = began job s i e in
      let l : i < length (state_at job s).sent = omega (arith, (good job framed s).marks, b.page) in
      rw b.next (get_or-set_same (state_at job s).sent i (suc s) 0 l)

  -- a mark stays
  keeps : (s i t : ℕ) → get_or (state_at job s).sent i 0 ≡ suc t → get_or (state_at job (suc s)).sent i 0 ≡ suc t
  keeps s i t e = go _ _ (slot job s)
    where
      go : (c : Content) (st' : State) → Turn job s (state_at job s) c st' → get_or st'.sent i 0 ≡ suc t
      go c st' (runs l z) = e
      go c st' (starts k z l r _) =
          get_or-set_other (state_at job s).sent k i (suc s) 0
          (λ q. omega (arith, (ready_true job s (state_at job s) k r).0, e, ap (λ (x : ℕ). get_or (state_at job s).sent x 0) q))
          ∙ e
      go c st' (rests z none) = e

  pub keeps_on : (s u i t : ℕ) → s ≤ u → get_or (state_at job s).sent i 0 ≡ suc t → get_or (state_at job u).sent i 0 ≡ suc t
  keeps_on s u i t h e =
      le_ind {n = s} (λ (v : ℕ). get_or (state_at job v).sent i 0 ≡ suc t) e (λ v _ q. keeps v i t q) u h

  -- a mark comes from an address
  pub comes : (s i t : ℕ) → i < job.pages → get_or (state_at job s).sent i 0 ≡ suc t → (t < s) × (content_at job t ≡ address i)
  unfolding state_at
  comes zero i t l e = absurd (omega (arith, get_or-replicate {A = ℕ} job.pages i 0 0 l, e))
  comes (suc s) i t l e = go _ _ (slot job s) refl e (comes s i t l)
    where
      go : (c : Content) (st' : State) → Turn job s (state_at job s) c st' → content_at job s ≡ c → get_or st'.sent i 0 ≡ suc t
          → (get_or (state_at job s).sent i 0 ≡ suc t → (t < s) × (content_at job t ≡ address i)) → (t < suc s) × (content_at job t ≡ address i)
      go c st' (runs k z) q m ih = let h = ih m in (omega arith, h.1)
      go c st' (starts k z b r _) q m ih = elim (ℕ_discrete i k) [ yes p ↦ here p | no f ↦ there f ]
        where
          here : i ≡ k → (t < suc s) × (content_at job t ≡ address i)
          here p =
              let w : k < length (state_at job s).sent = omega (arith, (good job framed s).marks) in
              let g : suc t ≡ suc s = sym m ∙ (rw p (get_or-set_same (state_at job s).sent k (suc s) 0 w)) in
              let ts : t ≡ s = omega arith in
              (omega arith, rw (ts, p) q)

          there : (i ≡ k → ⊥) → (t < suc s) × (content_at job t ≡ address i)
          there f = let h = ih (sym (get_or-set_other (state_at job s).sent k i (suc s) 0 f) ∙ m) in (omega arith, h.1)
      go c st' (rests z none) q m ih = let h = ih m in (omega arith, h.1)

-- the message of a page that started in slot s
module _ (job : Job) (s i : ℕ) (e : content_at job s ≡ address i) where
  pub running : (j : ℕ) → j ≤ job.words i → ((state_at job (suc s + j)).page ≡ i) × ((state_at job (suc s + j)).left + j ≡ job.words i)
  running zero h = rw (add-zero, (began job s i e).next) (refl, add-zero _)
  running (suc j) h = rw add-suc (go _ _ (slot job (suc s + j)) (running j (omega arith)))
    where
      go : (c : Content) (st' : State) → Turn job (suc s + j) (state_at job (suc s + j)) c st'
          → ((state_at job (suc s + j)).page ≡ i) × ((state_at job (suc s + j)).left + j ≡ job.words i) → (st'.page ≡ i) × (st'.left + suc j ≡ job.words i)
      go c st' (runs l z) r = (r.0, omega arith)
      go c st' (starts k z b x _) r = absurd (omega arith)
      go c st' (rests z none) r = absurd (omega arith)

  pub follows : (j : ℕ) → j < job.words i → content_at job (suc s + j) ≡ message i j
  follows j h = go _ _ (slot job (suc s + j)) (running j (omega arith))
    where
      go : (c : Content) (st' : State) → Turn job (suc s + j) (state_at job (suc s + j)) c st'
          → ((state_at job (suc s + j)).page ≡ i) × ((state_at job (suc s + j)).left + j ≡ job.words i) → c ≡ message i j
      go c st' (runs l z) r =
          let w : job.words (state_at job (suc s + j)).page ≡ job.words i = ap job.words r.0 in
          let jj : job.words (state_at job (suc s + j)).page - suc l ≡ j = omega arith in
          rw (jj, r.0)
      go c st' (starts k z b x _) r = absurd (omega arith)
      go c st' (rests z none) r = absurd (omega arith)

-- before slot s, a running message is that of a page that was marked, and as far on as its slots say
unfoldable pub Runs : Job → ℕ → State → Type 0
Runs job s st =
    0 < st.left → (t : ℕ) × (st.page < job.pages) × (get_or st.sent st.page 0 ≡ suc t) × (suc t + job.words st.page ≡ s + st.left) × (st.left ≤ job.words st.page)

pub runs_at : (job : Job) → Framed job → (s : ℕ) → Runs job s (state_at job s)
unfolding Runs state_at
runs_at job framed zero h = absurd (omega arith)
runs_at job framed (suc s) h = go _ _ (slot job s) (runs_at job framed s) h
  where
    go : (c : Content) (st' : State) → Turn job s (state_at job s) c st' → Runs job s (state_at job s) → Runs job (suc s) st'
    go c st' (runs l z) ih h = let r = ih (omega arith) in (r.0, r.1, r.2, omega arith, omega arith)
    go c st' (starts k z b x _) ih h =
        let w : k < length (state_at job s).sent = omega (arith, (good job framed s).marks) in
        (s, b, get_or-set_same (state_at job s).sent k (suc s) 0 w, refl, omega arith)
    go c st' (rests z none) ih h = absurd (omega arith)
