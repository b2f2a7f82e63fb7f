-- What the sender holds before slot n, in terms of the placement's state there: `held_next` is one slot. Assumes nothing.
use mathlib.Core.Path.{◌≡◌, refl, sym, ap, ◌∙◌}
use Prim.Native.Nat.{ℕ, suc, ◌+◌, ◌-◌, ◌≤◌, ◌<◌}
use mathlib.Core.Bool.{Bool, true, false, cond, ◌&&◌, ◌||◌}
use mathlib.Core.List.{List}
use native.Mathlib.Omega.{arith}
use native.Mathlib.Decide.{ℕ_discrete}
use lib.ListN.{length, get_or, set, replicate, length-set, length-replicate, get_or-replicate}
use lib.Seq.{get_or-set_same, get_or-set_other}
use lib.Dec.{eqb, ltb, leb}
use borrow.Author.Tests.{ltb-true, ltb-false, le-ltb, lt-leb, ne_eqb}
use Rattle.base.proofs.Bools.{true_false}
use Rattle.placement.specs.Placement.{Framed, messages, State, Content, out, all_out, state_at, content_at}
use Rattle.placement.proofs.Turn.{Turn, runs, starts, rests}
use Rattle.placement.proofs.Bounds as bounds
use Rattle.placement.proofs.Contents.{slot, Runs, runs_at}
use Rattle.sender.specs.declared.PageTable.{PageTable}
use Rattle.sender.specs.declared.Cursor.{Cursor}
use Rattle.sender.specs.declared.Sender.{Sender}
use Rattle.sender.specs.Step.{is_set, flag_of, wrong_at, run_wrong, declined, job_in, left_of, view_of, holds, after_idle, after_address, after_message, state_from, leaves, finished, after_sync, after_preamble}
use Rattle.sender.specs.Start.{at_first}
use Rattle.sender.proofs.Search.{both_false, none_found}
use Rattle.sender.proofs.Alike.{Alike, out_alike, all_out_alike}

-- what an accepted job's pages have
pub record Fit (p : PageTable) : Type 0 where
  pub some : 0 < p.count
  pub few : p.count ≤ 48
  pub framed : Framed (job_in p)
  pub inside : (i : ℕ) → i < p.count → get_or p.starts i 0 + get_or p.lengths i 0 ≤ 4032
  pub short : messages (job_in p) ≤ 4032

-- the sender before slot n, where the placement's state is st
pub record Held (p : PageTable) (n : ℕ) (st : State) (sent : List ℕ) (c : Cursor) : Type 0 where
  pub slot : c.slot ≡ n
  pub page : c.page ≡ st.page
  pub left : left_of p c ≡ st.left
  pub marks : Alike p.count sent st.sent
  pub room : length sent ≡ 48
  pub runs : is_set c.running ≡ true → c.word < get_or p.lengths c.page 0
  pub message : is_set c.message ≡ st.pause

abbrev pub HeldAt : PageTable → ℕ → List ℕ → Cursor → Type 0
HeldAt p n sent c = Held p n (state_at (job_in p) n) sent c

pub held_preamble : {p : PageTable} {n : ℕ} {st : State} {sent : List ℕ} {c : Cursor} → Held p n st sent c → Held p n st sent (after_preamble c)
held_preamble h = record { slot = h.slot; page = h.page; left = h.left; marks = h.marks; room = h.room; runs = h.runs; message = h.message }

pub held_sync : {p : PageTable} {n : ℕ} {st : State} {sent : List ℕ} {c : Cursor} → Held p n st sent c → Held p n st sent (after_sync c)
held_sync h = record { slot = h.slot; page = h.page; left = h.left; marks = h.marks; room = h.room; runs = h.runs; message = h.message }

running_of : (b : Bool) (x l : ℕ) → cond b x 0 ≡ suc l → b ≡ true
running_of true x l e = refl
running_of false x l e = absurd (omega arith)

-- a flag that is made of a test has the test's value
flag_of_lem : (b : Bool) → is_set (flag_of b) ≡ b
flag_of_lem true = refl
flag_of_lem false = refl

rest_of : (a e : ℕ) → cond (is_set (flag_of (ltb a e))) (e - a) 0 ≡ e - a
rest_of a e = go (ltb a e) refl
  where
    go : (b : Bool) → ltb a e ≡ b → cond (is_set (flag_of b)) (e - a) 0 ≡ e - a
    go true q = refl
    go false q = let l : e ≤ a = ltb-false a e q in omega arith

-- after a slot: the sender's state, with what it holds before the next one
pub record Left (p : PageTable) (words : List ℕ) (c : Cursor) (n : ℕ) (st : State) (s : Sender) : Type 0 where
  pub sent : List ℕ
  pub cursor : Cursor
  pub is : s ≡ state_from p sent cursor words
  pub held : Held p n st sent cursor
  pub preamble : cursor.preamble ≡ c.preamble
  pub synced : cursor.synced ≡ 0

module _ (p : PageTable) (fit : Fit p) where
  pub held_first : HeldAt p 0 (replicate 48 0) at_first
  unfolding state_at
  held_first =
      record {
        slot = refl;
        page = refl;
        left = refl;
        marks = λ i l. let m : i < 48 = omega (arith, fit.few) in rw (get_or-replicate {A = ℕ} 48 i 0 0 m, get_or-replicate {A = ℕ} p.count i 0 0 l);
        room = length-replicate {A = ℕ} 48 0;
        runs = λ e. absurd (true_false e refl);
        message = refl;
      }

  module _ (n : ℕ) (sent : List ℕ) (c : Cursor) (h : HeldAt p n sent c) where
    pub held_content : holds p sent c ≡ content_at (job_in p) n
    unfolding holds content_at
    held_content =
        ap (λ (s : ℕ). out (job_in p) s (view_of p sent c)) h.slot
        ∙ out_alike (job_in p) (view_of p sent c) (state_at (job_in p) n) h.page h.left h.message h.marks n

    pub held_finished : finished p sent c ≡ cond (state_at (job_in p) n).pause false (all_out (job_in p) (state_at (job_in p) n))
    unfolding finished
    held_finished = rw (all_out_alike (job_in p) (view_of p sent c) (state_at (job_in p) n) h.page h.left h.message h.marks, h.message)

    pub held_sound : n ≤ 4800 → declined p c ≡ false
    unfolding declined run_wrong wrong_at Runs
    held_sound b =
        both_false (le-ltb 48 p.count fit.few)
        (both_false
        (none_found (wrong_at p) p.count (λ i l. let f : get_or p.frames i 0 < 8 = fit.framed i l in both_false (le-ltb 7 (get_or p.frames i 0) (omega arith)) (le-ltb 4032 (get_or p.starts i 0 + get_or p.lengths i 0) (fit.inside i l))))
        (both_false (go (is_set c.running) refl) (le-ltb 4800 c.slot (omega (arith, h.slot)))))
      where
        go : (b : Bool) → is_set c.running ≡ b → b && (leb p.count c.page || leb (get_or p.lengths c.page 0) c.word) ≡ false
        go false e = refl
        go true e =
            let w = h.runs e in
            let q : get_or p.lengths c.page 0 - c.word ≡ (state_at (job_in p) n).left = ap (λ (b : Bool). cond b (get_or p.lengths c.page 0 - c.word) 0) (sym e) ∙ h.left in
            let r = runs_at (job_in p) fit.framed n (omega arith) in
            let k : c.page < p.count = omega (arith, r.1, h.page) in
            both_false (lt-leb _ _ k) (lt-leb _ _ w)

    pub held_next : (words : List ℕ) → Left p words c (suc n) (state_at (job_in p) (suc n)) (leaves (state_from p sent c words) (content_at (job_in p) n))
    unfolding leaves
    held_next words = go _ _ (slot (job_in p) n)
      where
        on : c.slot + 1 ≡ suc n
        on = omega (arith, h.slot)

        go : (x : Content) (st' : State) → Turn (job_in p) n (state_at (job_in p) n) x st' → Left p words c (suc n) st' (leaves (state_from p sent c words) x)
        go x st' (runs l z) =
            let r : is_set c.running ≡ true = running_of (is_set c.running) (get_or p.lengths c.page 0 - c.word) l (h.left ∙ z) in
            let w = h.runs r in
            let e : get_or p.lengths c.page 0 - c.word ≡ (state_at (job_in p) n).left = ap (λ (b : Bool). cond b (get_or p.lengths c.page 0 - c.word) 0) (sym r) ∙ h.left in
            record {
              sent = sent;
              cursor = after_message p c;
              is = refl;
              held =
                  record {
                    slot = on;
                    page = h.page;
                    left = rest_of (c.word + 1) (get_or p.lengths c.page 0) ∙ (omega arith);
                    marks = h.marks;
                    room = h.room;
                    runs = λ t. ltb-true _ _ (sym (flag_of_lem (ltb (c.word + 1) (get_or p.lengths c.page 0))) ∙ t);
                    message = refl;
                  };
              preamble = refl;
              synced = refl;
            }
        go x st' (starts i z b r _) =
            record {
              sent = set sent i 1;
              cursor = after_address p c i;
              is = refl;
              held =
                  record {
                    slot = on;
                    page = refl;
                    left = rest_of 0 (get_or p.lengths i 0) ∙ (omega arith);
                    marks = λ k l. elim (ℕ_discrete k i) [ yes q ↦ same k q | no f ↦ other k l f ];
                    room = length-set sent i 1 ∙ h.room;
                    runs = λ t. ltb-true _ _ (sym (flag_of_lem (ltb 0 (get_or p.lengths i 0))) ∙ t);
                    message = refl;
                  };
              preamble = refl;
              synced = refl;
            }
          where
            same : (k : ℕ) → k ≡ i → eqb (get_or (set sent i 1) k 0) 0 ≡ eqb (get_or (set (state_at (job_in p) n).sent i (suc n)) k 0) 0
            same k q =
                let a : i < length sent = omega (arith, h.room, fit.few) in
                let d : i < length (state_at (job_in p) n).sent = omega (arith, (bounds.good (job_in p) fit.framed n).marks) in
                rw (q, get_or-set_same sent i 1 0 a, get_or-set_same (state_at (job_in p) n).sent i (suc n) 0 d) (sym (ne_eqb (suc n) 0 (λ e. omega arith)))

            other : (k : ℕ) → k < p.count → (k ≡ i → ⊥) → eqb (get_or (set sent i 1) k 0) 0 ≡ eqb (get_or (set (state_at (job_in p) n).sent i (suc n)) k 0) 0
            other k l f = rw (get_or-set_other sent i k 1 0 f, get_or-set_other (state_at (job_in p) n).sent i k (suc n) 0 f) (h.marks k l)
        go x st' (rests z none) =
            record {
              sent = sent;
              cursor = after_idle c;
              is = refl;
              held = record { slot = on; page = h.page; left = h.left; marks = h.marks; room = h.room; runs = h.runs; message = refl };
              preamble = refl;
              synced = refl;
            }
