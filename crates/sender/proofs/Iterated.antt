-- Every number of steps, from pages and message words as an accepted job gives them: after k steps the sender stands before word k
-- (`At`), and past the last word it rests. Assumes nothing.
use mathlib.Core.Path.{◌≡◌, refl, sym, ap, subst, ◌∙◌}
use Prim.Native.Nat.{ℕ, zero, suc, ◌+◌, ◌-◌, ◌*◌, ◌%◌, ◌≤◌, ◌<◌}
use mathlib.Core.Bool.{Bool, true, false, not, cond, ◌&&◌}
use mathlib.Core.Logic.{⊎_elim}
use mathlib.Core.List.{List}
use native.Mathlib.Omega.{arith}
use native.Mathlib.Nat.{add-zero, add-suc, eq-or-lt_of_le}
use native.Mathlib.Decide.{le_ind}
use lib.ListN.{replicate, get_or, get_or-replicate}
use borrow.Author.Tests.{lt-ltb, eq-eqb, ne_eqb}
use Rattle.codeword.specs.Code as code
use Rattle.placement.specs.Placement.{state_at, content_at, is_message, all_out, ends_with, batches}
use Rattle.placement.proofs.Placed.{placed, out_all, some_batch}
use Rattle.placement.proofs.Contents.{pause_is}
use Rattle.transmission.specs.Transmission.{codeword_in, preamble, batch_word, word_at, word_count}
use Rattle.transmission.proofs.TransmissionLaws.{word_in_lem}
use Rattle.sender.specs.declared.PageTable.{PageTable}
use Rattle.sender.specs.declared.Cursor.{Cursor}
use Rattle.sender.specs.declared.Sender.{Sender}
use Rattle.sender.specs.declared.Stepped.{Stepped}
use Rattle.sender.specs.declared.Answer.TheVariants.{Word, Done}
use Rattle.sender.specs.Step.{job_in, codewords_in, sends, sync_due, after_sync, in_batch, after_preamble, from_sound, state_from, step_of}
use Rattle.sender.specs.Start.{at_first, begun}
use Rattle.sender.proofs.Search.{set_flag, clear_flag}
use Rattle.sender.proofs.Ways.{here, gave_preamble, gave_sync, gave_done, way_sound, way_preamble, way_batch, way_done, way_sync, way_slot, way_in}
use Rattle.sender.proofs.Held.{Fit, HeldAt, held_preamble, held_sync, held_first, held_content, held_finished, held_sound, held_next}

-- the sender before word k: in the preamble, before a batch, or before slot r of batch q
data Phase (p : PageTable) (k : ℕ) (sent : List ℕ) (c : Cursor) : Type 0 where
  leads : (l : ℕ) → k + suc l ≡ 18 → c.preamble ≡ suc l → c.synced ≡ 0 → HeldAt p 0 sent c → Phase p k sent c
  dues : (q : ℕ) → k ≡ 18 + 17 * q → q ≤ batches (job_in p) → c.preamble ≡ 0 → c.synced ≡ 0 → HeldAt p (16 * q) sent c → Phase p k sent c
  slots : (q r : ℕ) → k ≡ 19 + 17 * q + r → r < 16 → q < batches (job_in p) → c.preamble ≡ 0 → sync_due c ≡ false → HeldAt p (16 * q + r) sent c → Phase p k sent c

record At (p : PageTable) (words : List ℕ) (k : ℕ) (s : Sender) : Type 0 where
  sent : List ℕ
  cursor : Cursor
  is : s ≡ state_from p sent cursor words
  phase : Phase p k sent cursor

-- a step gave word k, and left the sender before word k + 1
abbrev Gave : PageTable → List ℕ → ℕ → Stepped → Type 0
Gave p words k z = (z.answer ≡ Word (word_at (codewords_in p words) (job_in p) k)) × At p words (suc k) z.state

-- the state that n steps leave
unfoldable pub after : ℕ → Sender → Sender
after zero s = s
after (suc n) s = after n (step_of s).state

-- one step more is a step from the state that they leave
pub after_suc : (k : ℕ) (s : Sender) → after (suc k) s ≡ (step_of (after k s)).state
unfolding after
after_suc zero s = refl
after_suc (suc k) s = after_suc k (step_of s).state

due_is : (c : Cursor) → c.synced ≡ 0 → c.slot % 16 ≡ 0 → sync_due c ≡ true
unfolding sync_due
due_is c e z = rw e (eq-eqb _ _ z)

not_due : (c : Cursor) → c.synced ≡ 0 → (c.slot % 16 ≡ 0 → ⊥) → sync_due c ≡ false
unfolding sync_due
not_due c e z = rw e (ne_eqb _ _ z)

sync_not_due : (c : Cursor) → sync_due (after_sync c) ≡ false
unfolding sync_due
sync_not_due c = refl

turned : (a b : Bool) → cond b false a ≡ (a && not b)
turned true true = refl
turned true false = refl
turned false true = refl
turned false false = refl

module _ (p : PageTable) (words : List ℕ) (fit : Fit p) where
  -- no slot of the transmission is beyond the limit of number 11
  few_slots : 16 * batches (job_in p) ≤ 4800
  few_slots = omega (arith, (placed (job_in p) fit.framed).few, fit.few, fit.short)

  -- before slot n all is over
  abbrev over : ℕ → Bool
  over n = cond (state_at (job_in p) n).pause false (all_out (job_in p) (state_at (job_in p) n))

  -- at the start of batch q + 1 it is exactly where that is the number of batches
  over_at : (b : ℕ) → over (16 * suc b) ≡ ends_with (job_in p) b
  unfolding ends_with
  over_at b =
      let e : 16 * suc b ≡ suc (16 * b + 15) = omega arith in
      let f : suc (16 * b + 15) ≡ 16 * b + 16 = omega arith in
      ap over e
      ∙ ap (λ (m : Bool). cond m false (all_out (job_in p) (state_at (job_in p) (suc (16 * b + 15))))) (pause_is (job_in p) (16 * b + 15))
      ∙ turned (all_out (job_in p) (state_at (job_in p) (suc (16 * b + 15)))) (is_message (content_at (job_in p) (16 * b + 15)))
      ∙ ap (λ (n : ℕ). all_out (job_in p) (state_at (job_in p) n) && not (is_message (content_at (job_in p) (16 * b + 15)))) f

  first_unsent : get_or (state_at (job_in p) 0).sent 0 0 ≡ 0
  unfolding state_at
  first_unsent = get_or-replicate {A = ℕ} p.count 0 0 0 fit.some

  not_at_first : all_out (job_in p) (state_at (job_in p) 0) ≡ false
  not_at_first = go (all_out (job_in p) (state_at (job_in p) 0)) refl
    where
      go : (b : Bool) → all_out (job_in p) (state_at (job_in p) 0) ≡ b → all_out (job_in p) (state_at (job_in p) 0) ≡ false
      go true e = absurd ((out_all (job_in p) (state_at (job_in p) 0) e).1 0 fit.some first_unsent)
      go false e = e

  first_open : over 0 ≡ false
  unfolding state_at
  first_open = not_at_first

  goes_on : (q : ℕ) → q < batches (job_in p) → over (16 * q) ≡ false
  goes_on zero l = first_open
  goes_on (suc b) l = over_at b ∙ (placed (job_in p) fit.framed).soonest b (omega arith)

  all_over : (q : ℕ) → q ≡ batches (job_in p) → over (16 * q) ≡ true
  all_over zero e = absurd (omega (arith, some_batch (job_in p) fit.framed))
  all_over (suc b) e = let f : batches (job_in p) - 1 ≡ b = omega arith in over_at b ∙ ap (ends_with (job_in p)) (sym f) ∙ (placed (job_in p) fit.framed).ended

  -- ---- one step

  module _ (k : ℕ) (sent : List ℕ) (c : Cursor) where
    sound_way : (n : ℕ) → HeldAt p n sent c → n ≤ 16 * batches (job_in p) → step_of (here p sent c words) ≡ from_sound (here p sent c words)
    sound_way n h l = way_sound p sent c words (held_sound p fit n sent c h (omega (arith, few_slots)))

    lead_way : (l : ℕ) → c.preamble ≡ suc l → HeldAt p 0 sent c → step_of (here p sent c words) ≡ gave_preamble p sent c words
    lead_way l e h = sound_way 0 h (omega arith) ∙ way_preamble p sent c words (set_flag c.preamble (λ z. omega arith))

    batch_way : (n : ℕ) → HeldAt p n sent c → n ≤ 16 * batches (job_in p) → c.preamble ≡ 0 → step_of (here p sent c words) ≡ in_batch (here p sent c words)
    batch_way n h l e = sound_way n h l ∙ way_batch p sent c words (clear_flag c.preamble e)

    due : (q : ℕ) → c.synced ≡ 0 → HeldAt p (16 * q) sent c → sync_due c ≡ true
    due q e h = due_is c e (omega (arith, h.slot))

    sync_way : (q : ℕ) → q < batches (job_in p) → c.preamble ≡ 0 → c.synced ≡ 0 → HeldAt p (16 * q) sent c → step_of (here p sent c words) ≡ gave_sync p sent c words
    sync_way q l z e h = batch_way (16 * q) h (omega arith) z ∙ way_sync p sent c words (due q e h) (held_finished p fit (16 * q) sent c h ∙ goes_on q l)

    done_way : (q : ℕ) → q ≡ batches (job_in p) → c.preamble ≡ 0 → c.synced ≡ 0 → HeldAt p (16 * q) sent c → step_of (here p sent c words) ≡ gave_done p sent c words
    done_way q l z e h = batch_way (16 * q) h (omega arith) z ∙ way_done p sent c words (due q e h) (held_finished p fit (16 * q) sent c h ∙ all_over q l)

    slot_way : (n : ℕ) → n ≤ 16 * batches (job_in p) → c.preamble ≡ 0 → sync_due c ≡ false → HeldAt p n sent c → step_of (here p sent c words) ≡ sends (here p sent c words) (content_at (job_in p) n)
    slot_way n l z e h = batch_way n h l z ∙ way_slot p sent c words e ∙ way_in p sent c words ∙ ap (sends (here p sent c words)) (held_content p fit n sent c h)

    -- the word of each way
    lead_word : k < 18 → word_at (codewords_in p words) (job_in p) k ≡ preamble
    unfolding word_at
    lead_word l = rw (lt-ltb k 18 l)

    sync_word_lem : (q : ℕ) → k ≡ 18 + 17 * q → word_at (codewords_in p words) (job_in p) k ≡ code.sync
    unfolding batch_word
    sync_word_lem q e = let f : k ≡ 18 + 17 * q + 0 = omega arith in ap (word_at (codewords_in p words) (job_in p)) f ∙ word_in_lem (codewords_in p words) (job_in p) q 0 (omega arith)

    slot_word_lem : (q r : ℕ) → k ≡ 19 + 17 * q + r → r < 16 → word_at (codewords_in p words) (job_in p) k ≡ codeword_in (codewords_in p words) (content_at (job_in p) (16 * q + r))
    unfolding batch_word
    slot_word_lem q r e l = let f : k ≡ 18 + 17 * q + suc r = omega arith in ap (word_at (codewords_in p words) (job_in p)) f ∙ word_in_lem (codewords_in p words) (job_in p) q (suc r) (omega arith)

    -- after the preamble's last word comes the first batch
    led_phase : (l : ℕ) → k + suc l ≡ 18 → c.preamble ≡ suc l → c.synced ≡ 0 → HeldAt p 0 sent c → Phase p (suc k) sent (after_preamble c)
    led_phase zero e z f h = dues 0 (omega arith) (omega arith) (omega arith) f (held_preamble h)
    led_phase (suc l) e z f h = leads l (omega arith) (omega arith) f (held_preamble h)

    synced_phase : (q : ℕ) → k ≡ 18 + 17 * q → q < batches (job_in p) → c.preamble ≡ 0 → HeldAt p (16 * q) sent c → Phase p (suc k) sent (after_sync c)
    synced_phase q e l z h = slots q 0 (omega arith) (omega arith) l z (sync_not_due c) (rw (add-zero (16 * q)) (held_sync h))

    -- after the batch's last slot comes the next batch
    slot_phase : (q r : ℕ) → k ≡ 19 + 17 * q + r → r < 16 → q < batches (job_in p) → c.preamble ≡ 0
        → (sent' : List ℕ) (c' : Cursor) → HeldAt p (suc (16 * q + r)) sent' c' → c'.preamble ≡ c.preamble → c'.synced ≡ 0
        → Phase p (suc k) sent' c'
    slot_phase q r e l m z sent' c' h a b = ⊎_elim last within (eq-or-lt_of_le l)
      where
        last : suc r ≡ 16 → Phase p (suc k) sent' c'
        last f = let g : 16 * suc q ≡ suc (16 * q + r) = omega arith in dues (suc q) (omega arith) m (a ∙ z) b (rw g h)

        within : suc r < 16 → Phase p (suc k) sent' c'
        within f = slots q (suc r) (omega arith) f m (a ∙ z) (not_due c' b (λ g. omega (arith, h.slot))) (rw (add-suc (16 * q) r) h)

    gives : k < word_count (job_in p) → Phase p k sent c → Gave p words k (step_of (here p sent c words))
    gives l (leads n e z f h) =
        subst (Gave p words k) (sym (lead_way n z h))
        (ap Word (sym (lead_word (omega arith))), record { sent = sent; cursor = after_preamble c; is = refl; phase = led_phase n e z f h })
    gives l (dues q e m z f h) =
        let n : q < batches (job_in p) = omega arith in
        subst (Gave p words k) (sym (sync_way q n z f h))
        (ap Word (sym (sync_word_lem q e)), record { sent = sent; cursor = after_sync c; is = refl; phase = synced_phase q e n z h })
    gives l (slots q r e m n z f h) =
        let x = held_next p fit (16 * q + r) sent c h words in
        subst (Gave p words k) (sym (slot_way (16 * q + r) (omega arith) z f h))
        (ap Word (sym (slot_word_lem q r e m)), record { sent = x.sent; cursor = x.cursor; is = x.is; phase = slot_phase q r e m n z x.sent x.cursor x.held x.preamble x.synced })

    rests : k ≡ word_count (job_in p) → Phase p k sent c → step_of (here p sent c words) ≡ gave_done p sent c words
    rests l (leads n e z f h) = absurd (omega arith)
    rests l (dues q e m z f h) = done_way q (omega arith) z f h
    rests l (slots q r e m n z f h) = absurd (omega arith)

  -- ---- every number of steps

  abbrev start : Sender
  start = begun p words

  at_once : (k : ℕ) (s : Sender) → k < word_count (job_in p) → At p words k s → Gave p words k (step_of s)
  at_once k s l a = subst (λ (z : Sender). Gave p words k (step_of z)) (sym a.is) (gives k a.sent a.cursor l a.phase)

  at_step : (k : ℕ) → k ≤ word_count (job_in p) → At p words k (after k start)
  unfolding after
  at_step zero l = record { sent = replicate 48 0; cursor = at_first; is = refl; phase = leads 17 refl refl refl (held_first p fit) }
  at_step (suc k) l = subst (At p words (suc k)) (sym (after_suc k start)) (at_once k (after k start) l (at_step k (omega arith))).1

  pub gives_word : (k : ℕ) → k < word_count (job_in p) → (step_of (after k start)).answer ≡ Word (word_at (codewords_in p words) (job_in p) k)
  gives_word k l = (at_once k (after k start) l (at_step k (omega arith))).0

  abbrev Rest : ℕ → Type 0
  Rest k = ((step_of (after k start)).answer ≡ Done) × ((step_of (after k start)).state ≡ after k start)

  at_end : Rest (word_count (job_in p))
  at_end =
      let a = at_step (word_count (job_in p)) (omega arith) in
      let e = rests (word_count (job_in p)) a.sent a.cursor refl a.phase in
      subst (λ (s : Sender). ((step_of s).answer ≡ Done) × ((step_of s).state ≡ s)) (sym a.is) (ap (λ (z : Stepped). z.answer) e, ap (λ (z : Stepped). z.state) e)

  pub past_end : (k : ℕ) → word_count (job_in p) ≤ k → Rest k
  past_end k l =
      le_ind {n = word_count (job_in p)} Rest at_end
      (λ v _ r. subst (λ (s : Sender). ((step_of s).answer ≡ Done) × ((step_of s).state ≡ s)) (sym r.1 ∙ sym (after_suc v start)) r)
      k l
