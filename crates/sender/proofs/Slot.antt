-- What a state has that is not declined, and what each way through a slot gives. Assumes nothing.
use mathlib.Core.Path.{◌≡◌, refl, sym, ap, ◌∙◌}
use Prim.Native.Nat.{ℕ, ◌+◌, ◌-◌, ◌≤◌, ◌<◌}
use mathlib.Core.Bool.{Bool, true, false, cond, ◌&&◌, ◌||◌}
use mathlib.Core.List.{List}
use native.Mathlib.Omega.{arith}
use lib.Dec.{eqb, ltb, leb}
use lib.ListN.{get_or, set}
use borrow.Author.Tests.{ltb-false, leb-false, lt-ltb, le-ltb}
use Rattle.codeword.specs.Code as code
use Rattle.base.specs.Search.{least}
use Rattle.placement.specs.Placement.{idle, address, message, may_start, ready, first, out, out_of, all_out}
use Rattle.placement.proofs.Placed.{out_all}
use Rattle.placement.proofs.Steps.{slot_runs}
use Rattle.transmission.specs.Transmission.{preamble, codeword_in}
use Rattle.sender.specs.declared.PageTable.{PageTable}
use Rattle.sender.specs.declared.Cursor.{Cursor}
use Rattle.sender.specs.declared.Sender.{Sender}
use Rattle.sender.specs.declared.Stepped.{Stepped}
use Rattle.sender.specs.declared.Answer.{Answer}
use Rattle.sender.specs.declared.Answer.TheVariants.{Word, Done, Refused}
use Rattle.sender.specs.Step.{is_set, flag_of, wrong_at, run_wrong, declined, job_in, view_of, holds, after_idle, state_from, moved, leaves, sends, in_slot, sync_due, finished, after_sync, in_batch, after_preamble, step_of}
use Rattle.sender.proofs.Search.{or_false, and_with, set_flag, clear_flag, found_none}
use Rattle.sender.proofs.Ways.{here, way_declined, way_sound, way_preamble, way_batch, way_done, way_sync, way_slot, way_in}

-- ---- what a state has that is not declined

module _ (p : PageTable) (c : Cursor) (g : declined p c ≡ false) where
  parts : (ltb 48 p.count ≡ false) × ((ltb (least (wrong_at p) p.count) p.count ≡ false) × ((run_wrong p c ≡ false) × (ltb 4800 c.slot ≡ false)))
  unfolding declined
  parts =
      let a = or_false _ _ g in
      let b = or_false _ _ a.1 in
      let d = or_false _ _ b.1 in
      (a.0, (b.0, (d.0, d.1)))

  pub sound_count : p.count ≤ 48
  sound_count = ltb-false _ _ parts.0

  pub sound_slot : c.slot ≤ 4800
  sound_slot = ltb-false _ _ parts.1.1.1

  -- the running page and word
  sound_run : (c.running ≡ 0 → ⊥) → (c.page < p.count) × (c.word < get_or p.lengths c.page 0)
  unfolding run_wrong
  sound_run r =
      let e = or_false (leb p.count c.page) (leb (get_or p.lengths c.page 0) c.word)
      (ap (λ (b : Bool). b && (leb p.count c.page || leb (get_or p.lengths c.page 0) c.word)) (sym (set_flag c.running r)) ∙ parts.1.1.0) in
      (leb-false _ _ e.0, leb-false _ _ e.1)

  pub sound_page : (c.running ≡ 0 → ⊥) → c.page < p.count
  sound_page r = (sound_run r).0

  pub sound_word : (c.running ≡ 0 → ⊥) → c.word < get_or p.lengths c.page 0
  sound_word r = (sound_run r).1

  -- its place among the message words
  pub sound_at : (c.running ≡ 0 → ⊥) → get_or p.starts c.page 0 + c.word < 4032
  unfolding wrong_at
  sound_at r =
      let w = sound_run r in
      let e = or_false (ltb 7 (get_or p.frames c.page 0)) (ltb 4032 (get_or p.starts c.page 0 + get_or p.lengths c.page 0)) (found_none (wrong_at p) p.count parts.1.0 c.page w.0) in
      let l : get_or p.starts c.page 0 + get_or p.lengths c.page 0 ≤ 4032 = ltb-false _ _ e.1 in
      omega arith

module _ (p : PageTable) (sent : List ℕ) (c : Cursor) where
  -- ---- what the slot holds

  left_none : c.running ≡ 0 → (view_of p sent c).left ≡ 0
  left_none e = ap (λ (b : Bool). cond b (get_or p.lengths c.page 0 - c.word) 0) (clear_flag c.running e)

  left_run : (c.running ≡ 0 → ⊥) → (view_of p sent c).left ≡ get_or p.lengths c.page 0 - c.word
  left_run e = ap (λ (b : Bool). cond b (get_or p.lengths c.page 0 - c.word) 0) (set_flag c.running e)

  abbrev pub found : ℕ
  found = first (job_in p) c.slot (view_of p sent c)

  open_slot : c.running ≡ 0 → holds p sent c ≡ cond (ltb found p.count) (address found) idle
  unfolding holds out out_of
  open_slot e = ap (out_of (job_in p) c.slot (view_of p sent c)) (left_none e)

  run_slot : declined p c ≡ false → (c.running ≡ 0 → ⊥) → holds p sent c ≡ message c.page c.word
  unfolding holds
  run_slot g r =
      let w = sound_word p c g r in
      let e = left_run r in
      let j : get_or p.lengths c.page 0 - (view_of p sent c).left ≡ c.word = omega arith in
      (slot_runs (job_in p) c.slot (view_of p sent c) (omega arith)).0 ∙ ap (message c.page) j

  -- ---- the two searches

  pub found_is : least (λ i. may_start (get_or sent i 0) (get_or p.frames i 0) (get_or p.lengths i 0) (is_set c.message) c.slot) p.count ≡ found
  unfolding first ready
  found_is = refl

  -- a message is running
  pub runs_on : declined p c ≡ false → (c.running ≡ 0 → ⊥) → false ≡ all_out (job_in p) (view_of p sent c)
  runs_on g r = go (all_out (job_in p) (view_of p sent c)) refl
    where
      go : (b : Bool) → all_out (job_in p) (view_of p sent c) ≡ b → false ≡ all_out (job_in p) (view_of p sent c)
      go true e = let w = sound_word p c g r in absurd (omega (arith, (out_all (job_in p) (view_of p sent c) e).0, left_run r))
      go false e = sym e

  -- none is running
  pub runs_not : (n : ℕ) → p.count ≡ n → c.running ≡ 0 → eqb (least (λ i. eqb (get_or sent i 0) 0) n) n ≡ all_out (job_in p) (view_of p sent c)
  unfolding all_out
  runs_not n q e = ap all_sent (sym q) ∙ sym (ap (λ (left : ℕ). all_sent p.count && eqb left 0) (left_none e) ∙ and_with (all_sent p.count))
    where
      all_sent : ℕ → Bool
      all_sent m = eqb (least (λ i. eqb (get_or sent i 0) 0) m) m

  -- ---- what a slot gives

  pub idle_given : c.running ≡ 0 → p.count ≤ found → (words : List ℕ) {w : ℕ} → w ≡ code.idle → in_slot (here p sent c words) ≡ record { answer = Word w; state = state_from p sent (after_idle c) words }
  unfolding leaves codeword_in
  idle_given r e words i =
      way_in p sent c words
      ∙ ap (sends (here p sent c words)) (open_slot r ∙ ap (λ (b : Bool). cond b (address found) idle) (le-ltb found p.count e))
      ∙ ap (λ (w : ℕ). record { answer = Word w; state = state_from p sent (after_idle c) words }) (sym i)

  abbrev opened : ℕ → ℕ → Cursor
  opened k f = record { slot = c.slot + 1; page = k; word = 0; preamble = c.preamble; synced = 0; running = f; message = 0 }

  pub address_given : c.running ≡ 0 → (k f : ℕ) → k ≡ found → k < p.count → f ≡ flag_of (ltb 0 (get_or p.lengths k 0))
      → (words : List ℕ) → in_slot (here p sent c words) ≡ record { answer = Word (get_or p.addresses k 0); state = state_from p (set sent k 1) (opened k f) words }
  unfolding leaves codeword_in
  address_given r k f e l ef words =
      way_in p sent c words
      ∙ ap (sends (here p sent c words))
      (open_slot r ∙ ap (λ (i : ℕ). cond (ltb i p.count) (address i) idle) (sym e) ∙ ap (λ (b : Bool). cond b (address k) idle) (lt-ltb k p.count l))
      ∙ ap (λ (x : ℕ). record { answer = Word (get_or p.addresses k 0); state = state_from p (set sent k 1) (opened k x) words }) (sym ef)

  -- the cursor after a message codeword, with this flag
  abbrev went : ℕ → Cursor
  went f = record { slot = c.slot + 1; page = c.page; word = c.word + 1; preamble = c.preamble; synced = 0; running = f; message = 1 }

  pub message_given : declined p c ≡ false → (c.running ≡ 0 → ⊥) → (f : ℕ) → f ≡ flag_of (ltb (c.word + 1) (get_or p.lengths c.page 0))
      → (words : List ℕ) → in_slot (here p sent c words) ≡ record { answer = Word (get_or words (get_or p.starts c.page 0 + c.word) 0); state = state_from p sent (went f) words }
  unfolding leaves codeword_in
  message_given g r f ef words =
      way_in p sent c words
      ∙ ap (sends (here p sent c words)) (run_slot g r)
      ∙ ap (λ (x : ℕ). record { answer = Word (get_or words (get_or p.starts c.page 0 + c.word) 0); state = state_from p sent (went x) words }) (sym ef)

-- ---- a step

-- a step of the state s answers a and leaves t
abbrev pub Gives : Sender → Answer → Sender → Type 0
Gives s a t = (a ≡ (step_of s).answer) × (t ≡ (step_of s).state)

gives : (s : Sender) {z : Stepped} → step_of s ≡ z → Gives s z.answer z.state
gives s e = (ap (λ (z : Stepped). z.answer) (sym e), ap (λ (z : Stepped). z.state) (sym e))

pub gives_refusal : (s : Sender) → declined s.pages s.cursor ≡ true → Gives s Refused s
gives_refusal s d = gives s (way_declined s.pages s.sent s.cursor s.words d)

pub gives_preamble : (s : Sender) → declined s.pages s.cursor ≡ false → (s.cursor.preamble ≡ 0 → ⊥) → Gives s (Word preamble) (moved s (after_preamble s.cursor))
gives_preamble s d r = gives s (way_sound s.pages s.sent s.cursor s.words d ∙ way_preamble s.pages s.sent s.cursor s.words (set_flag s.cursor.preamble r))

module _ (s : Sender) (d : declined s.pages s.cursor ≡ false) (r : s.cursor.preamble ≡ 0) where
  batch : step_of s ≡ in_batch s
  batch = way_sound s.pages s.sent s.cursor s.words d ∙ way_batch s.pages s.sent s.cursor s.words (clear_flag s.cursor.preamble r)

  pub gives_done : sync_due s.cursor ≡ true → finished s.pages s.sent s.cursor ≡ true → Gives s Done s
  gives_done e f = gives s (batch ∙ way_done s.pages s.sent s.cursor s.words e f)

  pub gives_sync : sync_due s.cursor ≡ true → finished s.pages s.sent s.cursor ≡ false → {w : ℕ} → w ≡ code.sync → Gives s (Word w) (moved s (after_sync s.cursor))
  gives_sync e f i =
      let g = gives s (batch ∙ way_sync s.pages s.sent s.cursor s.words e f) in
      (ap Word i ∙ g.0, g.1)

  pub gives_slot : sync_due s.cursor ≡ false → {z : Stepped} → in_slot s ≡ z → Gives s z.answer z.state
  gives_slot e i = gives s (batch ∙ way_slot s.pages s.sent s.cursor s.words e ∙ i)
