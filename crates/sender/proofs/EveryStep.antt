-- One step, from every state: `every_step` proves the record of specs/EveryStep.antt. Assumes nothing.
use Prim.Native.Nat.{ℕ, ◌+◌, ◌<◌}
use mathlib.Core.Path.{◌≡◌, refl, ap}
use mathlib.Core.Bool.{Bool, true, false, cond, ◌&&◌, ◌||◌}
use mathlib.Core.Logic.{⊎_elim}
use native.Mathlib.Omega.{arith}
use lib.Dec.{ltb, leb}
use lib.ListN.{get_or}
use borrow.Author.Tests.{ltb-true, leb-true, lt-ltb, le-leb}
use Rattle.base.specs.Search.{least}
use Rattle.base.proofs.Bools.{either, or_true, and_true}
use Rattle.base.proofs.SearchLaws.{least_is}
use Rattle.codeword.specs.Code as code
use Rattle.transmission.specs.Transmission.{preamble}
use Rattle.sender.specs.declared.Cursor.{Cursor}
use Rattle.sender.specs.declared.PageTable.{PageTable}
use Rattle.sender.specs.declared.Sender.{Sender}
use Rattle.sender.specs.declared.Stepped.{Stepped}
use Rattle.sender.specs.declared.Answer.TheVariants.{Word, Done, Refused}
use Rattle.sender.specs.Answer.{number_of}
use Rattle.sender.specs.Step.{is_set, wrong_at, run_wrong, declined, moved, in_slot, sync_due, finished, after_sync, in_batch, after_preamble, from_sound, step_of}
use Rattle.sender.specs.EveryStep.{NoSender, pages_over, frame_over, words_beyond, page_uncounted, word_missing, slot_over, EveryStep}
use Rattle.sender.proofs.Search.{or_right, set_flag, flag_set, one_found}

-- ---- the test of number 11 is the table's

module _ (p : PageTable) (c : Cursor) where
  wrong_page : (i : ℕ) → i < p.count → wrong_at p i ≡ true → declined p c ≡ true
  unfolding declined
  wrong_page i h e = or_right (ltb 48 p.count) (rw (one_found (wrong_at p) p.count i h e))

  wrong_run : (c.running ≡ 0 → ⊥) → leb p.count c.page || leb (get_or p.lengths c.page 0) c.word ≡ true → declined p c ≡ true
  unfolding declined run_wrong
  wrong_run r e =
      let both : is_set c.running && (leb p.count c.page || leb (get_or p.lengths c.page 0) c.word) ≡ true = rw (set_flag c.running r, e) in
      or_right (ltb 48 p.count) (or_right (ltb (least (wrong_at p) p.count) p.count) (rw both))

  no_sender : NoSender p c → declined p c ≡ true
  unfolding declined wrong_at
  no_sender (pages_over h) = rw (lt-ltb 48 p.count h)
  no_sender (frame_over i l h) = wrong_page i l (rw (lt-ltb 7 (get_or p.frames i 0) h))
  no_sender (words_beyond i l h) = wrong_page i l (or_right (ltb 7 (get_or p.frames i 0)) (lt-ltb 4032 (get_or p.starts i 0 + get_or p.lengths i 0) h))
  no_sender (page_uncounted r h) = wrong_run r (rw (le-leb p.count c.page h))
  no_sender (word_missing r h) = wrong_run r (or_right (leb p.count c.page) (le-leb (get_or p.lengths c.page 0) c.word h))
  no_sender (slot_over h) =
      or_right (ltb 48 p.count) (or_right (ltb (least (wrong_at p) p.count) p.count) (or_right (run_wrong p c) (lt-ltb 4800 c.slot h)))

  found_page : ltb (least (wrong_at p) p.count) p.count ≡ true → NoSender p c
  unfolding wrong_at
  found_page e =
      let i = least (wrong_at p) p.count in
      let l = ltb-true i p.count e in
      ⊎_elim (λ f. frame_over i l (ltb-true 7 _ f)) (λ f. words_beyond i l (ltb-true 4032 _ f))
      (or_true (ltb 7 (get_or p.frames i 0)) (ltb 4032 (get_or p.starts i 0 + get_or p.lengths i 0)) ((least_is (wrong_at p) p.count).here l))

  found_run : run_wrong p c ≡ true → NoSender p c
  unfolding run_wrong
  found_run e =
      let b = and_true (is_set c.running) (leb p.count c.page || leb (get_or p.lengths c.page 0) c.word) e in
      let r = flag_set c.running b.0 in
      ⊎_elim (λ f. page_uncounted r (leb-true p.count c.page f)) (λ f. word_missing r (leb-true (get_or p.lengths c.page 0) c.word f))
      (or_true (leb p.count c.page) (leb (get_or p.lengths c.page 0) c.word) b.1)

  found_sender : declined p c ≡ true → NoSender p c
  unfolding declined
  found_sender e =
      ⊎_elim (λ f. pages_over (ltb-true 48 p.count f))
      (λ e. ⊎_elim found_page (λ e. ⊎_elim found_run (λ f. slot_over (ltb-true 4800 c.slot f)) (or_true (run_wrong p c) (ltb 4800 c.slot) e))
      (or_true (ltb (least (wrong_at p) p.count) p.count) (run_wrong p c || ltb 4800 c.slot) e))
      (or_true (ltb 48 p.count) (ltb (least (wrong_at p) p.count) p.count || (run_wrong p c || ltb 4800 c.slot)) e)

-- ---- the step of a state that is not declined

-- it is not declined, and done alters nothing
record Fine (s : Sender) (z : Stepped) : Type 0 where
  number : number_of z.answer ≡ 0
  rests : z.answer ≡ Done → z.state ≡ s

module _ (s : Sender) where
  either_fine : (b : Bool) {y z : Stepped} → Fine s y → Fine s z → Fine s (cond b y z)
  either_fine true f g = f
  either_fine false f g = g

  word_fine : (w : ℕ) (t : Sender) → Fine s (record { answer = Word w; state = t })
  word_fine w t = record { number = refl; rests = λ e. absurd (let z : ◌≡◌ {A = ℕ} 0 1 = cc in omega arith) }

  done_fine : Fine s (record { answer = Done; state = s })
  done_fine = record { number = refl; rests = λ e. refl }

  slot_fine : Fine s (in_slot s)
  unfolding in_slot
  slot_fine = word_fine _ _

  batch_fine : Fine s (in_batch s)
  unfolding in_batch
  batch_fine = either_fine (sync_due s.cursor) (either_fine (finished s.pages s.sent s.cursor) done_fine (word_fine code.sync (moved s (after_sync s.cursor)))) slot_fine

  sound_fine : Fine s (from_sound s)
  unfolding from_sound
  sound_fine = either_fine (is_set s.cursor.preamble) (word_fine preamble (moved s (after_preamble s.cursor))) batch_fine

  abbrev refused : Stepped
  refused = record { answer = Refused; state = s }

  declined_step : declined s.pages s.cursor ≡ true → step_of s ≡ refused
  unfolding step_of
  declined_step e = ap (λ (b : Bool). cond b refused (from_sound s)) e

  sound_step : declined s.pages s.cursor ≡ false → Fine s (step_of s)
  unfolding step_of
  sound_step e = rw e sound_fine

  pub every_step : EveryStep s
  every_step =
      record {
        declines = λ n. let e = declined_step (no_sender s.pages s.cursor n) in rw e (refl, refl, refl);
        only_then = λ e.
            ⊎_elim (λ d. found_sender s.pages s.cursor d) (λ d. absurd (omega (arith, (sound_step d).number)))
            (either (declined s.pages s.cursor));
        rests = λ e.
            ⊎_elim (λ d. rw (declined_step d)) (λ d. (sound_step d).rests e)
            (either (declined s.pages s.cursor));
      }
