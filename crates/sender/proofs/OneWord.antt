-- A step reads one message word at most: `one_word` proves the record of specs/OneWord.antt. Assumes nothing.
use mathlib.Core.Path.{◌≡◌, refl, sym, ap, ◌∙◌}
use Prim.Native.Nat.{ℕ, ◌+◌, ◌<◌}
use mathlib.Core.Bool.{Bool, true, false}
use mathlib.Core.List.{List}
use mathlib.Core.Logic.{⊎_elim}
use native.Mathlib.Omega.{arith}
use lib.Dec.{eqb, ltb}
use lib.ListN.{get_or, set}
use lib.Seq.{set-get_or}
use borrow.Author.Tests.{ltb-true, ltb-false, eqb-true, eqb-false}
use Rattle.base.proofs.Bools.{either}
use Rattle.codeword.specs.Code as code
use Rattle.transmission.specs.Transmission.{preamble}
use Rattle.sender.specs.declared.Cursor.{Cursor}
use Rattle.sender.specs.declared.PageTable.{PageTable}
use Rattle.sender.specs.declared.Answer.{Answer}
use Rattle.sender.specs.declared.Answer.TheVariants.{Word, Done, Refused}
use Rattle.sender.specs.Step.{is_set, declined, state_from, in_batch, in_slot, sync_due, finished, after_idle, after_address, after_message, after_sync, after_preamble, step_of}
use Rattle.sender.specs.OneWord.{OneWord}
use Rattle.sender.proofs.Ways.{here, way_declined, way_sound, way_preamble, way_batch, way_done, way_sync, way_slot}
use Rattle.sender.proofs.Slot.{found, sound_count, sound_at, idle_given, address_given, message_given}

module _ (p : PageTable) (sent : List ℕ) (c : Cursor) where
  -- a step that writes no flag
  unflagged : (at : ℕ) (f : ℕ → Answer) (c' : Cursor) → at < 4032
      → ((words : List ℕ) → step_of (here p sent c words) ≡ record { answer = f (get_or words at 0); state = state_from p sent c' words }) → OneWord p sent c
  unflagged at f c' l e =
      record {
        at = at;
        answer = f;
        page = 0;
        mark = get_or sent 0 0;
        cursor = c';
        at_in = l;
        page_in = omega arith;
        is = λ words. e words ∙ ap (λ (m : List ℕ). record { answer = f (get_or words at 0); state = state_from p m c' words }) (sym (set-get_or sent 0 0));
      }

  -- one that reads no message word either
  unread : (a : Answer) (c' : Cursor) → ((words : List ℕ) → step_of (here p sent c words) ≡ record { answer = a; state = state_from p sent c' words }) → OneWord p sent c
  unread a c' e = unflagged 0 (λ w. a) c' (omega arith) e

  module _ (d : declined p c ≡ false) (r : is_set c.preamble ≡ false) where
    batch : (words : List ℕ) → step_of (here p sent c words) ≡ in_batch (here p sent c words)
    batch words = way_sound p sent c words d ∙ way_batch p sent c words r

    module _ (s : sync_due c ≡ false) where
      slot : (words : List ℕ) → step_of (here p sent c words) ≡ in_slot (here p sent c words)
      slot words = batch words ∙ way_slot p sent c words s

      running : (c.running ≡ 0 → ⊥) → OneWord p sent c
      running n = unflagged (get_or p.starts c.page 0 + c.word) Word (after_message p c) (sound_at p c d n) (λ words. slot words ∙ message_given p sent c d n _ refl words)

      opened : c.running ≡ 0 → OneWord p sent c
      opened z =
          ⊎_elim
          (λ (e : ltb (found p sent c) p.count ≡ true).
          let l = ltb-true (found p sent c) p.count e in
          record {
            at = 0;
            answer = λ w. Word (get_or p.addresses (found p sent c) 0);
            page = found p sent c;
            mark = 1;
            cursor = after_address p c (found p sent c);
            at_in = omega arith;
            page_in = omega (arith, l, sound_count p c d);
            is = λ words. slot words ∙ address_given p sent c z (found p sent c) _ refl l refl words;
          })
          (λ (e : ltb (found p sent c) p.count ≡ false).
          unread (Word code.idle) (after_idle c) (λ words. slot words ∙ idle_given p sent c z (ltb-false (found p sent c) p.count e) words refl))
          (either (ltb (found p sent c) p.count))

      in_a_slot : OneWord p sent c
      in_a_slot = ⊎_elim (λ e. opened (eqb-true c.running 0 e)) (λ e. running (eqb-false c.running 0 e)) (either (eqb c.running 0))

    in_a_batch : OneWord p sent c
    in_a_batch =
        ⊎_elim
        (λ (s : sync_due c ≡ true).
        ⊎_elim (λ (f : finished p sent c ≡ true). unread Done c (λ words. batch words ∙ way_done p sent c words s f))
        (λ (f : finished p sent c ≡ false). unread (Word code.sync) (after_sync c) (λ words. batch words ∙ way_sync p sent c words s f))
        (either (finished p sent c)))
        (λ (s : sync_due c ≡ false). in_a_slot s)
        (either (sync_due c))

  pub one_word : OneWord p sent c
  one_word =
      ⊎_elim (λ (d : declined p c ≡ true). unread Refused c (λ words. way_declined p sent c words d))
      (λ (d : declined p c ≡ false).
      ⊎_elim (λ (r : is_set c.preamble ≡ true). unread (Word preamble) (after_preamble c) (λ words. way_sound p sent c words d ∙ way_preamble p sent c words r))
      (λ (r : is_set c.preamble ≡ false). in_a_batch d r)
      (either (is_set c.preamble)))
      (either (declined p c))
