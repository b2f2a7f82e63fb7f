-- The ways through a step, each as an equation: the proofs of a step and the claim about every list of steps both go by them. Assumes nothing.
use mathlib.Core.Path.{◌≡◌, refl, ap, ◌∙◌}
use Prim.Native.Nat.{ℕ}
use mathlib.Core.Bool.{Bool, true, false, cond}
use mathlib.Core.List.{List}
use Rattle.codeword.specs.Code as code
use Rattle.transmission.specs.Transmission.{preamble}
use Rattle.sender.specs.declared.PageTable.{PageTable}
use Rattle.sender.specs.declared.Cursor.{Cursor}
use Rattle.sender.specs.declared.Sender.{Sender}
use Rattle.sender.specs.declared.Stepped.{Stepped}
use Rattle.sender.specs.declared.Answer.TheVariants.{Word, Done, Refused}
use Rattle.sender.specs.Step.{is_set, declined, holds, sends, in_slot, sync_due, finished, after_sync, in_batch, after_preamble, from_sound, state_from, step_of}

module _ (p : PageTable) (sent : List ℕ) (c : Cursor) (words : List ℕ) where
  abbrev pub here : Sender
  here = state_from p sent c words

  abbrev pub gave_preamble : Stepped
  gave_preamble = record { answer = Word preamble; state = state_from p sent (after_preamble c) words }

  abbrev pub gave_sync : Stepped
  gave_sync = record { answer = Word code.sync; state = state_from p sent (after_sync c) words }

  abbrev pub gave_done : Stepped
  gave_done = record { answer = Done; state = here }

  abbrev pub gave_refusal : Stepped
  gave_refusal = record { answer = Refused; state = here }

  pub way_declined : declined p c ≡ true → step_of here ≡ gave_refusal
  unfolding step_of
  way_declined e = ap (λ (b : Bool). cond b gave_refusal (from_sound here)) e

  pub way_sound : declined p c ≡ false → step_of here ≡ from_sound here
  unfolding step_of
  way_sound e = ap (λ (b : Bool). cond b gave_refusal (from_sound here)) e

  pub way_preamble : is_set c.preamble ≡ true → from_sound here ≡ gave_preamble
  unfolding from_sound
  way_preamble e = ap (λ (b : Bool). cond b gave_preamble (in_batch here)) e

  pub way_batch : is_set c.preamble ≡ false → from_sound here ≡ in_batch here
  unfolding from_sound
  way_batch e = ap (λ (b : Bool). cond b gave_preamble (in_batch here)) e

  way_due : sync_due c ≡ true → in_batch here ≡ cond (finished p sent c) gave_done gave_sync
  unfolding in_batch
  way_due e = ap (λ (b : Bool). cond b (cond (finished p sent c) gave_done gave_sync) (in_slot here)) e

  pub way_done : sync_due c ≡ true → finished p sent c ≡ true → in_batch here ≡ gave_done
  way_done d f = way_due d ∙ ap (λ (b : Bool). cond b gave_done gave_sync) f

  pub way_sync : sync_due c ≡ true → finished p sent c ≡ false → in_batch here ≡ gave_sync
  way_sync d f = way_due d ∙ ap (λ (b : Bool). cond b gave_done gave_sync) f

  pub way_slot : sync_due c ≡ false → in_batch here ≡ in_slot here
  unfolding in_batch
  way_slot e = ap (λ (b : Bool). cond b (cond (finished p sent c) gave_done gave_sync) (in_slot here)) e

  pub way_in : in_slot here ≡ sends here (holds p sent c)
  unfolding in_slot
  way_in = refl
