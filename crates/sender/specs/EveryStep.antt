-- One step, from every state whatever: when it is declined, and that done alters nothing. `every_step` in proofs/EveryStep.antt
-- proves it.
use Rattle.std.specs.Prelude.{ℕ, ◌+◌, ◌≤◌, ◌<◌, ◌≡◌, get_or}
use Rattle.sender.specs.declared.Cursor.{Cursor}
use Rattle.sender.specs.declared.PageTable.{PageTable}
use Rattle.sender.specs.declared.Sender.{Sender}
use Rattle.sender.specs.declared.Answer.TheVariants.{Done}
use Rattle.sender.specs.Answer.{number_of, place_of}
use Rattle.sender.specs.Step.{step_of}

-- what number 11 is given for, clause by clause of the table
pub data NoSender (p : PageTable) (c : Cursor) : Type 0 where
  pages_over : 48 < p.count → NoSender p c
  frame_over : (i : ℕ) → i < p.count → 7 < get_or p.frames i 0 → NoSender p c
  words_beyond : (i : ℕ) → i < p.count → 4032 < get_or p.starts i 0 + get_or p.lengths i 0 → NoSender p c
  page_uncounted : (c.running ≡ 0 → ⊥) → p.count ≤ c.page → NoSender p c
  word_missing : (c.running ≡ 0 → ⊥) → get_or p.lengths c.page 0 ≤ c.word → NoSender p c
  slot_over : 4800 < c.slot → NoSender p c

pub record EveryStep (s : Sender) : Type 0 where
  -- number 11, place 0, exactly when the table says so; nothing is altered then
  pub declines : NoSender s.pages s.cursor → (number_of (step_of s).answer ≡ 11) × (place_of (step_of s).answer ≡ 0) × ((step_of s).state ≡ s)
  pub only_then : number_of (step_of s).answer ≡ 11 → NoSender s.pages s.cursor
  -- done alters nothing
  pub rests : (step_of s).answer ≡ Done → (step_of s).state ≡ s
