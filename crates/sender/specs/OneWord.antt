-- What a step reads and writes, from every state whatever: it does the same whatever the message words are, but for one of them.
-- `one_word` in proofs/OneWord.antt proves it.
use Rattle.std.specs.Prelude.{ℕ, ◌<◌, ◌≡◌, List, get_or, set}
use Rattle.sender.specs.declared.Cursor.{Cursor}
use Rattle.sender.specs.declared.PageTable.{PageTable}
use Rattle.sender.specs.declared.Answer.{Answer}
use Rattle.sender.specs.Step.{state_from, step_of}

pub record OneWord (p : PageTable) (sent : List ℕ) (c : Cursor) : Type 0 where
  -- where the one word stands, and the answer by it
  pub at : ℕ
  pub answer : ℕ → Answer
  -- the page whose flag is written, and the flag: a step that sends no address leaves the first page's as it was
  pub page : ℕ
  pub mark : ℕ
  pub cursor : Cursor
  pub at_in : at < 4032
  pub page_in : page < 48
  pub is : (words : List ℕ) → step_of (state_from p sent c words) ≡ record { answer = answer (get_or words at 0); state = state_from p (set sent page mark) cursor words }
