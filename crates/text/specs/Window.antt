-- Bits of groups on their way to characters.
use Rattle.std.specs.Prelude.{ℕ, ◌+◌, ◌*◌, ◌%◌, ◌^◌, ◌≤◌, ◌<◌, ◌≡◌, List, length}
use Rattle.text.specs.Coding.{bits_from}
use Rattle.text.specs.Heard.{bit_in}
use Rattle.text.specs.declared.Bits.{Bits}

-- the bits at hand are those of the groups from bit `at` to the next group, the first on top
pub record Window (gs : List ℕ) (at : ℕ) (b : Bits) : Type 0 where
  pub few : b.have ≤ 26
  pub up : at + b.have ≡ 20 * b.next
  pub inside : b.next ≤ length gs
  pub bits : b.window % 2 ^ b.have ≡ bits_from (bit_in gs) at b.have 0

-- they are at hand as before, and those of a character unless no group is left
abbrev pub More : List ℕ → Bits → Bits → Type 0
More gs b r = (at : ℕ) → Window gs at b → Window gs at r × (r.have < 7 → length gs ≤ r.next)
