-- Bits of a text on their way into its groups.
use Rattle.std.specs.Prelude.{ℕ, ◌+◌, ◌*◌, ◌^◌, ◌≤◌, ◌<◌, ◌≡◌, List}
use Rattle.text.specs.Coding.{width_of, bit_of, bits_from}
use Rattle.text.specs.declared.Coding.{Coding}
use Rattle.text.specs.declared.Bits.{Bits}

-- the `have` bits of a text from `at` on as a number, the first on top; the next character's come behind them
pub record Waiting (c : Coding) (bytes : List ℕ) (at window have next : ℕ) : Type 0 where
  pub bits : window ≡ bits_from (bit_of c bytes) at have 0
  pub seam : next * width_of c ≡ at + have

-- fewer than 20 bits, with room for more
pub record Few (b : Bits) : Type 0 where
  pub few : b.have < 20
  pub fits : b.window < 2 ^ b.have
  pub near : b.next + 26 < 2 ^ 64

-- the same bits with more behind them, 20 or a few above
pub record Refilled (c : Coding) (bytes : List ℕ) (b r : Bits) : Type 0 where
  pub enough : 20 ≤ r.have
  pub few : r.have ≤ 26
  pub same : (at : ℕ) → Waiting c bytes at b.window b.have b.next → Waiting c bytes at r.window r.have r.next
