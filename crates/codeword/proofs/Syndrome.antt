-- The syndrome of a word, which tells its wrong bits. Assumes nothing.
use mathlib.Core.Path.{◌≡◌}
use Prim.Native.Nat.{ℕ, ◌+◌, ◌*◌, ◌/◌, ◌%◌, ◌^◌, ◌≤◌, ◌<◌}
use Rattle.codeword.specs.Code.{remainder, weight}

-- the ten-bit remainder of a word's bits 1 to 31, then the parity of all 32
unfoldable pub syndrome : ℕ → ℕ
syndrome w = remainder 31 (w / 2) * 2 + weight w % 2

-- e is what may be wrong with a word that has the syndrome z: at most two of its 32 bits
pub record Explains (z e : ℕ) : Type 0 where
  pub fits : e < 2 ^ 32
  pub few : weight e ≤ 2
  pub explains : syndrome e ≡ z
