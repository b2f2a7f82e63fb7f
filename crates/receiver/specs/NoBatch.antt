-- A recording without a batch (document 02, R-10).
use Rattle.std.specs.Prelude.{◌≡◌, false, List, [], ℕ, ◌≤◌, length, Ok}
use Rattle.receiver.specs.Stretches.{is_batch}
use Rattle.receiver.specs.Answers.{nothing, totals_of, receive_bits, lines_received}

-- it is not refused, into whatever room: all counts are zero, and nothing is written. `no_batch` in proofs/NoBatch.antt proves it
pub record Unheard (s : List ℕ) (room : ℕ) : Type 0 where
  pub answered : receive_bits s room ≡ Ok (totals_of 0 nothing)
  pub unwritten : lines_received (receive_bits s room) s ≡ []

abbrev pub NoBatch : Type 0
NoBatch = (s : List ℕ) → length s ≤ 65536 → ((p : ℕ) → is_batch s p ≡ false) → (room : ℕ) → Unheard s room
