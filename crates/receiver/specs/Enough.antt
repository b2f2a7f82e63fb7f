-- How much room the lines of a recording take at most.
use Rattle.std.specs.Prelude.{◌≡◌, List, ℕ, ◌≤◌}
use Rattle.receiver.specs.Answers.{receive_bits, number_of}

-- 48,300 bytes suffice for every recording: ten for each slot of 300 batches, and one for each page that a failed test cuts short. No
-- receiving into so much room is number 10. `enough` in proofs/RoomLaws.antt proves it
abbrev pub Enough : Type 0
Enough = (s : List ℕ) (room : ℕ) → 48300 ≤ room → number_of (receive_bits s room) ≡ 10 → ⊥
