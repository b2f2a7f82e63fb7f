-- A recording without a batch. Assumes nothing.
use mathlib.Core.Path.{◌≡◌, ap, ◌∙◌}
use mathlib.Core.Bool.{false}
use mathlib.Core.List.{List, []}
use Prim.Native.Nat.{ℕ, ◌≤◌, zero-le}
use lib.ListN.{length}
use borrow.Author.Tests.{le-ltb}
use Rattle.reader.specs.Lines.{lines_heard}
use Rattle.receiver.specs.Stretches.{is_batch, hunt_from, stretches_of, batches_found}
use Rattle.receiver.specs.Answers.{nothing, heard_all, heard_bits, totals_of, receive_bits, lines_received}
use Rattle.receiver.specs.NoBatch.{NoBatch}
use Rattle.std.specs.declared.result.Result.{Result}
use Rattle.std.specs.declared.result.Result.TheVariants.{Ok}
use Rattle.receiver.specs.declared.Refusal.{Refusal}
use Rattle.receiver.specs.declared.Totals.{Totals}
use Rattle.receiver.proofs.StretchLaws.{batches_none, stretches_none, stretches_all}

module _ (s : List ℕ) (short : length s ≤ 65536) (none : (p : ℕ) → is_batch s p ≡ false) where
  -- no hunt finds a stretch
  no_stretch : stretches_of s ≡ []
  no_stretch = stretches_all s ∙ stretches_none s 0 (batches_none s (hunt_from s 0) (none (hunt_from s 0)))

  nothing_heard : heard_bits s ≡ nothing
  unfolding heard_all
  nothing_heard = ap (heard_all s) no_stretch

  no_batches_lem : batches_found (stretches_of s) ≡ 0
  unfolding batches_found
  no_batches_lem = ap batches_found no_stretch

  module _ (room : ℕ) where
    answered : receive_bits s room ≡ Ok (totals_of 0 nothing)
    unfolding receive_bits lines_heard
    answered = rw (le-ltb 65536 (length s) short, no_batches_lem, nothing_heard, le-ltb room 0 zero-le)

    unwritten : lines_received (receive_bits s room) s ≡ []
    unfolding lines_heard
    unwritten = ap (λ (r : Result Totals Refusal). lines_received r s) answered ∙ rw nothing_heard

pub no_batch : NoBatch
no_batch s short none room = record { answered = answered s short none room; unwritten = unwritten s short none room }
