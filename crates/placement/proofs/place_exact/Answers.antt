-- `placement::place_exact` meets its contract, by what its three callees ensure. Assumes nothing.
use Rattle.std.proofs.Common.{rules}
use mathlib.Core.Path.{◌≡◌, sym, ap, ◌∙◌}
use mathlib.Core.List.{map}
use Prim.Native.Nat.{ℕ, pred, ◌*◌}
use lib.ListN.{length, replicate}
use Rattle.placement.specs.Placement.{state_at, job_of}
use Rattle.placement.proofs.Placed.{slots_marks}
use Rattle.placement.proofs.Sendable.{sendable_of}
use Rattle.placement.proofs.place_exact.Goals as goal

pub run-batches-requires : goal.run-batches-requires
run-batches-requires c =
    let zeros : c.fill.new.self ≡ replicate (length c.args.out.now) 0 = search rules in
    record {
      words_value = c.requires.words_value;
      marks_value = zeros ∙ ap (λ (n : ℕ). replicate n 0) c.requires.out_len;
    }

pub returns : goal.returns
returns c =
    let job = job_of c.args.frames.now c.args.words.now in
    let ran = c.run-batches in record {
      value = ran.ensures.value;
      out_after = c.unmark.ensures
          ∙ ap (map pred) (ran.ensures.marks_after ∙ ap (λ (r : ℕ). (state_at job (16 * r)).sent) ran.ensures.value)
          ∙ sym (slots_marks job (sendable_of _ _ c.requires.words_value).framed);
    }
