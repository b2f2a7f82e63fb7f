-- `reader::judge_batches` meets its contract. Assumes nothing.
use mathlib.Core.Path.{ap, ◌∙◌}
use Prim.Native.Nat.{ℕ, ◌+◌}
use native.Mathlib.Omega.{arith}
use Rattle.reader.specs.declared.Fault.TheVariants.{Unsynced}
use Rattle.reader.specs.Answers.{Verdict}
use Rattle.std.specs.Prelude.{Err}
use Rattle.reader.proofs.AnswerLaws.{batches_unsynced, batches_sound}
use Rattle.reader.proofs.judge_batches.Goals as goal

pub returns-then-first-words : goal.returns-then-first-words
returns-then-first-words c =
    let first = c.first_unsynced-first.ensures in
    ap {B = Verdict} (λ (q : ℕ). Err (Unsynced (q + 1))) first ∙ batches_unsynced c.args.words.now (omega (arith, c.if-first-words.true))

pub returns : goal.returns
returns c = batches_sound c.args.words.now (omega (arith, c.if-first-words.false, c.first_unsynced-first.ensures))
