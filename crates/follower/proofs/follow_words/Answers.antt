-- `follower::follow_words` meets its contract. Assumes nothing.
use mathlib.Core.Path.{◌≡◌, sym, ap, ◌∙◌}
use mathlib.Core.List.{List}
use Prim.Native.Nat.{ℕ}
use lib.ListN.{length}
use Rattle.reader.specs.Answers.{judge_words}
use Rattle.reader.specs.Answers.{Verdict}
use Rattle.reader.proofs.Laws.{readable}
use Rattle.follower.specs.Answers.{follow_judged, follow_words}
use Rattle.follower.proofs.follow_words.Goals as goal

pub follow_judged-requires : goal.follow_judged-requires
follow_judged-requires c e = readable.of_words c.args.words.now (sym c.judge_words-v.ensures ∙ e)

judged : (i : ℕ) (words : List ℕ) (room : ℕ) {v : Verdict} → v ≡ judge_words words → follow_judged i v words room ≡ follow_words i words room
unfolding follow_words
judged i words room e = ap (λ (v : Verdict). follow_judged i v words room) e

pub returns : goal.returns
returns c =
    let a = c.args in
    let r = c.follow_judged.ensures in
    record {
      value = r.value ∙ judged a.identity a.words.now (length a.out.now) c.judge_words-v.ensures;
      out_after = r.out_after;
    }
