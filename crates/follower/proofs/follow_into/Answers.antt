-- `follower::follow_into` meets its contract. Assumes nothing.
use mathlib.Core.Path.{refl, ◌∙◌}
use lib.ListN.{length}
use Rattle.base.proofs.ListLaws.{copied}
use Rattle.follower.specs.Pages.{pages_for}
use Rattle.follower.specs.Progress.{Kept}
use Rattle.follower.proofs.AnswerLaws.{too_long, all_followed}
use Rattle.follower.proofs.follow_into.Goals.{After-follow_all-followed}
use Rattle.follower.proofs.follow_into.Goals as goal

-- once all slots are passed
kept : (c : After-follow_all-followed) → Kept (pages_for c.args.identity c.args.words.now) c.follow_all-followed.result c.follow_all-followed.new.lines
kept c = c.follow_all-followed.ensures

pub returns-then-out-n : goal.returns-then-out-n
returns-then-out-n c =
    record {
      value = too_long (kept (goal.at.returns-then-out-n c).After-follow_all-followed) (length c.args.out.now) c.if-out-n.true;
      out_after = refl;
    }

pub returns : goal.returns
returns c =
    let done = kept (goal.at.returns c).After-follow_all-followed in
    let old = c.args.out.now in
    record {
      value = all_followed done (length old) c.if-out-n.false;
      out_after = copied old done.size (c.copy_from_slice.ensures.after ∙ done.printed);
    }
