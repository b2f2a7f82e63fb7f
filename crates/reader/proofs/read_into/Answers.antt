-- `reader::read_into` meets its contract. Assumes nothing.
use mathlib.Core.Path.{refl, ◌∙◌}
use Rattle.base.proofs.ListLaws.{copied}
use Rattle.reader.specs.Progress.{KeptAll}
use Rattle.reader.proofs.AnswerLaws.{no_room, all_read}
use Rattle.reader.proofs.read_into.Goals.{After-hear_all-p}
use Rattle.reader.proofs.read_into.Goals as goal

-- once all slots are heard
kept : (c : After-hear_all-p) → let a = c.args in KeptAll a.cut a.symbols.now c.hear_all-p.result c.hear_all-p.new.lines
kept c = c.hear_all-p.ensures

pub returns-then-out-n : goal.returns-then-out-n
returns-then-out-n c =
    let a = c.args in
    record {
      value = no_room a.cut (kept (goal.at.returns-then-out-n c).After-hear_all-p) a.out.now a.changed c.if-out-n.true;
      out_after = refl;
    }

pub returns : goal.returns
returns c =
    let a = c.args in
    let heard = kept (goal.at.returns c).After-hear_all-p in
    record {
      value = all_read a.cut heard a.out.now a.changed c.if-out-n.false;
      out_after = copied a.out.now heard.size (c.copy_from_slice.ensures.after ∙ heard.printed);
    }
