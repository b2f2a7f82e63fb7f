-- `job::write_groups` meets its contract. Assumes nothing.
use mathlib.Core.Path.{sym, ap, ◌∙◌}
use lib.ListN.{length}
use Rattle.base.specs.Hex.{bytes_of}
use Rattle.base.specs.Lists.{tab}
use Rattle.text.specs.Coding.{group_of}
use Rattle.text.specs.declared.Coding.{Coding}
use Rattle.job.specs.Line.{kind_sent}
use Rattle.job.proofs.Message.{data_sent, coding_sent, told_data, told_text}
use Rattle.job.proofs.write_groups.Goals as goal

pub returns-then-is_data : goal.returns-then-is_data
returns-then-is_data c =
    let a = c.args in
    c.write_fives.ensures
    ∙ told_data (kind_sent a.kind) a.digits.now (length a.groups.now) (data_sent a.kind ∙ sym c.is_data.ensures ∙ c.if-is_data.true)

pub returns : goal.returns
returns c =
    let a = c.args in
    let digits = a.digits.now in
    let n = length a.groups.now in
    c.write_groups.ensures
    ∙ ap (λ (x : Coding). tab (group_of x (bytes_of digits)) n) (c.coding.ensures ∙ sym (coding_sent a.kind))
    ∙ told_text (kind_sent a.kind) digits n (data_sent a.kind ∙ sym c.is_data.ensures ∙ c.if-is_data.false)
