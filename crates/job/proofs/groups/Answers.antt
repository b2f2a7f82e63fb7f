-- `job::groups` meets its contract. Assumes nothing.
use mathlib.Core.Path.{sym, ap, ◌∙◌}
use Prim.Native.Nat.{◌/◌}
use Rattle.text.specs.Coding.{groups_of}
use Rattle.text.specs.declared.Coding.{Coding}
use Rattle.job.specs.Line.{kind_sent}
use Rattle.job.proofs.Message.{data_sent, coding_sent, count_data, count_text}
use Rattle.job.proofs.groups.Goals as goal

pub returns-then-is_data : goal.returns-then-is_data
returns-then-is_data c = let a = c.args in c.from.ensures ∙ sym (count_data (kind_sent a.kind) a.length (data_sent a.kind ∙ sym c.is_data.ensures ∙ c.if-is_data.true))

pub returns : goal.returns
returns c =
    let a = c.args in
    c.groups.ensures
    ∙ ap (λ (x : Coding). groups_of x (a.length / 2)) (c.coding.ensures ∙ sym (coding_sent a.kind))
    ∙ sym (count_text (kind_sent a.kind) a.length (data_sent a.kind ∙ sym c.is_data.ensures ∙ c.if-is_data.false))
