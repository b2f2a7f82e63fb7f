-- `program::receive` meets its contract. Assumes nothing.
use mathlib.Core.Path.{◌≡◌, refl, sym, ap, ◌∙◌}
use lib.ListN.{length}
use borrow.Author.Rules.{rules}
use Rattle.base.specs.Lists.{over}
use Rattle.receiver.specs.Answers.{lines_received, number_of}
use Rattle.std.specs.declared.result.Result.{Result}
use Rattle.receiver.specs.declared.Refusal.{Refusal}
use Rattle.receiver.specs.declared.Totals.{Totals}
use Rattle.program.specs.Prints.{receive_prints}
use Rattle.program.proofs.PrintsLaws.{counted, line_as, receive_long, receive_whole, receive_declined}
use Rattle.program.proofs.receive.Goals.{After-receive-answer}
use Rattle.program.proofs.receive.Goals as goal

-- what is lent has room for all lines
room : (c : After-receive-answer) → length c.args.out.now ≡ 48300
room c = search rules

-- what stands there once the recording is received
left : (c : After-receive-answer) {r : Result Totals Refusal} → c.receive-answer.result ≡ r →
    let a = c.args in
    c.receive-answer.new.out ≡ over a.out.now (lines_received r a.input.now)
left c e =
    let a = c.args in
    c.receive-answer.ensures.out_after ∙ ap (λ (r : Result Totals Refusal). over a.out.now (lines_received r a.input.now)) e

pub returns-then-is_long : goal.returns-then-is_long
returns-then-is_long c =
    let a = c.args in
    let whole = counted a.out.now (receive_prints a.input.now)
    (receive_long a.input.now a.out.now (sym c.is_long.ensures ∙ c.if-is_long.true) (c.write_refusal.ensures.value, c.write_refusal.ensures.out_after)) in record { value = whole.0; out_after = whole.1.0; prefix_len = whole.1.1 }

pub returns-in-Ok : goal.returns-in-Ok
returns-in-Ok c =
    let a = c.args in
    let told = sym c.in-Ok.is in
    let whole = counted a.out.now (receive_prints a.input.now)
    (receive_whole a.input.now a.out.now (sym c.is_long.ensures ∙ c.if-is_long.false) _ (room (goal.at.returns-in-Ok c).After-receive-answer) (told ∙ c.receive-answer.ensures.value) (left (goal.at.returns-in-Ok c).After-receive-answer (sym told))) in record { value = whole.0; out_after = whole.1.0; prefix_len = whole.1.1 }

pub returns-in-Err : goal.returns-in-Err
returns-in-Err c =
    let a = c.args in
    let told = sym c.in-Err.is in
    let whole = counted a.out.now (receive_prints a.input.now)
    (receive_declined a.input.now a.out.now (sym c.is_long.ensures ∙ c.if-is_long.false) _ _ (room (goal.at.returns-in-Err c).After-receive-answer) (told ∙ c.receive-answer.ensures.value)
    (line_as a.out.now _ _ _ (c.number-number.ensures ∙ ap number_of (sym told)) refl refl (left (goal.at.returns-in-Err c).After-receive-answer (sym told)) (c.write_refusal-in-Err.ensures.value, c.write_refusal-in-Err.ensures.out_after))) in record { value = whole.0; out_after = whole.1.0; prefix_len = whole.1.1 }
