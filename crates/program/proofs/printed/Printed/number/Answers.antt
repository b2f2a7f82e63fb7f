-- `program::Printed::number` meets its contract. Assumes nothing.
use Rattle.std.proofs.Common.{List, ℕ, ◌++◌, ap, ◌∙◌, arith}
use Rattle.program.proofs.PartLaws.{decimal_is}
use Rattle.program.proofs.printed.Printed.number.Goals as goal

pub returns : goal.returns
returns c =
    let digits = c.decimal-n.ensures.digits ∙ decimal_is c.args.number c.decimal-n.result (omega arith) c.decimal-n.ensures.len in
    c.text.ensures ∙ ap (λ (d : List ℕ). c.args.self.now ++ d) digits
