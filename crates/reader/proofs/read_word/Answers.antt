-- `reader::read_word` meets its contract: a refused word leaves at once as lost. Assumes nothing.
use mathlib.Core.Path.{sym, ◌∙◌}
use Rattle.reader.proofs.ChangeLaws.{refused_word_lem, corrected_word}
use Rattle.reader.proofs.read_word.Goals as goal

pub returns-in_default : goal.returns-in_default
returns-in_default c = let whole = refused_word_lem c.args.word (sym c.in_default.is ∙ c.correct_by.ensures) in record { symbol_value = whole.0; changed_value = whole.1 }

pub returns : goal.returns
returns c =
    let whole = corrected_word c.args.word _ (sym c.in-Some.is ∙ c.correct_by.ensures) c.symbol-symbol.result _
    c.symbol-symbol.ensures c.unless_lost.ensures in record { symbol_value = whole.0; changed_value = whole.1 }
