-- `text::numeric_char` meets its contract. Assumes nothing.
use mathlib.Core.Path.{ap, ◌∙◌}
use Rattle.text.specs.Numeric.{numeric_byte}
use Rattle.text.proofs.CharLaws.{numeric_bits}
use Rattle.text.proofs.numeric_char.Goals as goal

pub returns : goal.returns
returns c = let a = c.args in c.numeric_byte.ensures ∙ ap numeric_byte (c.turned_bits.ensures ∙ numeric_bits a.groups.now a.i)
