-- `text::numeric_length` meets its contract. The invariant: behind the first i characters all are spaces. Assumes nothing.
use mathlib.Core.Path.{◌≡◌}
use lib.ListN.{length}
use Rattle.base.specs.Lists.{tab}
use Rattle.text.specs.Heard.{char_heard, trimmed, heard_text}
use Rattle.text.specs.declared.Coding.TheVariants.{Numeric}
use Rattle.text.proofs.numeric_length.Given as goal

abbrev pub invariant-loop-i : goal.invariant-loop-i
invariant-loop-i l = length (heard_text Numeric l.groups) ≡ length (trimmed (tab (char_heard Numeric l.groups) l.i))
