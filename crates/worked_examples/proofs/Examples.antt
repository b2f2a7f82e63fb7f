-- The marked examples of document 01 hold: computed by the definitions. Assumes nothing.
use mathlib.Core.Path.{refl}
use lib.Count.{ones_in}
use Rattle.base.specs.Lists.{tab}
use Rattle.codeword.specs.Code.{reduce, remainder, weight, with_parity, codeword, obeys}
use Rattle.codeword.specs.Nearest.{distance, words, errors, first_codeword, nearest}
use Rattle.text.specs.Numeric.{numeric_of}
use Rattle.text.specs.Coding.{groups_in, group_of, bits_from, bit_of}
use Rattle.worked_examples.specs.Examples.{AllHold, examples}

pub examples_hold : AllHold examples
unfolding distance nearest first_codeword errors words obeys codeword with_parity remainder reduce weight ones_in groups_in group_of bits_from bit_of numeric_of tab
examples_hold = (refl, (refl, (refl, (refl, (refl, (refl, (refl, (refl, (refl, (refl, (refl, (refl, tt))))))))))))
