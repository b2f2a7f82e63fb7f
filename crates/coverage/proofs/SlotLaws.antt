-- A slot's word once it is read, and its place among the counts. Assumes nothing.
use mathlib.Core.Path.{◌≡◌, sym, ap, ◌∙◌}
use mathlib.Core.List.{List}
use Prim.Native.Nat.{ℕ, ◌≤◌, ◌<◌}
use native.Mathlib.Omega.{arith}
use Rattle.std.specs.Prelude.{None, Some}
use Rattle.codeword.specs.Answer.{answer, changed_of, changed}
use Rattle.codeword.specs.Nearest.{nearest}
use Rattle.codeword.specs.declared.Corrected.{Corrected}
use Rattle.codeword.proofs.AnswerLaws.{answer_corrected, answer_refused}
use Rattle.codeword.proofs.NearestLaws.{changed_few}
use Rattle.reader.specs.Meaning.{codeword_meaning, meaning}
use Rattle.reader.specs.Reading.{slot_word}
use Rattle.reader.specs.declared.Meaning.{Meaning}
use Rattle.reader.specs.declared.Meaning.TheVariants.{Lost, Idle, Address, Message}
use Rattle.coverage.specs.Tally.{class_by, slot_class, slot_place}
use Rattle.coverage.specs.Progress.{slot_read}

class_few : (m : Meaning) (n : ℕ) → n ≤ 2 → class_by m n ≤ 3
class_few Lost n h = omega arith
class_few Idle n h = omega arith
class_few (Address u f) n h = omega arith
class_few (Message b) n h = omega arith

pub slot_class_lem : (w : ℕ) → slot_class w ≤ 3
unfolding slot_class
slot_class_lem w = class_few (meaning (nearest w)) (changed w) (changed_few w)

pub slot_place_lem : (words : List ℕ) (s : ℕ) → slot_place words s < 32
slot_place_lem words s = omega (arith, slot_class_lem (slot_word words s))

-- by the answer of the correction
module _ (w : ℕ) where
  pub slot_refused : None ≡ answer w (nearest w) → record { class = 3; says = Lost } ≡ slot_read w
  unfolding slot_class
  slot_refused a = rw (answer_refused w (nearest w) a)

  pub slot_corrected : (r : Corrected) → Some r ≡ answer w (nearest w) → (m : Meaning) (k : ℕ) → m ≡ codeword_meaning r.codeword.0 → k ≡ class_by m r.changed
      → record { class = k; says = m } ≡ slot_read w
  unfolding slot_class
  slot_corrected r a m k says class =
      let same : m ≡ meaning (nearest w) = says ∙ ap meaning (sym (answer_corrected w (nearest w) r a)) in
      rw (class, same, ap changed_of a)
