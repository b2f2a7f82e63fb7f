-- Laws of the bits changed in a slot's word. Assumes nothing.
use mathlib.Core.Path.{◌≡◌, refl, sym, ap, ap₂, ◌∙◌}
use mathlib.Core.Bool.{Bool, true, false, cond}
use Prim.Native.Nat.{ℕ, ◌*◌, ◌/◌, ◌%◌, ◌^◌, ◌≤◌, ◌<◌}
use native.Mathlib.Omega.{arith}
use Rattle.std.specs.Prelude.{None, Some}
use lib.Dec.{eqb, ltb}
use borrow.Author.Tests.{lt-ltb}
use Rattle.base.proofs.Bools.{true_false}
use Rattle.codeword.specs.Answer.{answer, changed_of, changed}
use Rattle.codeword.specs.Code.{idle}
use Rattle.codeword.specs.Nearest.{nearest}
use Rattle.codeword.specs.declared.Corrected.{Corrected}
use Rattle.codeword.proofs.AnswerLaws.{answer_corrected, answer_refused, answer_few}
use Rattle.reader.specs.Meaning.{codeword_meaning, meaning}
use Rattle.reader.specs.Changed.{unless_lost, slot_changed}
use Rattle.reader.specs.Symbols.{said}
use Rattle.reader.specs.declared.Meaning.{Meaning}
use Rattle.reader.specs.declared.Meaning.TheVariants.{Lost, Idle, Address, Message}
use Rattle.reader.proofs.SymbolLaws.{lost_said, is_lost}

-- they are few
kept_few : (m : Meaning) (n : ℕ) → n ≤ 32 → unless_lost m n ≤ 32
kept_few Lost n h = omega arith
kept_few Idle n h = h
kept_few (Address u f) n h = h
kept_few (Message b) n h = h

pub slot_few : (w : ℕ) → slot_changed w ≤ 32
unfolding slot_changed
slot_few w = kept_few (meaning (nearest w)) (changed w) (answer_few w (nearest w))

-- what counts, by the symbol
module _ (x n : ℕ) where
  pub kept : x < 2 ^ 21 → n ≡ unless_lost (said x) n
  unfolding said
  kept h = go (ltb x (2 ^ 20)) (eqb x (idle / 2048)) (ltb x (2 ^ 21)) (lt-ltb x (2 ^ 21) h)
    where
      go : (low rests high : Bool) → high ≡ true
          → n ≡ unless_lost (cond low (cond rests Idle (Address (x / 4 * 8) (x % 4))) (cond high (Message (x % 2 ^ 20)) Lost)) n
      go true true high e = refl
      go true false high e = refl
      go false rests true e = refl
      go false rests false e = absurd (true_false refl (sym e))

  pub lost : 2 ^ 21 ≤ x → 0 ≡ unless_lost (said x) n
  lost h = ap (λ (m : Meaning). unless_lost m n) (is_lost x h)

module _ (w : ℕ) where
  pub refused_word_lem : None ≡ answer w (nearest w) → (said 0x200000 ≡ meaning (nearest w)) × (0 ≡ slot_changed w)
  unfolding slot_changed
  refused_word_lem a = let e = answer_refused w (nearest w) a in (lost_said ∙ sym (ap meaning e), rw e)

  pub corrected_word : (r : Corrected) → Some r ≡ answer w (nearest w) → (x m : ℕ) → said x ≡ codeword_meaning r.codeword.0
      → m ≡ unless_lost (said x) r.changed → (said x ≡ meaning (nearest w)) × (m ≡ slot_changed w)
  unfolding slot_changed
  corrected_word r a x m s u =
      let says : said x ≡ meaning (nearest w) = s ∙ sym (ap meaning (answer_corrected w (nearest w) r a)) in
      (says, u ∙ ap₂ unless_lost says (ap changed_of a))
