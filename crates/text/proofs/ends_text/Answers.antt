-- `text::ends_text` meets its contract. Assumes nothing.
use mathlib.Core.Path.{◌≡◌}
use mathlib.Core.Logic.{⊎_elim, inl, inr}
use borrow.Author.Tests.{ne_eqb}
use Rattle.text.specs.Coding.{bits_from, turned_of}
use Rattle.text.proofs.CharLaws.{ends_bits}
use Rattle.text.proofs.ends_text.Goals as goal

pub returns-in-0 : goal.returns-in-0
unfolding turned_of bits_from
returns-in-0 c =
    let b = c.args.bits in
    ⊎_elim (λ (e : b ≡ 0). rw e) (⊎_elim (λ (e : b ≡ 16). rw e) (λ (e : b ≡ 96). rw e)) c.in-0.is

pub returns-in_default : goal.returns-in_default
returns-in_default c =
    let b = c.args.bits in
    let r = c.in_default.in_default-own.rest.1 in
    simp (ne_eqb b 0 (λ e. r (inl e)), ne_eqb b 16 (λ e. r (inr (inl e))), ne_eqb b 96 (λ e. r (inr (inr e)))) at (ends_bits b c.requires)
