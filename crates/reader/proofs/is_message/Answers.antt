-- `reader::is_message` meets its contract. Assumes nothing.
use mathlib.Core.Bool.{false}
use mathlib.Core.Path.{◌≡◌, refl, sym, ap, ◌∙◌}
use Prim.Native.Nat.{ℕ}
use Rattle.reader.specs.Symbols.{is_message}
use Rattle.reader.specs.declared.Meaning.{Meaning}
use Rattle.reader.specs.declared.Meaning.TheVariants.{Lost, Idle, Address, Message}
use Rattle.reader.proofs.is_message.Goals as goal

pub returns-in-Message : goal.returns-in-Message
unfolding is_message
returns-in-Message c = ap is_message (sym c.in-Message.is ∙ c.said.ensures)

other : (m : Meaning) → ((b : ℕ) → m ≡ Message b → ⊥) → false ≡ is_message m
unfolding is_message
other Lost n = refl
other Idle n = refl
other (Address i f) n = refl
other (Message b) n = absurd (n b refl)

pub returns-in_default : goal.returns-in_default
returns-in_default c = other _ c.in_default.not-Message ∙ ap is_message c.said.ensures
