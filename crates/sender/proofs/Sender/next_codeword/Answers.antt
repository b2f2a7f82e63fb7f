-- `sender::Sender::next_codeword` meets its contract. Assumes nothing.
use Prim.Native.Nat.{ℕ, ◌+◌}
use mathlib.Core.Path.{ap, ◌∙◌}
use native.Mathlib.Omega.{arith}
use lib.Dec.{ltb}
use lib.ListN.{get_or}
use Rattle.std.specs.Int.{from_bool}
use Rattle.sender.proofs.Search.{flag_is}
use Rattle.sender.proofs.Slot.{sound_count, sound_slot, sound_page, sound_at, message_given}
use Rattle.sender.proofs.Sender.next_codeword.Goals as goal

pub bounds-self-k : goal.bounds-self-k
bounds-self-k c =
    let s = c.args.self.now in
    omega (arith, sound_count s.pages s.cursor c.requires.sound, sound_page s.pages s.cursor c.requires.sound c.requires.running_value)

pub overflow_add-self : goal.overflow_add-self
overflow_add-self c = let s = c.args.self.now in record { fits = omega (arith, sound_slot s.pages s.cursor c.requires.sound) }

pub overflow_add-self-2 : goal.overflow_add-self-2
overflow_add-self-2 c =
    let s = c.args.self.now in
    record { fits = omega (arith, sound_at s.pages s.cursor c.requires.sound c.requires.running_value) }

pub bounds-self-k-2 : goal.bounds-self-k-2
bounds-self-k-2 c =
    let s = c.args.self.now in
    omega (arith, sound_count s.pages s.cursor c.requires.sound, sound_page s.pages s.cursor c.requires.sound c.requires.running_value)

pub bounds-self-at : goal.bounds-self-at
bounds-self-at c = let s = c.args.self.now in sound_at s.pages s.cursor c.requires.sound c.requires.running_value

pub returns : goal.returns
returns c =
    let s = c.args.self.now in
    message_given s.pages s.sent s.cursor c.requires.sound c.requires.running_value c.from-self.result
    (c.from-self.ensures ∙ ap (λ (x : ℕ). from_bool (ltb (s.cursor.word + 1) x)) c.from.ensures ∙ flag_is (ltb (s.cursor.word + 1) (get_or s.pages.lengths s.cursor.page 0)))
    s.words
