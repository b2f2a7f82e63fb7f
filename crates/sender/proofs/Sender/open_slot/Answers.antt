-- `sender::Sender::open_slot` meets its contract. Assumes nothing.
use mathlib.Core.Path.{sym, ◌∙◌}
use native.Mathlib.Omega.{arith}
use lib.Dec.{ltb}
use lib.ListN.{get_or}
use Rattle.sender.proofs.Search.{first_some, first_none, flag_is}
use Rattle.sender.proofs.Slot.{sound_count, sound_slot, found_is, idle_given, address_given}
use Rattle.sender.proofs.Sender.open_slot.Goals as goal

pub page_to_start-start-requires : goal.page_to_start-start-requires
page_to_start-start-requires c = let s = c.args.self.now in sound_count s.pages s.cursor c.requires.sound

pub overflow_add-self : goal.overflow_add-self
overflow_add-self c = let s = c.args.self.now in record { fits = omega (arith, sound_slot s.pages s.cursor c.requires.sound) }

pub returns-in_default : goal.returns-in_default
returns-in_default c =
    let s = c.args.self.now in
    idle_given s.pages s.sent s.cursor c.requires.running_value (omega (arith, first_none _ _ (sym c.page_to_start-start.ensures ∙ c.in_default.is), found_is s.pages s.sent s.cursor)) s.words c.word.ensures

pub bounds-self-k : goal.bounds-self-k
bounds-self-k c =
    let s = c.args.self.now in
    omega (arith, sound_count s.pages s.cursor c.requires.sound, (first_some _ _ c.in-Some.k (sym c.page_to_start-start.ensures ∙ c.in-Some.is)).1)

pub bounds-self-k-2 : goal.bounds-self-k-2
bounds-self-k-2 c =
    let s = c.args.self.now in
    omega (arith, sound_count s.pages s.cursor c.requires.sound, (first_some _ _ c.in-Some.k (sym c.page_to_start-start.ensures ∙ c.in-Some.is)).1)

pub bounds-self-k-3 : goal.bounds-self-k-3
bounds-self-k-3 c =
    let s = c.args.self.now in
    omega (arith, sound_count s.pages s.cursor c.requires.sound, (first_some _ _ c.in-Some.k (sym c.page_to_start-start.ensures ∙ c.in-Some.is)).1)

pub returns : goal.returns
returns c =
    let s = c.args.self.now in
    let f = first_some _ _ c.in-Some.k (sym c.page_to_start-start.ensures ∙ c.in-Some.is) in
    address_given s.pages s.sent s.cursor c.requires.running_value c.in-Some.k c.from-self.result (f.0 ∙ found_is s.pages s.sent s.cursor) f.1
    (c.from-self.ensures ∙ flag_is (ltb 0 (get_or s.pages.lengths c.in-Some.k 0)))
    s.words
