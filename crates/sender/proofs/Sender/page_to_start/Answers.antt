-- `sender::Sender::page_to_start` meets its contract. Assumes nothing.
use mathlib.Core.Path.{◌≡◌}
use Prim.Native.Nat.{ℕ}
use mathlib.Core.Bool.{Bool, true, false}
use lib.ListN.{get_or}
use Rattle.std.proofs.Common.{rules}
use Rattle.std.proofs.lemmas.Iterator.{first_from_Range}
use Rattle.placement.specs.Placement.{may_start}
use Rattle.sender.specs.Step.{is_set}
use Rattle.sender.proofs.Search.{first_is}
use Rattle.sender.proofs.Sender.page_to_start.Goals as goal

pub returns : goal.returns
returns c =
    let s = c.args.self.now in
    let may : ℕ → Bool = λ i. may_start (get_or s.sent i 0) (get_or s.pages.frames i 0) (get_or s.pages.lengths i 0) (is_set s.cursor.message) s.cursor.slot in
    first_is may s.pages.count c.find.result
    (first_from_Range _ _ _ _ (λ i. may i ≡ true) (λ i. may i ≡ false) c.find.ensures.ran
    (λ x q k. search rules)
    (λ x q k. (search rules, search rules)))
