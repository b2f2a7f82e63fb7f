use mathlib.Core.Path.{◌≡◌}
use mathlib.Core.List.{List}
use Prim.Native.Nat.{ℕ, ◌+◌}
use native.Mathlib.Omega.{arith}
use lib.ListN.{length}
use borrow.Author.Count.{below_none}
use Rattle.base.proofs.SearchLaws.{sum_none, sum_next, sum_most}
use Rattle.codeword.specs.Nearest.{nearest}
use Rattle.reader.specs.Meaning.{meaning}
use Rattle.reader.specs.Changed.{slot_changed, slots_changed}
use Rattle.reader.specs.Reading.{slot_word}
use Rattle.reader.proofs.ChangeLaws.{slot_few}
use Rattle.reader.proofs.SymbolLaws.{one_said}
use Rattle.reader.proofs.read_slots.Goals as goal

pub loop-s-init : goal.loop-s-init
loop-s-init c = (below_none _, sum_none _)

-- the sum with this slot's bits
next : (words : List ℕ) (s : ℕ) {changed here : ℕ} → changed ≡ slots_changed (slot_word words) s → here ≡ slot_changed (slot_word words s)
    → changed + here ≡ slots_changed (slot_word words) (s + 1)
next words s sum e = sum_next _ s sum e

pub overflow_add-changed : goal.overflow_add-changed
overflow_add-changed c =
    let word = slot_word c.args.words.now in
    omega (arith, next c.args.words.now c.loop-s.s c.loop-s.invariant.1 c.read_word-r.ensures.changed_value, sum_most (λ s. slot_changed (word s)) 32 (c.loop-s.s + 1) (λ s. slot_few (word s)), c.requires.symbols_len_bound_2)

pub loop-s-preserved : goal.loop-s-preserved
loop-s-preserved c =
    let l = c.loop-s in
    let words = c.args.words.now in (
      one_said (λ k. meaning (nearest (slot_word words k))) l.symbols l.s _ (omega (arith, l.auto.symbols)) l.invariant.0 c.read_word-r.ensures.symbol_value,
      next words l.s l.invariant.1 c.read_word-r.ensures.changed_value,
    )

pub returns : goal.returns
returns c =
    let l = c.loop-s in
    let all : l.s ≡ length c.args.symbols.now = omega (arith, l.auto.s-end, c.loop-s-test.false) in
    record {
      tells = record { count = l.auto.symbols; each = λ s h. l.invariant.0 s (omega arith) };
      value = rw all at l.invariant.1;
    }
