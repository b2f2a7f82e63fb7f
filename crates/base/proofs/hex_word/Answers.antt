use Prim.Native.Nat.{◌+◌}
use mathlib.Core.Path.{◌≡◌, sym, ◌∙◌}
use native.Mathlib.Omega.{arith}
use lib.ListN.{get_or, drop}
use Rattle.base.specs.Hex.{is_hex, hex_number}
use Rattle.base.proofs.LeadingLaws.{leading_more, leading_stop, leading_end}
use Rattle.base.proofs.HexLaws.{hex_small, value_none, value_some, number_more, number_end, number_low, word_number, word_none}
use Rattle.base.proofs.hex_word.Goals as goal

pub returns-then-d-eq16 : goal.returns-then-d-eq16
returns-then-d-eq16 c =
    let s = c.args.s.now in
    let stop = leading_stop is_hex s c.loop-b.b-index (omega arith) (value_none (get_or s c.loop-b.b-index 0) (sym c.digit_value-d.ensures ∙ c.if-d-eq16.true)) in
    word_none s (λ e. omega arith)

pub overflow_add-n : goal.overflow_add-n
overflow_add-n c =
    let b = get_or c.args.s.now c.loop-b.b-index 0 in
    let e = c.digit_value-d.ensures in
    omega (arith, hex_small b, (value_some b (λ f. c.if-d-eq16.false (e ∙ f))).1, c.from.ensures)

pub loop-b-preserved : goal.loop-b-preserved
loop-b-preserved c =
    let l = c.loop-b in
    let s = c.args.s.now in
    let b = get_or s l.b-index 0 in
    let e = c.digit_value-d.ensures in
    let d = value_some b (λ f. c.if-d-eq16.false (e ∙ f)) in (
      omega (arith, leading_more is_hex s l.b-index (omega arith) d.0),
      rw (c.from.ensures ∙ e ∙ d.1)
          (l.invariant.1 ∙ rw (number_more l.n s l.b-index (omega arith)) (number_low l.n b (drop (l.b-index + 1) s))),
    )

pub returns : goal.returns
returns c =
    let l = c.loop-b in
    let s = c.args.s.now in
    let last : hex_number l.n (drop l.b-index s) ≡ l.n = number_end l.n s l.b-index c.loop-b-test.false in
    word_number s (omega (arith, leading_end is_hex s l.b-index c.loop-b-test.false)) (omega (arith, l.invariant.1))
