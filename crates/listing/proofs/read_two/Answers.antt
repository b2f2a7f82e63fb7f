-- `listing::read_two` meets its contract: the newline stands behind eight digits, a space and eight digits, and these are the words.
-- Assumes nothing.
use Rattle.std.proofs.Common.{rules, tests, ◌≤◌, length, sym, ◌∙◌, arith}
use lib.ListN.{get_or-eq_default}
use Rattle.listing.proofs.FirstLine.{two_open, two_apart, two_first, two_second, two_some}
use Rattle.listing.proofs.read_two.Goals as goal

pub returns-in_err-get : goal.returns-in_err-get
returns-in_err-get c =
    let s = c.args.s.now in
    let none : length s ≤ 17 = search (rules, tests) in
    let stops = two_open s (λ e. omega (arith, get_or-eq_default s 0 {n = 17} none)) in
    search rules

pub returns-then-branch-ne10 : goal.returns-then-branch-ne10
returns-then-branch-ne10 c = sym (two_open c.args.s.now (λ e. search rules))

pub returns-then-s-ne32 : goal.returns-then-s-ne32
returns-then-s-ne32 c =
    let newline = c.if-branch-ne10.false in
    sym (two_apart c.args.s.now (search rules) c.if-s-ne32.true)

pub returns-in_err-one : goal.returns-in_err-one
returns-in_err-one c =
    let stops = two_first c.args.s.now (search rules) c.if-s-ne32.false (sym c.hex_word.ensures ∙ c.in_err-one.was) in
    search rules

pub returns-in_err-two : goal.returns-in_err-two
returns-in_err-two c =
    let stops = two_second c.args.s.now (search rules) c.if-s-ne32.false (sym c.hex_word-2.ensures ∙ c.in_err-two.was) in
    search rules

pub returns : goal.returns
returns c =
    sym (two_some c.args.s.now (search rules) c.if-s-ne32.false c.in_ok-one.one c.in_ok-two.two
    (sym c.hex_word.ensures ∙ c.in_ok-one.was) (sym c.hex_word-2.ensures ∙ c.in_ok-two.was))
