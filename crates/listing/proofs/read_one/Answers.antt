-- `listing::read_one` meets its contract: the newline stands behind eight digits, and these are the word. Assumes nothing.
use Rattle.std.proofs.Common.{rules, tests, ◌≤◌, length, sym, arith}
use lib.ListN.{get_or-eq_default}
use Rattle.listing.proofs.FirstLine.{one_open, one_is}
use Rattle.listing.proofs.read_one.Goals as goal

pub returns-in_err-get : goal.returns-in_err-get
returns-in_err-get c =
    let s = c.args.s.now in
    let none : length s ≤ 8 = search (rules, tests) in
    let stops = one_open s (λ e. omega (arith, get_or-eq_default s 0 {n = 8} none)) in
    search rules

pub returns-then-branch-ne10 : goal.returns-then-branch-ne10
returns-then-branch-ne10 c = sym (one_open c.args.s.now (λ e. search rules))

pub returns : goal.returns
returns c = sym (one_is c.args.s.now (search rules) _ (sym c.hex_word.ensures))
