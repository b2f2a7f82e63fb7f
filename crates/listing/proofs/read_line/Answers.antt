-- `listing::read_line` meets its contract. Assumes nothing.
use Rattle.std.proofs.Common.{rules, ◌≡◌, arith, Some, None}
use Rattle.listing.specs.Scan.{line_from, one_of, two_of}
use Rattle.listing.proofs.Decoding.{one_missing, one_written, two_missing, two_written}
use Rattle.listing.proofs.read_line.Goals as goal

pub returns-in_err-words : goal.returns-in_err-words
returns-in_err-words c =
    let a = c.args in
    let none : one_of (line_from a.s.now 0) ≡ None = search rules in
    let read = one_missing a.q (line_from a.s.now 0) a.words.now c.if-q-eq0.true none in
    record { value = search rules; words_after = read.1 }

pub returns-then-q-eq0 : goal.returns-then-q-eq0
returns-then-q-eq0 c =
    let a = c.args in
    let some : one_of (line_from a.s.now 0) ≡ Some c.in_ok-words.field-0 = search rules in
    let read = one_written a.q (line_from a.s.now 0) a.words.now c.if-q-eq0.true some (omega arith) in
    record { value = read.0; words_after = read.1 }

pub returns-in_err-one : goal.returns-in_err-one
returns-in_err-one c =
    let a = c.args in
    let none : two_of (line_from a.s.now 0) ≡ None = search rules in
    let read = two_missing a.q (line_from a.s.now 0) a.words.now c.if-q-eq0.false none in
    record { value = search rules; words_after = read.1 }

pub returns : goal.returns
returns c =
    let a = c.args in
    let some : two_of (line_from a.s.now 0) ≡ Some c.in_ok-one.field-0 = search rules in
    let read = two_written a.q (line_from a.s.now 0) a.words.now c.if-q-eq0.false some c.requires in
    record { value = read.0; words_after = read.1 }
