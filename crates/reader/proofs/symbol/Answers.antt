-- `reader::symbol` meets its contract. Assumes nothing.
use mathlib.Core.Path.{sym, ap, ◌∙◌}
use Prim.Native.Nat.{ℕ, ◌/◌, ◌*◌}
use native.Mathlib.Omega.{arith}
use Rattle.job.specs.Line.{is_reserved}
use Rattle.reader.specs.Symbols.{said}
use Rattle.reader.proofs.SymbolLaws.{message_said, idle_said, reserved_said, address_said}
use Rattle.reader.proofs.symbol.Goals as goal

pub returns-then-bits-ge1048576 : goal.returns-then-bits-ge1048576
returns-then-bits-ge1048576 c =
    let w = c.word-bits in
    let x = c.args.c.0 in
    ap (λ (v : ℕ). said (v / 2048)) w.ensures ∙ message_said x (omega (arith, w.ensures)) (omega (arith, w.ensures))

pub returns-then-is_idle : goal.returns-then-is_idle
returns-then-is_idle c =
    let w = c.word-bits in
    let x = c.args.c.0 in
    ap (λ (v : ℕ). said (v / 2048)) w.ensures ∙ idle_said x (sym c.is_idle.ensures ∙ c.if-is_idle.true)

pub returns-then-is_reserved : goal.returns-then-is_reserved
returns-then-is_reserved c =
    let w = c.word-bits in
    let x = c.args.c.0 in
    reserved_said x (omega (arith, w.ensures)) (sym c.is_idle.ensures ∙ c.if-is_idle.false)
    (ap (λ (v : ℕ). is_reserved (v / 2048 / 4 * 8)) (sym w.ensures) ∙ sym c.is_reserved.ensures ∙ c.if-is_reserved.true)

pub returns : goal.returns
returns c =
    let w = c.word-bits in
    let x = c.args.c.0 in
    ap (λ (v : ℕ). said (v / 2048)) w.ensures
    ∙ address_said x (omega (arith, w.ensures))
    (ap (λ (v : ℕ). is_reserved (v / 2048 / 4 * 8)) (sym w.ensures) ∙ sym c.is_reserved.ensures ∙ c.if-is_reserved.false)
