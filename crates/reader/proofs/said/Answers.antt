-- `reader::said` meets its contract. Assumes nothing.
use Rattle.reader.proofs.SymbolLaws.{is_lost, is_message_lem, is_idle, is_address_lem}
use Rattle.reader.proofs.said.Goals as goal

pub returns-then-symbol-ge-LOST : goal.returns-then-symbol-ge-LOST
returns-then-symbol-ge-LOST c = is_lost c.args.symbol c.if-symbol-ge-LOST.true

pub returns-then-symbol-ge1048576 : goal.returns-then-symbol-ge1048576
returns-then-symbol-ge1048576 c = is_message_lem c.args.symbol c.if-symbol-ge1048576.true c.if-symbol-ge-LOST.false

pub returns-then-symbol-eq-IDLE : goal.returns-then-symbol-eq-IDLE
returns-then-symbol-eq-IDLE c = is_idle c.args.symbol c.if-symbol-eq-IDLE.true

pub returns : goal.returns
returns c = is_address_lem c.args.symbol c.if-symbol-ge1048576.false c.if-symbol-eq-IDLE.false
