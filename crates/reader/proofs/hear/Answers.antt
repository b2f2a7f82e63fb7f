-- `reader::hear` meets its contract. Assumes nothing.
use mathlib.Core.Path.{sym, ◌∙◌}
use native.Mathlib.Omega.{arith}
use Rattle.reader.proofs.Keeping.{lost_next, idle_next, address_next}
use Rattle.reader.proofs.Runs.{message_next}
use Rattle.reader.proofs.hear.Goals as goal

pub close-q-requires : goal.close-q-requires
close-q-requires c =
    let pre = c.requires in record {
      buffers = pre.buffers;
      s_in_bounds = omega (arith, pre.s_in_bounds);
      kept = pre.kept;
    }

pub close-requires : goal.close-requires
close-requires c =
    let pre = c.requires in record {
      buffers = pre.buffers;
      s_in_bounds = omega (arith, pre.s_in_bounds);
      kept = pre.kept;
    }

pub close-q-requires-in-Address : goal.close-q-requires-in-Address
close-q-requires-in-Address c =
    let pre = c.requires in record {
      buffers = pre.buffers;
      s_in_bounds = omega (arith, pre.s_in_bounds);
      kept = pre.kept;
    }

pub returns-in-Lost : goal.returns-in-Lost
returns-in-Lost c =
    let a = c.args in
    let says = sym c.said.ensures ∙ c.in-Lost.is in
    lost_next a.symbols.now a.s c.close-q.result says c.close-q.ensures

pub returns-in-Idle : goal.returns-in-Idle
returns-in-Idle c =
    let a = c.args in
    let says = sym c.said.ensures ∙ c.in-Idle.is in
    idle_next a.symbols.now a.s c.close.result says c.close.ensures

pub returns-in-Address : goal.returns-in-Address
returns-in-Address c =
    let a = c.args in
    let says = sym c.said.ensures ∙ c.in-Address.is in
    address_next a.symbols.now a.s c.close-q-in-Address.result _ _ says c.close-q-in-Address.ensures

pub hear_messages-requires : goal.hear_messages-requires
hear_messages-requires c = omega (arith, c.requires.kept.few_orphans, c.requires.s_in_bounds, c.requires.buffers.slots)

pub returns-in-Message : goal.returns-in-Message
returns-in-Message c =
    let a = c.args in
    let says = sym c.said.ensures ∙ c.in-Message.is in
    rw c.hear_messages.ensures (message_next a.symbols.now a.s a.p _ says c.requires.s_in_bounds c.requires.kept)
