-- `text::ends_in_space` meets its contract. Assumes nothing.
use borrow.Author.Rules.{rules}
use native.Mathlib.Omega.{arith}
use Prim.Native.Nat.{◌-◌}
use lib.ListN.{length, get_or-eq_default}
use Rattle.base.specs.Hex.{bytes_of}
use Rattle.base.proofs.HexLaws.{bytes_length}
use Rattle.text.specs.Coding.{ends_in_space}
use Rattle.text.proofs.ends_in_space.Goals as goal

pub returns-then-n-eq0 : goal.returns-then-n-eq0
unfolding ends_in_space
returns-then-n-eq0 c =
    let t = c.args.text.now in
    rw (c.in-Numeric.is, get_or-eq_default (bytes_of t) 0 {n = length (bytes_of t) - 1} (omega (arith, bytes_length t)))

pub returns-else-n-eq0 : goal.returns-else-n-eq0
unfolding ends_in_space
returns-else-n-eq0 c = rw (c.in-Numeric.is, bytes_length c.args.text.now, c.pair_byte.ensures)

pub returns-in-Alphanumeric : goal.returns-in-Alphanumeric
unfolding ends_in_space
returns-in-Alphanumeric c = search rules
