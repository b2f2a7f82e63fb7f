-- `base::pair_byte` meets its contract: the two digits are the pair at k, and behind the last pair stands the fill. Assumes nothing.
use mathlib.Core.Path.{sym}
use native.Mathlib.Omega.{arith}
use Prim.Native.Nat.{◌+◌, ◌*◌}
use lib.ListN.{get_or}
use Rattle.base.specs.Hex.{bytes_of}
use lib.ListN.{get_or-eq_default}
use Rattle.base.proofs.HexLaws.{hex_small, bytes_at, bytes_length}
use Rattle.base.proofs.pair_byte.Goals as goal

pub overflow_mul-result : goal.overflow_mul-result
overflow_mul-result c =
    let a = c.args in
    omega (arith, hex_small (get_or a.pairs.now (2 * a.k) 0), c.hex_value-high.ensures)

pub overflow_add-result : goal.overflow_add-result
overflow_add-result c =
    let a = c.args in
    omega (arith, hex_small (get_or a.pairs.now (2 * a.k) 0), hex_small (get_or a.pairs.now (2 * a.k + 1) 0), c.hex_value-high.ensures)

pub returns-then-k-pairs : goal.returns-then-k-pairs
returns-then-k-pairs c =
    let a = c.args in
    rw (c.hex_value-high.ensures, c.hex_value-low.ensures) (sym (bytes_at a.pairs.now a.k a.fill (omega arith)))

pub returns-else-k-pairs : goal.returns-else-k-pairs
returns-else-k-pairs c = let a = c.args in sym (get_or-eq_default (bytes_of a.pairs.now) a.fill (omega (arith, bytes_length a.pairs.now)))
