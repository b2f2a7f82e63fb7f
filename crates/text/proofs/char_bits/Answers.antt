-- `text::char_bits` meets its contract. Assumes nothing.
use mathlib.Core.Path.{sym, ap, ◌∙◌}
use Prim.Native.Nat.{ℕ, ◌+◌, ◌*◌, ◌%◌}
use native.Mathlib.Omega.{arith}
use lib.ListN.{get_or, get_or-eq_default}
use Rattle.base.specs.Hex.{hex_of, bytes_of}
use Rattle.base.proofs.HexLaws.{hex_small, bytes_at, bytes_length}
use Rattle.text.specs.Coding.{value_of, bits_from, turned_of}
use Rattle.text.specs.declared.Coding.TheVariants.{Numeric}
use Rattle.text.proofs.PackLaws.{turned_cut, turned_small, turned_pair}
use Rattle.text.proofs.char_bits.Goals as goal

pub returns-then-text-k : goal.returns-then-text-k
unfolding turned_of bits_from
returns-then-text-k c =
    let a = c.args in
    rw (c.in-Alphanumeric.is, get_or-eq_default (bytes_of a.text.now) 0 {n = a.k} (omega (arith, bytes_length a.text.now)))

pub overflow_mul-result : goal.overflow_mul-result
overflow_mul-result c =
    let a = c.args in
    omega (arith, c.turned_digit.ensures, turned_small 4 (hex_of (get_or a.text.now (2 * a.k + 1) 0)))

pub overflow_add-result : goal.overflow_add-result
overflow_add-result c =
    let a = c.args in
    omega (arith, c.turned_digit.ensures, turned_small 4 (hex_of (get_or a.text.now (2 * a.k + 1) 0)))

pub returns-in-Numeric : goal.returns-in-Numeric
returns-in-Numeric c =
    let a = c.args in
    let b = get_or (bytes_of a.text.now) a.k 32 in
    let value = c.from-value.ensures ∙ c.value_or_zero.ensures ∙ ap (value_of Numeric) c.pair_byte.ensures in
    rw c.in-Numeric.is (c.from.ensures ∙ c.turned_bits.ensures ∙ ap (λ (v : ℕ). turned_of 4 (v % 16)) value ∙ turned_cut 4 (value_of Numeric b))

pub returns-else-text-k : goal.returns-else-text-k
returns-else-text-k c =
    let a = c.args in
    let t = a.text.now in
    rw (c.in-Alphanumeric.is, c.turned_digit.ensures, c.turned_digit-in-Alphanumeric.ensures, bytes_at t a.k 0 (omega arith))
    (sym (turned_pair (hex_of (get_or t (2 * a.k) 0)) (hex_of (get_or t (2 * a.k + 1) 0)) (hex_small (get_or t (2 * a.k + 1) 0))))
