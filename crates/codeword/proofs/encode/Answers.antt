-- `codeword::encode` meets its contract. Assumes nothing.
use mathlib.Core.Path.{ap, ◌∙◌}
use Prim.Native.Nat.{ℕ, ◌+◌, ◌*◌, ◌%◌}
use native.Mathlib.Omega.{arith}
use Rattle.codeword.specs.Code.{weight, with_parity, codeword}
use Rattle.codeword.proofs.Linear.{remainder_lt}
use Rattle.codeword.proofs.encode.Goals as goal

pub overflow_add-checked : goal.overflow_add-checked
overflow_add-checked c = omega (arith, remainder_lt 31 (c.args.information * 1024))

pub overflow_mul-result : goal.overflow_mul-result
overflow_mul-result c = omega (arith, remainder_lt 31 (c.args.information * 1024))

pub overflow_add-result : goal.overflow_add-result
overflow_add-result c = omega (arith, remainder_lt 31 (c.args.information * 1024))

pub returns : goal.returns
unfolding codeword with_parity
returns c =
    let m = c.args.information in
    let p = m * 1024 + c.remainder.result in
    ap (λ (x : ℕ). p * 2 + x) c.parity.ensures
    ∙ ap (λ (r : ℕ). (m * 1024 + r) * 2 + weight (m * 1024 + r) % 2) c.remainder.ensures
