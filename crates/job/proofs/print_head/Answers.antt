-- `job::print_head` meets its contract: each byte goes behind what is written already. Assumes nothing.
use mathlib.Core.Path.{◌≡◌, sym, ap, ◌∙◌}
use mathlib.Core.List.{[], ◌∷◌, ◌++◌, append_assoc}
use Prim.Native.Nat.{ℕ, ◌%◌}
use native.Mathlib.Omega.{arith}
use lib.ListN.{length, drop, length-append}
use lib.Seq.{length-take-le}
use Rattle.base.specs.Hex.{digit_of, digits_of}
use Rattle.base.specs.Lists.{over}
use Rattle.base.proofs.HexLaws.{digits_length}
use Rattle.base.proofs.ListLaws.{over_byte}
use Rattle.job.proofs.print_head.Goals as goal

pub slice_bounds-write_digits-end-2 : goal.slice_bounds-write_digits-end-2
slice_bounds-write_digits-end-2 c = sym (length-take-le 6 c.args.out.now (omega arith))

pub returns : goal.returns
returns c =
    let a = c.args in
    let old = a.out.now in
    let w = c.write_digits in
    let six = digits_of 6 a.identity in
    let size : length six ≡ 6 = digits_length 6 a.identity in
    let digits : w.new.out ≡ six = w.ensures ∙ ap (λ (k : ℕ). digits_of k a.identity) (length-take-le 6 old (omega arith)) in
    let first : w.new.out ++ drop 6 old ≡ over old six = rw (digits, size) in
    let second = over_byte old six 6 32 first size (omega arith) in
    over_byte old (six ++ (32 ∷ [])) 7 c.hex_digit.result second (omega (arith, length-append six (32 ∷ []))) (omega arith)
    ∙ ap (over old) (append_assoc six (32 ∷ []) (c.hex_digit.result ∷ []) ∙ ap (λ (d : ℕ). six ++ (32 ∷ d ∷ [])) (c.hex_digit.ensures ∙ ap (λ (k : ℕ). digit_of (k % 16)) c.from.ensures))
