use mathlib.Core.Path.{◌≡◌, sym, ap, ◌∙◌}
use mathlib.Core.List.{List}
use Prim.Native.Nat.{ℕ, suc, ◌-◌, ◌/◌, ◌%◌, ◌^◌, ◌<◌}
use native.Mathlib.Nat.{div-one}
use native.Mathlib.Omega.{arith}
use lib.ListN.{length, set, drop, length-set, drop_of_length-le}
use lib.Seq.{drop-cons, drop-set-lt, get_or-set_same}
use Rattle.base.specs.Hex.{digit_of, digits_of}
use Rattle.base.proofs.HexLaws.{digits_more, shift_digit}
use Rattle.base.proofs.write_digits.Goals as goal

-- one digit more in front of those that stand
front : (out : List ℕ) (j d k n : ℕ) → j < length out → drop (suc j) out ≡ digits_of k n → d ≡ digit_of (n / 16 ^ k % 16) → drop j (set out j d) ≡ digits_of (suc k) n
front out j d k n h e q =
    drop-cons (set out j d) j 0 (omega (arith, length-set out j d))
    ∙ rw (get_or-set_same out j d 0 h, drop-set-lt (suc j) out j d (omega arith), e) (digits_more k n q)

pub loop-i-init : goal.loop-i-init
unfolding digits_of
loop-i-init c =
    let out = c.args.out.now in
    let none : length out - length out ≡ 0 = omega arith in
    (rw none (sym (div-one c.args.number)), rw none (drop_of_length-le out {i = length out} (omega arith)))

pub loop-i-preserved : goal.loop-i-preserved
loop-i-preserved c =
    let l = c.loop-i in
    let out₀ = c.args.out.now in
    let n = c.args.number in
    let k = length out₀ - l.i in
    let j = l.i - 1 in
    let more : length out₀ - j ≡ suc k = omega arith in
    let next : suc j ≡ l.i = omega arith in
    let digit : c.hex_digit.result ≡ digit_of (n / 16 ^ k % 16) = c.hex_digit.ensures ∙ ap (λ (x : ℕ). digit_of (x % 16)) l.invariant.0 in (
      rw (more, l.invariant.0) (shift_digit k n),
      rw more (front l.out j c.hex_digit.result k n (omega arith) (rw next l.invariant.1) digit),
    )

pub returns : goal.returns
returns c =
    let l = c.loop-i in
    let none : l.i ≡ 0 = omega arith in
    let all : length c.args.out.now - 0 ≡ length c.args.out.now = omega arith in
    rw (none, all) at l.invariant.1
