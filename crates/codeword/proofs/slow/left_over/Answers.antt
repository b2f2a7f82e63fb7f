use mathlib.Core.Path.{◌≡◌, refl, sym, ap, ap₂, ◌∙◌, subst}
use Prim.Native.Nat.{ℕ, ◌≤◌, ◌<◌, ◌+◌, ◌-◌, ◌*◌, ◌/◌, ◌%◌, ◌^◌}
use native.Mathlib.Numerals.{add-one}
use native.Mathlib.Omega.{arith}
use lib.Bits.{bit_xor, xor_zero_r}
use lib.Pow.{shr-shr}
use Rattle.codeword.specs.Code.{divisor, reduce, remainder}
use Rattle.codeword.proofs.Linear.{remainder_lt}
use Rattle.codeword.proofs.slow.left_over.Goals.{Joined-rest-ge1024, then-rest-ge1024, else-rest-ge1024}
use Rattle.codeword.proofs.slow.left_over.Goals as goal

-- where eleven bits stand, the divisor is taken away
taken : (p : ℕ) → 1024 ≤ p → p < 2048 → bit_xor p divisor ≡ reduce p
unfolding reduce
taken p l h = let once : divisor ≡ p / 1024 * divisor = omega arith in ap (bit_xor p) once

-- and where fewer do, it is not
kept : (p : ℕ) → p < 1024 → p ≡ reduce p
unfolding reduce
kept p h = let none : 0 ≡ p / 1024 * divisor = omega arith in sym (xor_zero_r p) ∙ ap (bit_xor p) none

-- the next bit brought down
turn : (w k r : ℕ) → k < 31 → r ≡ remainder k (w / 2 ^ (32 - k))
    → reduce (r * 2 + w / 2 ^ (31 - k) % 2) ≡ remainder (k + 1) (w / 2 ^ (32 - (k + 1)))
unfolding remainder
turn w k r h e =
    let one : 32 - k ≡ 31 - k + 1 = omega arith in
    let last : 31 - k ≡ 32 - (k + 1) = omega arith in
    ap (λ (x : ℕ). reduce (x * 2 + w / 2 ^ (31 - k) % 2))
    (e ∙ ap (λ (x : ℕ). remainder k (w / 2 ^ x)) one ∙ ap (remainder k) (sym (shr-shr w (31 - k) 1)))
    ∙ ap₂ (λ (j x : ℕ). remainder j (w / 2 ^ x)) (sym (add-one k)) last

reduced : (c : Joined-rest-ge1024)
    → c.if-rest-ge1024.rest ≡ reduce (c.loop-k.rest * 2 + c.args.word / 2 ^ (31 - c.loop-k.k) % 2)
reduced c =
    elim c.if-rest-ge1024.branch [
      | then-rest-ge1024 w ↦ w.rest-is ∙ taken _ w.if-rest-ge1024.true (omega arith)
      | else-rest-ge1024 w ↦ w.rest-is ∙ kept _ w.if-rest-ge1024.false
    ]

pub loop-k-init : goal.loop-k-init
unfolding remainder
loop-k-init c = (omega arith, omega arith, refl)

pub loop-k-preserved : goal.loop-k-preserved
loop-k-preserved c =
    let l = c.loop-k in
    let next = reduced (goal.at.loop-k-preserved c).Joined-rest-ge1024 ∙ turn c.args.word l.k l.rest (omega arith) l.invariant.2 in
    (omega arith, subst (λ (x : ℕ). x < 1024) (sym next) (remainder_lt _ _), next)

pub returns : goal.returns
returns c =
    let end : c.loop-k.k ≡ 31 = omega arith in
    c.loop-k.invariant.2 ∙ ap (λ (j : ℕ). remainder j (c.args.word / 2 ^ (32 - j))) end
