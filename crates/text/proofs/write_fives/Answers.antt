use mathlib.Core.Path.{◌≡◌, refl, ap, ◌∙◌}
use mathlib.Core.List.{List}
use native.Mathlib.Omega.{arith}
use Prim.Native.Nat.{ℕ, ◌*◌, ◌%◌, ◌^◌, ◌≤◌}
use lib.ListN.{length, take, drop, length-take}
use Rattle.base.specs.Hex.{hex_number}
use Rattle.base.proofs.HexLaws.{number_fits}
use Rattle.base.proofs.ListLaws.{tab_turn, tab_full}
use Rattle.text.specs.Fives.{five_at}
use Rattle.text.proofs.write_fives.Goals as goal

pub loop-g-init : goal.loop-g-init
loop-g-init c = refl

-- the number of five digits fits a word
five : (digits : List ℕ) (g : ℕ) {part : List ℕ} {n : ℕ} → part ≡ take 5 (drop (5 * g) digits) → n ≡ hex_number 0 part % 2 ^ 32 → n ≡ five_at digits g
five digits g e q =
    let few : length (take 5 (drop (5 * g) digits)) ≤ 8 = omega (arith, length-take 5 (drop (5 * g) digits)) in
    q ∙ ap (λ (s : List ℕ). hex_number 0 s % 2 ^ 32) e ∙ number_fits (take 5 (drop (5 * g) digits)) few

pub loop-g-preserved : goal.loop-g-preserved
loop-g-preserved c =
    let l = c.loop-g in
    let a = c.args in
    let digits = a.digits.now in
    let old = a.groups.now in
    tab_turn (five_at digits) (length old) old refl l.g l.invariant (omega arith) (five digits l.g c.part.ensures.result_value c.hex_number.ensures)

pub returns : goal.returns
returns c =
    let a = c.args in
    let l = c.loop-g in
    tab_full (five_at a.digits.now) (length a.groups.now) a.groups.now refl l.g l.invariant (omega arith)
