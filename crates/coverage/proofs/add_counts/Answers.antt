use mathlib.Core.Path.{◌≡◌, refl, ap, ◌∙◌}
use mathlib.Core.List.{List}
use Prim.Native.Nat.{ℕ, ◌+◌, ◌≤◌, ◌<◌}
use native.Mathlib.Omega.{arith}
use lib.ListN.{length, get_or}
use Rattle.base.proofs.ListLaws.{filled, filled_length, filled_here, tab-length, tab_turn, tab_full}
use Rattle.coverage.specs.Report.{sums}
use Rattle.coverage.proofs.add_counts.Goals as goal

-- one sum
abbrev sum : List ℕ → List ℕ → ℕ → ℕ
sum a b i = get_or a i 0 + get_or b i 0

-- the counts keep their number, and the one that is due is as it came
module _ (old more : List ℕ) (i : ℕ) (h : i ≤ length old) {counts : List ℕ} (e : counts ≡ filled old (sums old more) i) where
  size : length counts ≡ length old
  size = ap length e ∙ filled_length old (sums old more) i h (omega (arith, tab-length (sum old more) (length old)))

  here : i < length old → get_or counts i 0 ≡ get_or old i 0
  here l = ap (λ (x : List ℕ). get_or x i 0) e ∙ filled_here old (sums old more) i l (omega (arith, tab-length (sum old more) (length old)))

pub loop-i-init : goal.loop-i-init
loop-i-init c = (omega arith, refl)

pub bounds-more-i : goal.bounds-more-i
bounds-more-i c = omega (arith, size c.args.counts.now c.args.more.now c.loop-i.i c.loop-i.invariant.0 c.loop-i.invariant.1, c.requires.up_to.size)

pub overflow_add-counts : goal.overflow_add-counts
overflow_add-counts c =
    let old = c.args.counts.now in
    let more = c.args.more.now in
    omega (
      arith,
      here old more c.loop-i.i c.loop-i.invariant.0 c.loop-i.invariant.1 (omega (arith, size old more c.loop-i.i c.loop-i.invariant.0 c.loop-i.invariant.1)),
      c.requires.up_to.each c.loop-i.i,
      c.requires.up_to_2.each c.loop-i.i,
    )

pub loop-i-smaller : goal.loop-i-smaller
loop-i-smaller c = omega (arith, size c.args.counts.now c.args.more.now c.loop-i.i c.loop-i.invariant.0 c.loop-i.invariant.1)

pub loop-i-preserved : goal.loop-i-preserved
loop-i-preserved c =
    let old = c.args.counts.now in
    let more = c.args.more.now in
    let i = c.loop-i.i in
    let within : i < length old = omega (arith, size old more i c.loop-i.invariant.0 c.loop-i.invariant.1) in (
      omega arith,
      tab_turn (sum old more) (length old) old refl i c.loop-i.invariant.1 within
          (ap (λ (x : ℕ). x + get_or more i 0) (here old more i c.loop-i.invariant.0 c.loop-i.invariant.1 within)),
    )

pub shape_of-counts : goal.shape_of-counts
shape_of-counts c = size c.args.counts.now c.args.more.now c.loop-i.i c.loop-i.invariant.0 c.loop-i.invariant.1

pub returns : goal.returns
returns c =
    let old = c.args.counts.now in
    let more = c.args.more.now in
    tab_full (sum old more) (length old) old refl c.loop-i.i c.loop-i.invariant.1
    (omega (arith, size old more c.loop-i.i c.loop-i.invariant.0 c.loop-i.invariant.1))
