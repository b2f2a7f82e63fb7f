-- `job::read_line` meets its contract. Assumes nothing.
use mathlib.Core.Path.{◌≡◌, sym, ◌∙◌}
use native.Mathlib.Omega.{arith}
use Prim.Native.Nat.{◌≤◌}
use lib.ListN.{length, take}
use lib.Seq.{length-take-le, drop-drop}
use mathlib.Core.Bool.{true}
use Rattle.job.specs.Line.{head_formed, well_formed, identity_of, line_of}
use Rattle.base.proofs.HexLaws.{number_fits}
use Rattle.base.proofs.ListLaws.{to_end}
use Rattle.job.proofs.Laws.{head_long}
use Rattle.job.proofs.read_line.Goals.{After-hex_number-identity, Else-not-head_formed}
use Rattle.job.proofs.read_line.Goals as goal

-- What is known once the head has its form.
head : (c : Else-not-head_formed) → head_formed c.args.line.now ≡ true
head c = sym c.head_formed.ensures ∙ c.if-not-head_formed.false

long : (c : Else-not-head_formed) → 8 ≤ length c.args.line.now
long c = head_long _ (head c)

-- Six digits write a number that fits.
number : (c : After-hex_number-identity) → 8 ≤ length c.args.line.now → c.hex_number-identity.result ≡ identity_of c.args.line.now
number c h = let l = c.args.line.now in
    c.hex_number-identity.ensures ∙ number_fits (take 6 l) (omega (arith, length-take-le 6 l (omega arith)))

pub returns-then-not-head_formed : goal.returns-then-not-head_formed
unfolding line_of well_formed
returns-then-not-head_formed c = rw (sym c.head_formed.ensures ∙ c.if-not-head_formed.true)

pub slice_bounds-hex_number-end : goal.slice_bounds-hex_number-end
slice_bounds-hex_number-end c = sym (length-take-le 6 c.args.line.now (let h = long (goal.at.slice_bounds-hex_number-end c).Else-not-head_formed in omega arith))

pub bounds-line-7 : goal.bounds-line-7
bounds-line-7 c = let h = long (goal.at.bounds-line-7 c).Else-not-head_formed in omega arith

pub slice_bounds-judge_tail-count : goal.slice_bounds-judge_tail-count
slice_bounds-judge_tail-count c = long (goal.at.slice_bounds-judge_tail-count c).Else-not-head_formed

pub slice_bounds-judge_tail-start : goal.slice_bounds-judge_tail-start
slice_bounds-judge_tail-start c = long (goal.at.slice_bounds-judge_tail-start c).Else-not-head_formed

pub returns : goal.returns
unfolding line_of well_formed
returns c =
    let a = c.args in
    let l = a.line.now in
    let formed = (goal.at.returns c).Else-not-head_formed in
    rw (c.judge_tail.ensures, number (goal.at.returns c).After-hex_number-identity (long formed), c.from-kind.ensures, c.hex_value.ensures, c.saturating_sub.ensures, to_end 8 l, drop-drop 1 8 l, head formed)
