use mathlib.Core.Path.{◌≡◌, sym, ap, ◌∙◌}
use native.Mathlib.Omega.{arith}
use lib.ListN.{length}
use Rattle.text.specs.Heard.{char_heard}
use Rattle.text.specs.declared.Coding.TheVariants.{Numeric}
use Rattle.text.proofs.HeardLaws.{numeric_start, trim_more, trim_none}
use Rattle.text.proofs.numeric_length.Goals as goal

pub loop-i-init : goal.loop-i-init
loop-i-init c = numeric_start c.args.groups.now

pub loop-i-preserved : goal.loop-i-preserved
loop-i-preserved c =
    let gs = c.args.groups.now in
    let l = c.loop-i in
    l.invariant ∙ ap length (trim_more (char_heard Numeric gs) l.i c.loop-i-test.true (omega (arith, c.numeric_char.ensures)))

pub returns : goal.returns
returns c =
    let l = c.loop-i in
    let none : l.i ≡ 0 = omega arith in
    sym none ∙ sym (l.invariant ∙ trim_none (char_heard Numeric c.args.groups.now) l.i (omega arith))
