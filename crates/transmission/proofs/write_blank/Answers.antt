use mathlib.Core.Path.{refl}
use native.Mathlib.Omega.{arith}
use lib.ListN.{length}
use Rattle.base.proofs.ListLaws.{tab_turn, tab_full}
use Rattle.transmission.specs.Writing.{blank_at}
use Rattle.transmission.proofs.write_blank.Goals as goal

pub loop-k-preserved : goal.loop-k-preserved
loop-k-preserved c = let old = c.args.words.now in tab_turn blank_at (length old) old refl c.loop-k.k c.loop-k.invariant (omega arith) c.blank_word.ensures

pub returns : goal.returns
returns c = let old = c.args.words.now in tab_full blank_at (length old) old refl c.loop-k.k c.loop-k.invariant (omega arith)
