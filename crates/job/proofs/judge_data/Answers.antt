-- `job::judge_data` meets its contract: at each `return` the tests that led there decide `data_page_of`. Assumes nothing.
use Prim.Native.Nat.{◌/◌, ◌%◌}
use native.Mathlib.Omega.{arith}
use lib.ListN.{length}
use borrow.Author.Tests.{lt-ltb, le-ltb, eq-eqb, ne_eqb}
use Rattle.job.specs.Line.{data_page_of}
use Rattle.job.proofs.judge_data.Goals as goal

pub returns-then-n-ne0 : goal.returns-then-n-ne0
unfolding data_page_of
returns-then-n-ne0 c = let n = length c.args.digits.now in simp (lt-ltb 0 (n % 5) (omega arith))

pub returns-then-n-eq0 : goal.returns-then-n-eq0
unfolding data_page_of
returns-then-n-eq0 c = let n = length c.args.digits.now in simp (le-ltb 0 (n % 5) (omega arith), eq-eqb _ _ c.if-n-eq0.true)

pub returns-then-n-gt84 : goal.returns-then-n-gt84
unfolding data_page_of
returns-then-n-gt84 c =
    let n = length c.args.digits.now in
    simp (le-ltb 0 (n % 5) (omega arith), ne_eqb _ _ c.if-n-eq0.false, lt-ltb 84 (n / 5) (omega arith))

pub returns : goal.returns
unfolding data_page_of
returns c =
    let n = length c.args.digits.now in
    simp (le-ltb 0 (n % 5) (omega arith), ne_eqb _ _ c.if-n-eq0.false, le-ltb 84 (n / 5) (omega arith))
