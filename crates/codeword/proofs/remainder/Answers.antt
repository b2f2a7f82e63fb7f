-- `codeword::remainder` meets its contract: both are linear, and they are the same at the 32 words of a single one.
-- Assumes nothing.
use native.Mathlib.Omega.{arith}
use Rattle.codeword.specs.Code.{reduce, remainder}
use Rattle.codeword.proofs.Linear.{remainder_xor}
use Rattle.codeword.proofs.Maps.{Map, word, left, right, low, sum, run, linear, agree, equal}
use Rattle.codeword.proofs.remainder.Goals as goal

-- what the code does
scheme : Map
scheme =
    let p = low 31 word in
    let t = sum (sum p (left 64 3 p)) (left 64 5 p) in
    let q = sum (sum (sum (sum (sum (right 15 t) (right 16 t)) (right 17 t)) (right 19 t)) (right 23 t)) (right 31 t) in
    let v = sum q (left 64 3 q) in
    low 10 (sum (sum (sum p v) (left 64 5 v)) (left 64 6 v))

pub returns : goal.returns
unfolding scheme run agree remainder reduce
returns c = rw c.from-p.ensures (equal (run scheme) (remainder 31) (linear scheme) (remainder_xor 31) 32 tt c.args.polynomial (omega arith))
