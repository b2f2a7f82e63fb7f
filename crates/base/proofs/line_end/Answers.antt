-- `base::line_end` meets its contract. Assumes nothing.
use mathlib.Core.Path.{◌≡◌, ap, ◌∙◌}
use mathlib.Core.List.{List}
use Prim.Native.Nat.{ℕ, ◌+◌, ◌-◌, ◌≤◌}
use native.Mathlib.Omega.{arith}
use lib.ListN.{length, take, drop, drop_of_length-le, length-drop}
use Rattle.base.specs.Leading.{leading}
use Rattle.base.specs.Lines.{not_newline, line_end}
use Rattle.base.proofs.LeadingLaws.{leading_le}
use Rattle.base.proofs.ListLaws.{to_end}
use Rattle.base.proofs.line_end.Goals as goal

-- the part of a slice from an index on is all that stands there
from : (s : List ℕ) (at : ℕ) {n : ℕ} → n ≡ leading not_newline (take (length s - at) (drop at s)) → n ≡ leading not_newline (drop at s)
from s at e = e ∙ ap (leading not_newline) (to_end at s)

-- where that part starts at an index that is this one, the line ends there
moved : (s : List ℕ) {a at n : ℕ} → n ≡ leading not_newline (take (length s - a) (drop a s)) → a ≡ at → a + n ≡ at + leading not_newline (drop at s)
moved s {a} e same = ap (λ (m : ℕ). a + m) (from s a e) ∙ ap (λ (i : ℕ). i + leading not_newline (drop i s)) same

inside : (s : List ℕ) {at n : ℕ} → n ≡ leading not_newline (take (length s - at) (drop at s)) → at ≤ length s → at + n ≤ length s
inside s {at} e h = omega (arith, from s at e, leading_le not_newline (drop at s), length-drop at s)

pub returns-then-s-at : goal.returns-then-s-at
unfolding line_end
returns-then-s-at c =
    let none = drop_of_length-le c.args.s.now {i = c.args.at} (omega arith) in
    rw none (omega arith)

pub overflow_add-result : goal.overflow_add-result
overflow_add-result c = grind (arith, inside c.args.s.now c.line_length.ensures (omega arith))

pub returns : goal.returns
unfolding line_end
returns c = moved c.args.s.now c.line_length.ensures (omega arith)
