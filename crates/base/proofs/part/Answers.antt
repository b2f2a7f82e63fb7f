-- `base::part` meets its contract. Assumes nothing.
use Prim.Native.Nat.{ℕ, ◌+◌, ◌-◌}
use mathlib.Core.Path.{◌≡◌, sym, ap, ◌∙◌}
use native.Mathlib.Nat.{add_comm}
use native.Mathlib.Omega.{arith}
use lib.ListN.{length, take, drop, length-drop, drop_of_length-le}
use lib.Seq.{take_all, take-nil}
use borrow.Author.Tests.{lt-ltb, le-ltb}
use Rattle.base.proofs.ListLaws.{to_end}
use Rattle.base.proofs.part.Goals as goal

-- a part that starts at element a of a slice at p
at_start : (p : ℕ × ℕ) {a b : ℕ} → b ≡ a → ◌≡◌ {A = ℕ × ℕ} (p.0, a + p.1) (p.0, p.1 + b)
at_start p {a} {b} e = ap {B = ℕ × ℕ} (λ (o : ℕ). (p.0, o)) (add_comm a p.1 ∙ ap (λ (x : ℕ). p.1 + x) (sym e))

pub returns-then-s-start : goal.returns-then-s-start
returns-then-s-start c =
    let a = c.args in
    let s = a.s.now in record {
      points_into = at_start a.s.ref_ptr (simp (lt-ltb (length s) a.start (omega arith)));
      result_value = to_end (length s) s ∙ drop_of_length-le s {i = length s} (omega arith) ∙ rw (drop_of_length-le s {i = a.start} (omega arith)) (sym (take-nil a.length));
    }

pub returns-then-left-length : goal.returns-then-left-length
returns-then-left-length c =
    let a = c.args in
    let s = a.s.now in record {
      points_into = at_start a.s.ref_ptr (simp (le-ltb (length s) a.start (omega arith)));
      result_value = to_end a.start s ∙ sym (take_all a.length (drop a.start s) (omega (arith, length-drop a.start s)));
    }

pub returns : goal.returns
returns c =
    let a = c.args in
    let s = a.s.now in
    let e : a.start + a.length - a.start ≡ a.length = omega arith in record {
      points_into = at_start a.s.ref_ptr (simp (le-ltb (length s) a.start (omega arith)));
      result_value = ap (λ (n : ℕ). take n (drop a.start s)) e;
    }
