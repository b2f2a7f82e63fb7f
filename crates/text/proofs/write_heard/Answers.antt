-- `text::write_heard` meets its contract. Assumes nothing.
use mathlib.Core.Path.{◌≡◌, refl, sym, ap, ◌∙◌}
use mathlib.Core.List.{List}
use Prim.Native.Nat.{ℕ, ◌*◌, ◌/◌, ◌≤◌, ◌<◌}
use native.Mathlib.Omega.{arith}
use lib.ListN.{length, take}
use lib.Seq.{take_all}
use borrow.Author.Tests.{lt-ltb, le-ltb}
use Rattle.base.specs.Lists.{over}
use Rattle.text.specs.Answer.{heard_digits, heard_into, count_of}
use Rattle.text.specs.declared.Coding.{Coding}
use Rattle.std.specs.Prelude.{Option, Some, None}
use Rattle.text.proofs.write_heard.Goals as goal

-- what the call promises of its answer and of the slice
abbrev Promised : Coding → List ℕ → List ℕ → Option ℕ → List ℕ → Type 0
Promised c gs old r out = (r ≡ heard_into c gs (length old)) × (out ≡ over old (take (count_of r) (heard_digits c gs)))

short : (c : Coding) (gs old : List ℕ) → length old / 10 < length gs → Promised c gs old None old
short c gs old h = (rw (lt-ltb (length old) (10 * length gs) (omega arith)), refl)

-- the coding is known in each arm
all : {c d : Coding} (gs old : List ℕ) {n : ℕ} {out : List ℕ} → length gs ≤ length old / 10 → c ≡ d
    → (n ≡ length (heard_digits d gs)) × (out ≡ over old (heard_digits d gs)) → Promised c gs old (Some n) out
all {d} gs old h e w =
    rw (e, le-ltb (length old) (10 * length gs) (omega arith))
    (ap Some w.0, w.1 ∙ ap (over old) (sym (ap (λ (n : ℕ). take n (heard_digits d gs)) w.0 ∙ take_all (length (heard_digits d gs)) (heard_digits d gs) (omega arith))))

pub returns-then-digits-groups : goal.returns-then-digits-groups
returns-then-digits-groups c =
    let a = c.args in
    let whole = short a.c a.groups.now a.digits.now c.if-digits-groups.true in record { value = whole.0; digits_after = whole.1 }

pub returns-in-Numeric : goal.returns-in-Numeric
returns-in-Numeric c =
    let a = c.args in
    let whole = all a.groups.now a.digits.now c.if-digits-groups.false c.in-Numeric.is (c.write_numeric.ensures.value, c.write_numeric.ensures.digits_after) in record { value = whole.0; digits_after = whole.1 }

pub returns-in-Alphanumeric : goal.returns-in-Alphanumeric
returns-in-Alphanumeric c =
    let a = c.args in
    let whole = all a.groups.now a.digits.now c.if-digits-groups.false c.in-Alphanumeric.is (c.write_alphanumeric.ensures.value, c.write_alphanumeric.ensures.digits_after) in record { value = whole.0; digits_after = whole.1 }
