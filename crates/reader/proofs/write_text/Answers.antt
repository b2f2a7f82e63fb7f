-- `reader::write_text` meets its contract: with room for ten digits a group nothing is declined. Assumes nothing.
use mathlib.Core.Path.{◌≡◌, ap, ◌∙◌}
use mathlib.Core.List.{List}
use Prim.Native.Nat.{ℕ, ◌*◌, ◌≤◌}
use native.Mathlib.Omega.{arith}
use lib.ListN.{length, take}
use lib.Seq.{take_all}
use borrow.Author.Tests.{le-ltb}
use Rattle.base.specs.Lists.{over}
use Rattle.text.specs.Answer.{heard_digits, heard_into, count_of}
use Rattle.text.specs.declared.Coding.{Coding}
use Rattle.std.specs.Option.{unwrap_or}
use Rattle.std.specs.Prelude.{Option, Some}
use Rattle.reader.proofs.write_text.Goals.{After-write_heard}
use Rattle.reader.proofs.write_text.Goals as goal

all_written : (c : Coding) (gs old : List ℕ) {r : Option ℕ} {out : List ℕ} → 10 * length gs ≤ length old
    → (r ≡ heard_into c gs (length old)) × (out ≡ over old (take (count_of r) (heard_digits c gs)))
    → (r ≡ Some (length (heard_digits c gs))) × (out ≡ over old (heard_digits c gs))
all_written c gs old h w =
    let ds = heard_digits c gs in
    let room : heard_into c gs (length old) ≡ Some (length ds) = rw (le-ltb (length old) (10 * length gs) h) in
    let r = w.0 ∙ room in
    (r, w.1 ∙ ap (over old) (ap (λ (a : Option ℕ). take (count_of a) ds) r ∙ take_all (length ds) ds (omega arith)))

there : (c : After-write_heard) →
    let a = c.args in
    (c.write_heard.result ≡ Some (length (heard_digits a.c a.groups.now))) × (c.write_heard.new.digits ≡ over a.digits.now (heard_digits a.c a.groups.now))
there c =
    all_written c.args.c c.args.groups.now c.args.digits.now c.requires (c.write_heard.ensures.value, c.write_heard.ensures.digits_after)

pub returns : goal.returns
returns c =
    let t = there (goal.at.returns c).After-write_heard in
    record {
      value = c.unwrap_or.ensures ∙ ap (λ (n : Option ℕ). unwrap_or n 0) t.0;
      digits_after = t.1;
    }
