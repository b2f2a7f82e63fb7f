-- The line of a page that was followed is printed. Assumes nothing.
use mathlib.Core.Path.{◌≡◌, refl, sym, ap, ◌∙◌}
use mathlib.Core.Bool.{Bool, true, cond}
use mathlib.Core.List.{List, []}
use Prim.Native.Nat.{ℕ, ◌+◌, ◌-◌, ◌%◌, ◌≤◌}
use native.Mathlib.Omega.{arith}
use lib.ListN.{length, take}
use lib.Seq.{length-take-le}
use Rattle.std.specs.Prelude.{Option, Some, None}
use Rattle.base.specs.Lists.{over}
use Rattle.reader.specs.Reading.{Hearing}
use Rattle.reader.specs.Lines.{line_heard, heard_page, room_for, printing_heard, line_written}
use Rattle.reader.proofs.Laws.{lines_short, room_enough}
use Rattle.follower.specs.Following.{own_page}
use Rattle.follower.specs.Progress.{Ran, page_at, Roomy, Printed}
use Rattle.follower.specs.declared.Message.{Message}

module _ (i f : ℕ) (words : List ℕ) (s : ℕ) (groups : List ℕ) (m : Message) (r : Ran words (s + 1) groups m) where
  abbrev collected : List ℕ
  collected = take (m.end - (s + 1)) groups

  -- the page that is printed
  abbrev heard : Hearing
  heard = heard_page i f collected m.cut

  pub collected_inside : m.end - (s + 1) ≤ length groups
  collected_inside = omega (arith, r.inside, r.room)

  collected_length : length collected ≡ m.end - (s + 1)
  collected_length = length-take-le (m.end - (s + 1)) groups collected_inside

  module _ (digits old : List ℕ) {lent : ℕ} (y : Roomy words s f lent (length digits) (length old)) where
    same : heard ≡ page_at i f words s
    same =
        let z : f % 4 ≡ f = omega (arith, y.function) in
        ap (λ (g : ℕ). record { identity = i; function = g; groups = collected; cut = m.cut }) z ∙ sym (r.page (own_page i f))

    enough : room_for (length digits) (length old) heard ≡ true
    enough =
        room_enough (length digits) (length old) heard (omega (arith, collected_length, r.inside, y.written)) (omega (arith, collected_length, r.on, r.inside, y.printed))

    pub page_printed : {answer : Option ℕ} → answer ≡ printing_heard (length digits) (length old) heard → answer ≡ Some (length (line_heard (page_at i f words s)))
    page_printed a =
        a
        ∙ ap (λ (b : Bool). cond b (Some (length (line_heard heard))) None) enough
        ∙ ap (λ (h : Hearing). Some (length (line_heard h))) same

    pub page_line_lem : {out : List ℕ} → out ≡ over old (line_written (length digits) (length old) heard)
        → Printed i f words s old out (record { end = m.end; bytes = length (line_heard (page_at i f words s)) })
    page_line_lem o =
        record {
          on = omega (arith, r.on);
          inside = r.inside;
          size = refl;
          short = omega (arith, ap (λ (h : Hearing). length (line_heard h)) same, lines_short heard, collected_length, r.on);
          is = o ∙ ap (λ (b : Bool). over old (cond b (line_heard heard) [])) enough ∙ ap (λ (h : Hearing). over old (line_heard h)) same;
          others = r.others i;
        }
