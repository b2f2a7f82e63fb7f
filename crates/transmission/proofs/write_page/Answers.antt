-- `transmission::write_page` meets its contract: it lends room for just the page's groups, and these with the function make the page's
-- sending. Assumes nothing.
use mathlib.Core.Path.{◌≡◌, ap, ◌∙◌}
use mathlib.Core.List.{List, ◌++◌}
use Prim.Native.Nat.{ℕ, ◌≤◌}
use lib.ListN.{length, take, replicate}
use lib.Seq.{length-take-le, take-append-le, take_all}
use native.Mathlib.Omega.{arith}
use Rattle.base.proofs.ListLaws.{tab-length}
use Rattle.job.specs.Line.{kind_sent}
use Rattle.transmission.specs.Sending.{Sending, sending_from}
use Rattle.transmission.specs.Writing.{with_sending}
use Rattle.transmission.proofs.Begun.{packed_sending}
use Rattle.transmission.proofs.write_page.Goals as goal

-- room for n groups
room : (n : ℕ) → n ≤ 84 → length (take {A = ℕ} n (replicate 84 0)) ≡ n
room n h = length-take-le n (replicate 84 0) h

-- of the packed groups, those that were written
front : (n : ℕ) (written rest : List ℕ) → length written ≡ n → take n (written ++ rest) ≡ written
front n written rest e = take-append-le n written rest (omega arith) ∙ take_all n written (omega arith)

pub returns : goal.returns
returns c =
    let a = c.args in
    let text = c.page_text-text.ensures.result_value in
    let n = room a.groups c.requires.groups_bound.0 in
    c.write_sending.ensures
    ∙ ap (λ (x : Sending). with_sending x a.slot a.words.now)
    (packed_sending a.page.identity (kind_sent a.page.kind) c.page_text-text.result.now (length (take {A = ℕ} a.groups (replicate 84 0)))
    (rw (text, n) c.requires.groups_value) c.function.ensures
    (front _ _ _ (ap (λ (gs : List ℕ). length gs) c.write_groups.ensures ∙ tab-length _ _ ∙ n) ∙ c.write_groups.ensures))
    ∙ ap (λ (digits : List ℕ). with_sending (sending_from a.page.identity (kind_sent a.page.kind) digits) a.slot a.words.now) text
