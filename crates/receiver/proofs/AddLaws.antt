-- What is heard of one stretch after another, and the reports that are added. Assumes nothing.
use mathlib.Core.Path.{◌≡◌}
use mathlib.Core.List.{List, append_assoc, append-nil}
use Prim.Native.Nat.{ℕ, ◌+◌, ◌*◌, ◌/◌, ◌≤◌}
use native.Mathlib.Omega.{arith}
use lib.ListN.{length, length-append}
use Rattle.base.proofs.ListLaws.{tab-length}
use Rattle.reader.specs.Reading.{Heard}
use Rattle.reader.specs.Lines.{lines_heard}
use Rattle.reader.proofs.Laws.{all_within, lines_append}
use Rattle.receiver.specs.Bits.{word_from}
use Rattle.receiver.specs.Stretches.{Stretch, words_on}
use Rattle.receiver.specs.Answers.{is_cut, heard_on, nothing, then_heard, totals_of}
use Rattle.receiver.specs.Progress.{Most, added}
use Rattle.receiver.specs.declared.Totals.{Totals}

pub then_nothing : (h : Heard) → then_heard h nothing ≡ h
then_nothing h =
    let l : h.lost + 0 ≡ h.lost = omega arith in
    let o : h.orphans + 0 ≡ h.orphans = omega arith in
    let c : h.changed.slots + 0 ≡ h.changed.slots = omega arith in
    let d : h.changed.syncs + 0 ≡ h.changed.syncs = omega arith in
    rw (append-nil h.pages, l, o, c, d)

pub nothing_then : (h : Heard) → then_heard nothing h ≡ h
nothing_then h =
    let l : 0 + h.lost ≡ h.lost = omega arith in
    let o : 0 + h.orphans ≡ h.orphans = omega arith in
    let c : 0 + h.changed.slots ≡ h.changed.slots = omega arith in
    let d : 0 + h.changed.syncs ≡ h.changed.syncs = omega arith in
    rw (l, o, c, d)

pub then_assoc : (a b c : Heard) → then_heard (then_heard a b) c ≡ then_heard a (then_heard b c)
then_assoc a b c =
    let l : a.lost + b.lost + c.lost ≡ a.lost + (b.lost + c.lost) = omega arith in
    let o : a.orphans + b.orphans + c.orphans ≡ a.orphans + (b.orphans + c.orphans) = omega arith in
    let x : a.changed.slots + b.changed.slots + c.changed.slots ≡ a.changed.slots + (b.changed.slots + c.changed.slots) = omega arith in
    let y : a.changed.syncs + b.changed.syncs + c.changed.syncs ≡ a.changed.syncs + (b.changed.syncs + c.changed.syncs) = omega arith in
    rw (append_assoc a.pages b.pages c.pages, l, o, x, y)

-- the report on both is the sum of the two
pub added_is : (n m : ℕ) (h g : Heard) → added (totals_of n h) (totals_of m g) ≡ totals_of (n + m) (then_heard h g)
added_is n m h g =
    rw (lines_append h.pages g.pages, length-append h.pages g.pages, length-append (lines_heard h.pages) (lines_heard g.pages))

-- ---- no report is large

pub most_none : Most (totals_of 0 nothing)
unfolding lines_heard
most_none = record { pages = omega arith; lost = omega arith; orphans = omega arith; slots = omega arith; syncs = omega arith; bytes = omega arith }

pub most_added : {t u : Totals} → Most t → Most u → Most (added t u)
most_added a b = record {
  pages = omega (arith, a.pages, b.pages);
  lost = omega (arith, a.lost, b.lost);
  orphans = omega (arith, a.orphans, b.orphans);
  slots = omega (arith, a.slots, b.slots);
  syncs = omega (arith, a.syncs, b.syncs);
  bytes = omega (arith, a.bytes, b.bytes);
}

-- of one stretch: a page that its end cuts short takes one byte more, and there is at least one batch
pub most_heard : (s : List ℕ) (r : Stretch) → 1 ≤ r.batches → Most (totals_of r.batches (heard_on s r))
most_heard s r some =
    let w = all_within (is_cut s r) (words_on s r) in
    let size : length (words_on s r) / 17 ≡ r.batches = omega (arith, tab-length (λ k. word_from s (r.start + 32 * k)) (17 * r.batches)) in
    record {
      pages = omega (arith, w.pages);
      lost = omega (arith, w.lost);
      orphans = omega (arith, w.orphans);
      slots = omega (arith, w.slots);
      syncs = omega (arith, w.syncs);
      bytes = omega (arith, w.lines);
    }
