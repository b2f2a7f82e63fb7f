-- The text of a report, part by part. Assumes nothing.
use mathlib.Core.Path.{◌≡◌, refl}
use mathlib.Core.List.{List, [], ◌∷◌, ◌++◌}
use Prim.Native.Nat.{ℕ, zero, suc, ◌+◌, ◌*◌, ◌≤◌, ◌<◌}
use native.Mathlib.Omega.{arith}
use lib.ListN.{length, get_or, length-append}
use borrow.Author.Tests.{lt-ltb}
use Rattle.coverage.specs.Rates.{in_class, rate_of}
use Rattle.coverage.specs.declared.Coverage.{Coverage}
use Rattle.coverage.specs.declared.Rate.{Rate}
use Rattle.program.specs.Decimal.{decimal}
use Rattle.program.specs.CoverageText.{labelled, read_part, lost_part, rate_part, refused_part, frame_line, frame_lines, sync_line, listings_line}
use Rattle.program.specs.CoverageText as label
use Rattle.program.proofs.PartLaws.{decimal_short}

-- ---- how long the parts can be

pub labelled_short : (label : List ℕ) (n : ℕ) → length (labelled label n) ≤ length label + 20
unfolding labelled
labelled_short label n = omega (arith, length-append label (decimal n), decimal_short n)

-- three labels and numbers
three_labelled : (k l m : List ℕ) (a b c : ℕ) → length (labelled k a ++ (labelled l b ++ labelled m c)) ≤ length k + length l + length m + 60
three_labelled k l m a b c =
    omega (arith, length-append (labelled k a) (labelled l b ++ labelled m c), length-append (labelled l b) (labelled m c), labelled_short k a, labelled_short l b, labelled_short m c)

pub read_short : (u o t : ℕ) → length (read_part u o t) ≤ 81
unfolding read_part
read_short u o t = three_labelled label.unchanged_label label.one_label label.two_label u o t

pub lost_short : (l w c : ℕ) → length (lost_part l w c) ≤ 78
unfolding lost_part
lost_short l w c = three_labelled label.lost_label label.whole_label label.cut_label l w c

pub refused_short : (a b c : ℕ) → length (refused_part a b c) ≤ 93
unfolding refused_part
refused_short a b c = three_labelled label.refused21_label label.refused22_label label.refused23_label a b c

rate_short : (r : Rate) → length (rate_part r) ≤ 58
unfolding rate_part
rate_short r =
    let rest = labelled label.remainder_label r.remainder in
    omega (
      arith,
      length-append (labelled label.rate_label r.rate) (rest ++ (10 ∷ [])),
      length-append rest (10 ∷ []),
      labelled_short label.rate_label r.rate,
      labelled_short label.remainder_label r.remainder,
    )

frame_short : (c : Coverage) (f : ℕ) → length (frame_line c f) ≤ 243
unfolding frame_line
frame_short c f =
    let read = read_part (in_class c f 0) (in_class c f 1) (in_class c f 2) in
    let lost = lost_part (in_class c f 3) (get_or c.pages (2 * f) 0) (get_or c.pages (2 * f + 1) 0) in
    let rate = rate_part (rate_of c f) in
    omega (
      arith,
      length-append (labelled label.frame_label f) (read ++ (lost ++ rate)),
      length-append read (lost ++ rate),
      length-append lost rate,
      labelled_short label.frame_label f,
      read_short (in_class c f 0) (in_class c f 1) (in_class c f 2),
      lost_short (in_class c f 3) (get_or c.pages (2 * f) 0) (get_or c.pages (2 * f + 1) 0),
      rate_short (rate_of c f),
    )

pub frames_short : (c : Coverage) (n : ℕ) → length (frame_lines c n) ≤ 243 * n
unfolding frame_lines
frames_short c zero = omega arith
frames_short c (suc n) = omega (arith, frames_short c n, frame_short c n, length-append (frame_lines c n) (frame_line c n))

pub sync_short : (c : Coverage) → length (sync_line c) ≤ 143
unfolding sync_line
sync_short c =
    let read = read_part (in_class c 8 0) (in_class c 8 1) (in_class c 8 2) in
    omega (arith, length-append read (rate_part (rate_of c 8)), read_short (in_class c 8 0) (in_class c 8 1) (in_class c 8 2), rate_short (rate_of c 8))

pub listings_short : (c : Coverage) → length (listings_line c) ≤ 123
unfolding listings_line
listings_short c =
    let refused = refused_part (get_or c.refused 0 0) (get_or c.refused 1 0) (get_or c.refused 2 0) in
    omega (
      arith,
      length-append (labelled label.listings_label c.listings) (refused ++ (10 ∷ [])),
      length-append refused (10 ∷ []),
      labelled_short label.listings_label c.listings,
      refused_short (get_or c.refused 0 0) (get_or c.refused 1 0) (get_or c.refused 2 0),
    )

-- ---- the lines by the counts that are read

module _ (c : Coverage) {r : Rate} where
  pub frame_is : (f : ℕ) → f < 8 → r ≡ rate_of c f
      → labelled label.frame_label f
      ++ (read_part (get_or c.frames (4 * f) 0) (get_or c.frames (4 * f + 1) 0) (get_or c.frames (4 * f + 2) 0)
      ++ (lost_part (get_or c.frames (4 * f + 3) 0) (get_or c.pages (2 * f) 0) (get_or c.pages (2 * f + 1) 0) ++ rate_part r))
      ≡ frame_line c f
  unfolding frame_line
  frame_is f h e =
      let first : 4 * f + 0 ≡ 4 * f = omega arith in
      rw (e, lt-ltb f 8 h, first) refl

  pub sync_is : r ≡ rate_of c 8 → label.sync_label ++ (read_part (get_or c.sync 0 0) (get_or c.sync 1 0) (get_or c.sync 2 0) ++ rate_part r) ≡ sync_line c
  unfolding sync_line
  sync_is e = rw e refl
