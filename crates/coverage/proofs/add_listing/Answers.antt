-- `coverage::add_listing` meets its contract: each of the four lists of counts is added to. Assumes nothing.
use mathlib.Core.Path.{◌≡◌, refl, sym, ap, subst, ◌∙◌}
use mathlib.Core.List.{List}
use Prim.Native.Nat.{ℕ, ◌+◌, ◌*◌, ◌≤◌}
use native.Mathlib.Omega.{arith}
use lib.ListN.{length, get_or}
use borrow.Author.Rules.{rules}
use Rattle.coverage.specs.Month.{InBounds}
use Rattle.coverage.specs.Progress.{UpTo}
use Rattle.coverage.specs.Report.{joined}
use Rattle.coverage.specs.declared.Coverage.{Coverage}
use Rattle.coverage.proofs.Bounds.{Single, single_few}
use Rattle.coverage.proofs.ReportLaws.{in_bounds}
use Rattle.coverage.proofs.add_listing.Goals.{After-cover_listing-more}
use Rattle.coverage.proofs.add_listing.Goals as goal

-- what `add_counts` asks of a list and of what is added to it
abbrev Addable : List ℕ → List ℕ → Type 0
Addable counts more = UpTo (length counts) 600 more × UpTo (length counts) 600000 counts

addable : (n x : ℕ) {counts more : List ℕ} → length counts ≡ n → UpTo n 600 more → ((i : ℕ) → get_or counts i 0 ≤ 600 * x) → x ≤ 1000 → Addable counts more
addable n x size few each low = (record { size = few.size ∙ sym size; each = few.each }, record { size = refl; each = λ i. omega (arith, each i) })

-- once the listing's own report is there
module _ (t : After-cover_listing-more) where
  abbrev old : Coverage
  old = t.args.c

  abbrev more : Coverage
  more = t.cover_listing-more.result

  own : Single more
  own = subst Single (sym t.cover_listing-more.ensures) (single_few t.args.listing.now)

  low : InBounds old
  low = in_bounds old t.requires

  refused_size : length old.refused ≡ 3
  refused_size = search rules

  frames_size : length old.frames ≡ 32
  frames_size = search rules

  sync_size : length old.sync ≡ 3
  sync_size = search rules

  pages_size : length old.pages ≡ 16
  pages_size = search rules

pub add_counts-requires : goal.add_counts-requires
add_counts-requires c =
    let t = (goal.at.add_counts-requires c).After-cover_listing-more in
    let whole = addable 3 (old t).listings (refused_size t) (own t).refused (low t).refused (low t).listings in
    record { up_to = whole.0; up_to_2 = whole.1 }

pub add_counts-requires-2 : goal.add_counts-requires-2
add_counts-requires-2 c =
    let t = (goal.at.add_counts-requires-2 c).After-cover_listing-more in
    let whole = addable 32 (old t).listings (frames_size t) (own t).frames (low t).frames (low t).listings in
    record { up_to = whole.0; up_to_2 = whole.1 }

pub add_counts-requires-3 : goal.add_counts-requires-3
add_counts-requires-3 c =
    let t = (goal.at.add_counts-requires-3 c).After-cover_listing-more in
    let whole = addable 3 (old t).listings (sync_size t) (own t).sync (low t).sync (low t).listings in
    record { up_to = whole.0; up_to_2 = whole.1 }

pub slice_bounds-add_counts-end-7 : goal.slice_bounds-add_counts-end-7
slice_bounds-add_counts-end-7 c = sym (pages_size (goal.at.slice_bounds-add_counts-end-7 c).After-cover_listing-more)

pub add_counts-requires-4 : goal.add_counts-requires-4
add_counts-requires-4 c =
    let t = (goal.at.add_counts-requires-4 c).After-cover_listing-more in
    let whole = addable 16 (old t).listings (pages_size t) (own t).pages (low t).pages (low t).listings in
    record { up_to = whole.0; up_to_2 = whole.1 }

pub overflow_add-sum : goal.overflow_add-sum
overflow_add-sum c = let t = (goal.at.overflow_add-sum c).After-cover_listing-more in omega (arith, (low t).listings, (own t).listings)

pub returns : goal.returns
returns c =
    let t = (goal.at.returns c).After-cover_listing-more in
    let added : ◌≡◌ {A = Coverage} (record { listings = (old t).listings + (more t).listings; refused = c.add_counts.new.counts; frames = c.add_counts-2.new.counts; sync = c.add_counts-3.new.counts; pages = c.add_counts-4.new.counts }) (joined (old t) (more t))
    = λ i. record {
      listings = (old t).listings + (more t).listings;
      refused = c.add_counts.ensures i;
      frames = c.add_counts-2.ensures i;
      sync = c.add_counts-3.ensures i;
      pages = c.add_counts-4.ensures i;
    } in
    added ∙ ap (joined (old t)) t.cover_listing-more.ensures
