-- The counts of pages along the reader's states. Assumes nothing.
use mathlib.Core.Path.{◌≡◌, refl, sym, ap, subst, ◌∙◌}
use mathlib.Core.Bool.{Bool, true, false, cond}
use mathlib.Core.List.{List, [], ◌∷◌, map, map-append}
use mathlib.Core.Option as maybe
use mathlib.Core.Option.{none, some}
use Prim.Native.Nat.{ℕ, ◌+◌, ◌*◌, ◌/◌, ◌%◌, ◌≤◌, ◌<◌}
use native.Mathlib.Numerals.{add-one}
use native.Mathlib.Omega.{arith}
use lib.ListN.{length, replicate, length-map}
use Rattle.std.specs.Prelude.{Option, None, Some, IfSome}
use Rattle.codeword.specs.Nearest.{nearest}
use Rattle.placement.specs.Placement.{frame_of}
use Rattle.reader.specs.Meaning.{meaning}
use Rattle.reader.specs.Reading as reading
use Rattle.reader.specs.Reading.{Hearing, State, closed_as, close, hear, read_at, slot_word, heard_stretch, heard_in}
use Rattle.reader.specs.declared.Meaning.{Meaning}
use Rattle.reader.specs.declared.Meaning.TheVariants.{Lost, Idle, Address, Message}
use Rattle.reader.proofs.Laws.{addressed, pages_few}
use Rattle.coverage.specs.Tally.{tally, page_place, page_counts}
use Rattle.coverage.specs.Progress.{UpTo, closed_counts, heard_counts, open_after}
use Rattle.coverage.proofs.TallyLaws.{tally_none, tally_more, tally_within}

-- the open page by its frame
abbrev held_as : maybe.Option Hearing → Option ℕ
held_as none = None
held_as (some h) = Some (h.identity % 8)

-- what the code keeps of a state
pub record Paged (st : State) (held : Option ℕ) (pages : List ℕ) : Type 0 where
  pub counts : pages ≡ page_counts st.pages
  pub open_page : held ≡ held_as st.held

pub page_place_lem : (h : Hearing) → page_place h < 16
page_place_lem h = go h.cut
  where
    go : (cut : Bool) → 2 * (h.identity % 8) + cond cut 1 0 < 16
    go true = omega arith
    go false = omega arith

closed_counts_lem : (cut : Bool) (hs : List Hearing) (o : maybe.Option Hearing) (held : Option ℕ) {pages : List ℕ} → pages ≡ page_counts hs → held ≡ held_as o
    → closed_counts pages held cut ≡ page_counts (close cut hs o)
unfolding close
closed_counts_lem cut hs none held e z = rw z e
closed_counts_lem cut hs (some h) held {pages} e z =
    rw z
    (tally_more 16 (map page_place hs) (page_place (closed_as cut h)) e (page_place_lem (closed_as cut h))
    ∙ ap (tally 16) (sym (map-append page_place hs (closed_as cut h ∷ []))))

-- its frame is one of eight
abbrev pub Framed : Option ℕ → Type 0
Framed held = IfSome held (λ frame. frame < 8)

held_few : (o : maybe.Option Hearing) → Framed (held_as o)
held_few none = tt
held_few (some h) = omega arith

module _ (st : State) (held : Option ℕ) {pages : List ℕ} (k : Paged st held pages) where
  pub paged_held : Framed held
  paged_held = subst Framed (sym k.open_page) (held_few st.held)

  paged_closed : (cut : Bool) → closed_counts pages held cut ≡ page_counts (close cut st.pages st.held)
  paged_closed cut = closed_counts_lem cut st.pages st.held held k.counts k.open_page

  -- a message word
  paged_message : (b : ℕ) (o : maybe.Option Hearing) → held ≡ held_as o → Paged (reading.take b st o) held pages
  unfolding reading.take
  paged_message b none z = record { counts = k.counts; open_page = z }
  paged_message b (some h) z = record { counts = k.counts; open_page = z }

  paged_heard : (s : ℕ) (m : Meaning) → ((u f : ℕ) → m ≡ Address u f → u % 8 ≡ 0) → Paged (hear s st m) (open_after held (frame_of s) m) (heard_counts pages held m)
  unfolding hear
  paged_heard s Lost low = record { counts = paged_closed true; open_page = refl }
  paged_heard s Idle low = record { counts = paged_closed false; open_page = refl }
  paged_heard s (Address u f) low = record { counts = paged_closed false; open_page = ap Some (omega (arith, low u f refl)) }
  paged_heard s (Message b) low = paged_message b st.held k.open_page

-- ---- along the slots

module _ (word : ℕ → ℕ) where
  pub paged_none : {pages : List ℕ} → pages ≡ replicate 16 0 → Paged (read_at word 0) None pages
  unfolding read_at
  paged_none e = record { counts = e ∙ sym (tally_none 16); open_page = refl }

  module _ (s : ℕ) (held : Option ℕ) {pages : List ℕ} (k : Paged (read_at word s) held pages) where
    pub paged_next : {next : Option ℕ} {after : List ℕ} (says : Meaning) → says ≡ meaning (nearest (word s)) → next ≡ open_after held (frame_of s) says
        → after ≡ heard_counts pages held says → Paged (read_at word (s + 1)) next after
    unfolding read_at
    paged_next says m n a =
        let more = paged_heard (read_at word s) held k s (meaning (nearest (word s))) (λ u f e. (addressed (nearest (word s)) u f e).low) in
        rw (n, a, m, add-one s) more

    pub paged_few : s ≤ 4800 → UpTo 16 4800 pages
    paged_few h =
        let hs = (read_at word s).pages in
        tally_within 16 4800 (map page_place hs) k.counts (omega (arith, length-map hs page_place, pages_few word s))

-- the end of whole batches
pub paged_end : (words : List ℕ) (held : Option ℕ) {pages all : List ℕ} → Paged (read_at (slot_word words) (16 * (length words / 17))) held pages
    → all ≡ closed_counts pages held false → all ≡ page_counts (heard_in words).pages
unfolding heard_stretch
paged_end words held k e = e ∙ paged_closed (read_at (slot_word words) (16 * (length words / 17))) held k false
