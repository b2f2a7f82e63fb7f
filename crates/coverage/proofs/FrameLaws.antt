-- Slots and pages by frame: a batch has two slots a frame, and no more pages of a frame are heard than it has slots. Assumes nothing.
use mathlib.Core.Path.{◌≡◌, refl, ap, ◌∙◌}
use mathlib.Core.Bool.{Bool, true, false}
use mathlib.Core.List.{List, [], ◌∷◌, map, map-append}
use mathlib.Core.Logic.{⊎_elim}
use mathlib.Core.Option.{Option, none, some}
use Prim.Native.Nat.{ℕ, zero, suc, ◌+◌, ◌*◌, ◌/◌, ◌%◌, ◌≤◌, ◌<◌}
use native.Mathlib.Nat.{mul-suc}
use native.Mathlib.Omega.{arith}
use lib.Dec.{eqb}
use lib.ListN.{length}
use borrow.Author.Tests.{eq-eqb, eqb-true}
use Rattle.base.specs.Passing.{passing}
use Rattle.base.specs.Search.{sum}
use Rattle.base.proofs.CountLaws.{one, one_le, one_most, eqb_swap, one_of, none_of}
use Rattle.base.proofs.SearchLaws.{le_or_lt, sum_cong, sum_add}
use Rattle.codeword.specs.Nearest.{nearest}
use Rattle.placement.specs.Placement.{frame_of}
use Rattle.reader.specs.Meaning.{meaning}
use Rattle.reader.specs.Reading as reading
use Rattle.reader.specs.Reading.{Hearing, State, closed_as, close, hear, read_at, slot_word, heard_stretch, heard_in}
use Rattle.reader.specs.declared.Meaning.{Meaning}
use Rattle.reader.specs.declared.Meaning.TheVariants.{Lost, Idle, Address, Message}
use Rattle.reader.proofs.Laws.{addressed}
use Rattle.coverage.specs.Tally.{page_place}
use Rattle.coverage.proofs.TallyLaws.{times_in, times_more, times_first}

-- ---- the slots of a frame

-- how many of the first n slots are frame f's
abbrev pub slots_of : ℕ → ℕ → ℕ
slots_of f n = sum (λ s. one (eqb (frame_of s) f)) n

a_batch : (f : ℕ) → sum (λ k. one (eqb (k / 2) f)) 16 ≡ 2 * sum (λ k. one (eqb k f)) 8
unfolding sum
a_batch f = omega arith

batches_of_lem : (f b x : ℕ) → sum (λ k. one (eqb f k)) 8 ≡ x → slots_of f (16 * b) ≡ 2 * x * b
unfolding sum
batches_of_lem f zero x h = omega arith
batches_of_lem f (suc b) x h =
    let m : 16 * suc b ≡ 16 * b + 16 = omega arith in
    let k : sum (λ k. one (eqb (frame_of (16 * b + k)) f)) 16 ≡ 2 * x
    = sum_cong (λ k. one (eqb (frame_of (16 * b + k)) f)) (λ k. one (eqb (k / 2) f)) 16 (λ k l. ap (λ (y : ℕ). one (eqb y f)) (omega arith))
    ∙ a_batch f
    ∙ ap (λ (y : ℕ). 2 * y) (sum_cong (λ k. one (eqb k f)) (λ k. one (eqb f k)) 8 (λ k l. ap one (eqb_swap k f)) ∙ h) in
    let i = batches_of_lem f b x h in
    ap (slots_of f) m ∙ sum_add (λ s. one (eqb (frame_of s) f)) (16 * b) 16 ∙ omega (arith, mul-suc (2 * x) b)

pub slots_all : (f b : ℕ) → f < 8 → slots_of f (16 * b) ≡ 2 * b
slots_all f b h = batches_of_lem f b 1 (one_of f 8 h)

pub slots_few : (f b : ℕ) → slots_of f (16 * b) ≤ 2 * b
slots_few f b =
    ⊎_elim
    (λ (h : 8 ≤ f). omega (arith, batches_of_lem f b 0 (none_of f 8 h)))
    (λ (h : f < 8). omega (arith, slots_all f b h))
    (le_or_lt 8 f)

-- ---- the pages of a frame

-- a page's frame: the low three bits of its identity
abbrev frame_heard : Hearing → ℕ
frame_heard h = h.identity % 8

-- how many pages have an address in frame f
abbrev framed : ℕ → List Hearing → ℕ
framed f hs = times_in (map frame_heard hs) f

abbrev held_in : ℕ → Option Hearing → ℕ
held_in f none = 0
held_in f (some h) = one (eqb (frame_heard h) f)

close_framed : (f : ℕ) (cut : Bool) (hs : List Hearing) (o : Option Hearing) → framed f (close cut hs o) ≡ framed f hs + held_in f o
unfolding close
close_framed f cut hs none = omega arith
close_framed f cut hs (some h) =
    ap (λ (l : List ℕ). times_in l f) (map-append frame_heard hs (closed_as cut h ∷ [])) ∙ times_more (map frame_heard hs) (frame_heard h) f

-- of the closed pages and the open one
abbrev framed_in : ℕ → State → ℕ
framed_in f st = framed f st.pages + held_in f st.held

take_framed : (f b : ℕ) (st : State) (o : Option Hearing) → framed_in f (reading.take b st o) ≡ framed f st.pages + held_in f o
unfolding reading.take
take_framed f b st none = refl
take_framed f b st (some h) = refl

-- a slot opens a page of its own frame
hear_framed : (f s : ℕ) (st : State) (m : Meaning) → ((u g : ℕ) → m ≡ Address u g → u % 8 ≡ 0)
    → framed_in f (hear s st m) ≤ framed_in f st + one (eqb (frame_of s) f)
unfolding hear
hear_framed f s st Lost low = omega (arith, close_framed f true st.pages st.held)
hear_framed f s st Idle low = omega (arith, close_framed f false st.pages st.held)
hear_framed f s st (Address u g) low =
    let e : (u + frame_of s) % 8 ≡ frame_of s = omega (arith, low u g refl) in
    omega (arith, close_framed f false st.pages st.held, ap (λ (x : ℕ). one (eqb x f)) e)
hear_framed f s st (Message b) low = omega (arith, take_framed f b st st.held)

read_framed : (f : ℕ) (word : ℕ → ℕ) (n : ℕ) → framed_in f (read_at word n) ≤ slots_of f n
unfolding read_at sum passing
read_framed f word zero = omega arith
read_framed f word (suc n) =
    omega (
      arith,
      read_framed f word n,
      hear_framed f n (read_at word n) (meaning (nearest (word n))) (λ u g e. (addressed (nearest (word n)) u g e).low),
    )

-- pages at one place have one frame
place_framed : (i : ℕ) (hs : List Hearing) → times_in (map page_place hs) i ≤ framed (i / 2) hs
unfolding passing
place_framed i [] = omega arith
place_framed i (h ∷ hs) =
    omega (
      arith,
      times_first (page_place h) (map page_place hs) i,
      times_first (frame_heard h) (map frame_heard hs) (i / 2),
      place_framed i hs,
      one_most (eqb (page_place h) i) (eqb (frame_heard h) (i / 2)) (λ e. eq-eqb (frame_heard h) (i / 2) (omega (arith, eqb-true (page_place h) i e, one_le h.cut))),
    )

-- whole or cut, no more pages of a frame are heard than it has slots
pub pages_at : (words : List ℕ) (i : ℕ) → times_in (map page_place (heard_in words).pages) i ≤ 2 * (length words / 17)
unfolding heard_stretch
pages_at words i =
    let n = length words / 17 in
    let st = read_at (slot_word words) (16 * n) in
    omega (
      arith,
      place_framed i (close false st.pages st.held),
      close_framed (i / 2) false st.pages st.held,
      read_framed (i / 2) (slot_word words) (16 * n),
      slots_few (i / 2) n,
    )
