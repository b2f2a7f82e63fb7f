-- A page that is open before a slot: what is heard of it once that slot's word is lost, or read. Assumes nothing.
use mathlib.Core.Path.{◌≡◌, refl, sym, ap, ◌∙◌}
use mathlib.Core.Bool.{Bool, true, false, not}
use mathlib.Core.List.{List, [], ◌∷◌, ◌++◌, map, map-append}
use mathlib.Core.Logic.{⊎_elim}
use Prim.Native.Nat.{ℕ, suc, ◌+◌, ◌-◌, ◌≤◌, ◌<◌}
use native.Mathlib.Omega.{arith}
use lib.ListN.{length, get_or, take}
use lib.Seq.{take-suc, take_all}
use borrow.Author.Tests.{lt-ltb, le-ltb, le-leb, lt-leb}
use Rattle.base.specs.Passing.{passing}
use Rattle.base.proofs.Bools.{true_false}
use Rattle.base.proofs.PassingLaws.{passing_more, passing_skip}
use Rattle.base.proofs.SearchLaws.{least_is, least_only, le_or_lt}
use Rattle.placement.specs.Placement.{slot_of}
use Rattle.transmission.specs.Sending.{Sending, sending_at, placement_of}
use Rattle.reader.specs.Reading.{Hearing, extended, closed_as}
use Rattle.guarantees.specs.Transport.{is_read, reach, hearing_in, heard_of, spoilt}

-- page i as it is heard after its first k groups
abbrev pub partly : List Sending → ℕ → ℕ → Hearing
partly xs i k =
    record {
      identity = (sending_at xs i).identity;
      function = (sending_at xs i).function;
      groups = take k (sending_at xs i).groups;
      cut = false;
    }

pub partly_more : (xs : List Sending) (i k : ℕ) → k < length (sending_at xs i).groups
    → extended (partly xs i k) (get_or (sending_at xs i).groups k 0) ≡ partly xs i (suc k)
partly_more xs i k h =
    ap (λ (g : List ℕ). record { identity = (sending_at xs i).identity; function = (sending_at xs i).function; groups = g; cut = false })
    (sym (take-suc (sending_at xs i).groups k 0 h))

-- page i is open before slot s: its address and its first k groups are read, and s is the next slot
pub record OpenPage (lost : ℕ → Bool) (xs : List Sending) (i k s : ℕ) : Type 0 where
  pub few : k ≤ length (sending_at xs i).groups
  pub here : s ≡ slot_of (placement_of xs) i + suc k
  pub clear : (j : ℕ) → j ≤ k → lost (slot_of (placement_of xs) i + j) ≡ false

module _ (lost : ℕ → Bool) (xs : List Sending) where
  -- ---- a page more, by its address

  heard_more : (o : List ℕ) (i : ℕ) → lost (slot_of (placement_of xs) i) ≡ false → heard_of lost xs (o ++ (i ∷ [])) ≡ heard_of lost xs o ++ (hearing_in lost xs i ∷ [])
  heard_more o i e =
      ap (map (hearing_in lost xs)) (passing_more (is_read lost xs) o i (ap not e))
      ∙ map-append (hearing_in lost xs) (passing (is_read lost xs) o) (i ∷ [])

  pub heard_skip : (o : List ℕ) (i : ℕ) → lost (slot_of (placement_of xs) i) ≡ true → heard_of lost xs (o ++ (i ∷ [])) ≡ heard_of lost xs o
  heard_skip o i e = ap (map (hearing_in lost xs)) (passing_skip (is_read lost xs) o i (ap not e))

  -- its address is lost: nothing of it is read
  none_read : (i : ℕ) → lost (slot_of (placement_of xs) i) ≡ true → reach lost xs i ≡ 0
  none_read i e =
      let z : slot_of (placement_of xs) i + 0 ≡ slot_of (placement_of xs) i = omega arith in
      least_only _ _ 0 (record { within = omega arith; before = λ j h. absurd (omega arith); here = λ _. ap lost z ∙ e })

  pub all_spoilt : (i j : ℕ) → lost (slot_of (placement_of xs) i) ≡ true → spoilt lost xs i j ≡ true
  all_spoilt i j e = rw (none_read i e) (le-leb 0 j (omega arith))

  -- its address is read
  pub opens : (i s : ℕ) → s ≡ slot_of (placement_of xs) i → lost s ≡ false → OpenPage lost xs i 0 (suc s)
  opens i s e r =
      record {
        few = omega arith;
        here = omega arith;
        clear = λ j h. let z : slot_of (placement_of xs) i + j ≡ s = omega arith in ap lost z ∙ r;
      }

  -- ---- the next slot

  module _ (i k s : ℕ) (g : OpenPage lost xs i k s) where
    abbrev n : ℕ
    n = length (sending_at xs i).groups

    -- its word is lost: so far the page is read
    pub read_cut : lost s ≡ true → reach lost xs i ≡ suc k
    read_cut e =
        least_only (λ j. lost (slot_of (placement_of xs) i + j)) (n + 2) (suc k)
        (record { within = omega (arith, g.few); before = λ j h. g.clear j (omega arith); here = λ _. ap lost (sym g.here) ∙ e })

    -- it is read: one word more
    clear_on : lost s ≡ false → (j : ℕ) → j ≤ suc k → lost (slot_of (placement_of xs) i + j) ≡ false
    clear_on e j h =
        ⊎_elim
        (λ l. g.clear j l)
        (λ l. let z : slot_of (placement_of xs) i + j ≡ s = omega (arith, g.here) in ap lost z ∙ e)
        (le_or_lt j k)

    pub goes_on : k < n → lost s ≡ false → OpenPage lost xs i (suc k) (suc s)
    goes_on l e = record { few = l; here = omega (arith, g.here); clear = clear_on e }

    -- it is read, and stands behind the message: all is read
    read_whole : k ≡ n → lost s ≡ false → reach lost xs i ≡ n + 2
    read_whole z e =
        least_only (λ j. lost (slot_of (placement_of xs) i + j)) (n + 2) (n + 2)
        (record { within = omega arith; before = λ j l. clear_on e j (omega arith); here = λ l. absurd (omega arith) })

    -- no word before the slot is lost
    pub not_spoilt : spoilt lost xs i k ≡ false
    not_spoilt =
        let r = reach lost xs i in
        let l = least_is (λ j. lost (slot_of (placement_of xs) i + j)) (n + 2) in
        let m : k < r = ⊎_elim (λ h. absurd (true_false (l.here (omega (arith, g.few))) (g.clear r h))) (λ h. h) (le_or_lt r k) in
        lt-leb r k m

    -- the page closes: cut short where the word is lost, whole where it is read and stands behind the message
    closes : (b : Bool) → lost s ≡ b → (b ≡ false → k ≡ n) → closed_as b (partly xs i k) ≡ hearing_in lost xs i
    closes true e z = let y : suc k - 1 ≡ k = omega arith in rw (read_cut e, y, lt-ltb (suc k) (n + 2) (omega (arith, g.few)))
    closes false e z =
        rw (
          read_whole (z refl) e,
          take_all k (sending_at xs i).groups (omega (arith, z refl)),
          take_all (n + 2 - 1) (sending_at xs i).groups (omega arith),
          le-ltb (n + 2) (n + 2) (omega arith),
        )

    pub heard_closed : (o : List ℕ) (b : Bool) → lost s ≡ b → (b ≡ false → k ≡ n)
        → heard_of lost xs o ++ (closed_as b (partly xs i k) ∷ []) ≡ heard_of lost xs (o ++ (i ∷ []))
    heard_closed o b e z =
        let y : slot_of (placement_of xs) i + 0 ≡ slot_of (placement_of xs) i = omega arith in
        ap (λ (x : Hearing). heard_of lost xs o ++ (x ∷ [])) (closes b e z) ∙ sym (heard_more o i (sym (ap lost y) ∙ g.clear 0 (omega arith)))
