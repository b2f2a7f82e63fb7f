-- Reading along the placement's slots, some of whose words are lost: one invariant of the placement's state and the reader's.
-- Assumes nothing.
use mathlib.Core.Path.{◌≡◌, refl, sym, ap, ◌∙◌}
use mathlib.Core.Bool.{Bool, true, false, cond}
use mathlib.Core.List.{List, [], ◌∷◌, ◌++◌}
use mathlib.Core.Option.{Option, none, some}
use Prim.Native.Nat.{ℕ, suc, ◌+◌, ◌*◌, ◌-◌, ◌/◌, ◌≤◌, ◌<◌}
use native.Mathlib.Omega.{arith}
use lib.ListN.{length, get_or}
use borrow.Author.Tests.{le-leb, leb-true}
use Rattle.base.proofs.Bools.{true_false}
use Rattle.placement.specs.Placement as placement
use Rattle.placement.specs.Placement.{Content, idle, address, message, frame_of, slot_of}
use Rattle.placement.proofs.Turn.{Turn, runs, starts, rests, ready_true}
use Rattle.transmission.specs.Sending.{Sending, sending_at, placement_of}
use Rattle.transmission.proofs.Sendings.{frame_at, words_at}
use Rattle.reader.specs.Reading.{Hearing, State, opened, close, take, hear}
use Rattle.reader.specs.declared.Meaning.{Meaning}
use Rattle.reader.specs.declared.Meaning.TheVariants.{Lost}
use Rattle.guarantees.specs.Order.{with_address}
use Rattle.guarantees.specs.Transport.{reach, heard_of, spoilt, orphaned}
use Rattle.guarantees.proofs.Words.{meaning_in}
use Rattle.guarantees.proofs.OpenPage.{partly, partly_more, OpenPage, opens, goes_on, all_spoilt, read_cut, not_spoilt, heard_closed, heard_skip}

-- what the word of a slot says that holds c: that it is lost, or what was sent
abbrev pub said_in : Bool → List Sending → Content → Meaning
said_in b xs c = cond b Lost (meaning_in xs c)

-- a page opens in a slot of its frame
starts_as : (xs : List Sending) (s i : ℕ) → (placement_of xs).frame i ≡ frame_of s
    → opened s ((sending_at xs i).identity / 8 * 8) (sending_at xs i).function ≡ partly xs i 0
starts_as xs s i e =
    let id : (sending_at xs i).identity / 8 * 8 + frame_of s ≡ (sending_at xs i).identity = omega (arith, frame_at xs i) in
    ap (λ (x : ℕ). record { identity = x; function = (sending_at xs i).function; groups = []; cut = false }) id

-- The placement's state before slot s, the pages whose address has gone out, and what has been read. No page is open, and the message
-- that runs, if any, is that of a page of which a word is lost; or the last page that went out is open, with the groups that have gone out.
pub data SoFar (lost : ℕ → Bool) (xs : List Sending) (s : ℕ) (st : placement.State) (o : List ℕ) (r : State) : Type 0 where
  closed : (0 < st.left → spoilt lost xs st.page ((placement_of xs).words st.page - st.left) ≡ true)
      → r.held ≡ none → r.pages ≡ heard_of lost xs o → SoFar lost xs s st o r
  going : (p : List ℕ) → o ≡ p ++ (st.page ∷ []) → (k : ℕ) → k + st.left ≡ length (sending_at xs st.page).groups → OpenPage lost xs st.page k s
      → r.held ≡ some (partly xs st.page k) → r.pages ≡ heard_of lost xs p → SoFar lost xs s st o r

module _ (lost : ℕ → Bool) (xs : List Sending) where
  -- where no message runs, closing gives all that went out: with slot s lost, or not
  pub all_closed : (s : ℕ) (b : Bool) (st : placement.State) (o : List ℕ) (r : State) → lost s ≡ b → st.left ≡ 0 → SoFar lost xs s st o r
      → close b r.pages r.held ≡ heard_of lost xs o
  unfolding close
  all_closed s b st o r e z (closed sp h q) = rw (h, q)
  all_closed s b st o r e z (going p u k t g h q) = rw (h, q, u) (heard_closed lost xs st.page k s g p b e (λ _. omega arith))

  -- what stands behind a lost word stands behind it further on too
  spoilt_on : (i j k : ℕ) → j ≤ k → spoilt lost xs i j ≡ true → spoilt lost xs i k ≡ true
  spoilt_on i j k h e = le-leb (reach lost xs i) k (omega (arith, leb-true (reach lost xs i) j e))

  -- one slot, lost or not
  pub turned : (s : ℕ) (b : Bool) (st st' : placement.State) (c : Content) (o : List ℕ) (r : State) → lost s ≡ b
      → ((i : ℕ) → c ≡ address i → s ≡ slot_of (placement_of xs) i) → Turn (placement_of xs) s st c st' → SoFar lost xs s st o r
      → SoFar lost xs (suc s) st' (with_address o c) (hear s r (said_in b xs c))
  unfolding hear take close
  turned s true st st' c o r e at (runs l z) (closed sp h q) =
      closed (λ m. spoilt_on st.page _ _ (omega arith) (sp (omega arith))) refl (rw h q)
  turned s false st st' c o r e at (runs l z) (closed sp h q) =
      closed (λ m. spoilt_on st.page _ _ (omega arith) (sp (omega arith))) (rw h) (rw h q)
  turned s true st st' c o r e at (runs l z) (going p u k t g h q) =
      closed (λ m. rw (read_cut lost xs st.page k s g e) (le-leb (suc k) _ (omega (arith, words_at xs st.page)))) refl
      (rw (h, q, u) (heard_closed lost xs st.page k s g p true e (λ f. absurd (true_false refl f))))
  turned s false st st' c o r e at (runs l z) (going p u k t g h q) =
      let j : (placement_of xs).words st.page - suc l ≡ k = omega (arith, words_at xs st.page) in
      let inside : k < length (sending_at xs st.page).groups = omega arith in
      going p u (suc k) (omega arith) (goes_on lost xs st.page k s g inside e) (rw (h, j) (ap some (partly_more xs st.page k inside))) (rw h q)
  turned s true st st' c o r e at (starts i z l may _) so =
      let there : lost (slot_of (placement_of xs) i) ≡ true = ap lost (sym (at i refl)) ∙ e in
      closed (λ m. all_spoilt lost xs i _ there) refl (all_closed s true st o r e z so ∙ sym (heard_skip lost xs o i there))
  turned s false st st' c o r e at (starts i z l may _) so =
      going o refl 0 (omega (arith, words_at xs i)) (opens lost xs i s (at i refl) e)
      (ap some (starts_as xs s i (ready_true (placement_of xs) s st i may).1)) (all_closed s false st o r e z so)
  turned s true st st' c o r e at (rests z _) so = closed (λ m. absurd (omega arith)) refl (all_closed s true st o r e z so)
  turned s false st st' c o r e at (rests z _) so = closed (λ m. absurd (omega arith)) refl (all_closed s false st o r e z so)

  -- the orphans after it
  pub orphans_more : (s : ℕ) (b : Bool) (st st' : placement.State) (c : Content) (o : List ℕ) (r : State) → lost s ≡ b
      → Turn (placement_of xs) s st c st' → SoFar lost xs s st o r → (hear s r (said_in b xs c)).orphans ≡ r.orphans + cond (orphaned lost xs s c) 1 0
  unfolding hear take
  orphans_more s true st st' c o r e (runs l z) so = rw e (omega arith)
  orphans_more s false st st' c o r e (runs l z) (closed sp h q) =
      let behind : spoilt lost xs st.page ((placement_of xs).words st.page - suc l) ≡ true = rw z at (sp (omega arith)) in
      rw (h, e) (ap (λ (x : Bool). r.orphans + cond x 1 0) (sym behind))
  orphans_more s false st st' c o r e (runs l z) (going p u k t g h q) =
      let j : (placement_of xs).words st.page - suc l ≡ k = omega (arith, words_at xs st.page) in
      rw (h, e, j, not_spoilt lost xs st.page k s g) (omega arith)
  orphans_more s true st st' c o r e (starts i z l may _) so = omega arith
  orphans_more s false st st' c o r e (starts i z l may _) so = omega arith
  orphans_more s true st st' c o r e (rests z _) so = omega arith
  orphans_more s false st st' c o r e (rests z _) so = omega arith

-- ---- the lost words after one slot

taken_lost : (b : ℕ) (r : State) (h : Option Hearing) → (take b r h).lost ≡ r.lost
unfolding take
taken_lost b r none = refl
taken_lost b r (some h) = refl

pub lost_more : (xs : List Sending) (s : ℕ) (b : Bool) (c : Content) (r : State) → (hear s r (said_in b xs c)).lost ≡ r.lost + cond b 1 0
unfolding hear
lost_more xs s true c r = refl
lost_more xs s false idle r = omega arith
lost_more xs s false (address i) r = omega arith
lost_more xs s false (message i j) r = taken_lost (get_or (sending_at xs i).groups j 0) r r.held ∙ omega arith
