-- The report of one listing adds up to what the reader reports of it. Assumes nothing.
use mathlib.Core.Path.{◌≡◌, refl, sym, ap, ap₂, ◌∙◌}
use mathlib.Core.Bool.{Bool, true, false, cond, ◌&&◌}
use mathlib.Core.List.{List, map}
use mathlib.Core.Option.{Option, none, some}
use Prim.Native.Nat.{ℕ, zero, suc, ◌+◌, ◌*◌, ◌/◌, ◌≤◌, ◌<◌}
use native.Mathlib.Omega.{arith}
use lib.Dec.{eqb, ltb}
use lib.ListN.{length, get_or}
use borrow.Author.Tests.{eq-eqb, ne_eqb, eqb-true, lt-ltb}
use Rattle.base.specs.Lists.{tab}
use Rattle.base.specs.Search.{sum}
use Rattle.base.proofs.Bools.{both_ways, and_true, and_both}
use Rattle.base.proofs.CountLaws.{one, one_of, one_of_and, and_one_of}
use Rattle.base.proofs.SearchLaws.{sum_cong, sum_ones, sum_pairs, sum_twice, sum_swap}
use Rattle.codeword.specs.Answer.{changed}
use Rattle.codeword.specs.Nearest.{nearest}
use Rattle.codeword.proofs.NearestLaws.{changed_few}
use Rattle.listing.specs.Words.{words_of}
use Rattle.placement.specs.Placement.{frame_of}
use Rattle.reader.specs.Answers as reading
use Rattle.reader.specs.Answers.{Verdict, Reading, judge_listing, answered, read_listing}
use Rattle.reader.specs.Changed.{unless_lost, slot_changed, slots_changed, syncs_changed}
use Rattle.reader.specs.Lines.{lines_heard}
use Rattle.reader.specs.Meaning.{meaning}
use Rattle.reader.specs.Reading as hearing
use Rattle.reader.specs.Reading.{Hearing, State, Heard, hear, read_at, slot_word, sync_word, heard_stretch, heard_in}
use Rattle.reader.specs.declared.Fault.{Fault}
use Rattle.reader.specs.declared.Fault.TheVariants.{Malformed, TooMany, Unsynced}
use Rattle.reader.specs.declared.Meaning.{Meaning}
use Rattle.reader.specs.declared.Meaning.TheVariants.{Lost, Idle, Address, Message}
use Rattle.reader.specs.declared.ReadError.TheVariants.{Fault as Faulty, NoRoom}
use Rattle.std.specs.Prelude.{Ok, Err}
use Rattle.coverage.specs.Agrees.{pages_of_frame, Agrees, AllAgree, AllRefused}
use Rattle.coverage.specs.Rates.{in_class, mended_bits}
use Rattle.coverage.specs.Report.{of_batches, of_fault, of_verdict, coverage_of}
use Rattle.coverage.specs.Tally.{class_by, slot_class, slot_place, sync_place, page_place}
use Rattle.coverage.proofs.FrameLaws.{slots_of, slots_all}
use Rattle.coverage.proofs.PageLaws.{page_place_lem}
use Rattle.coverage.proofs.SlotLaws.{slot_class_lem}
use Rattle.coverage.proofs.TallyLaws.{times_in, times_tab, times_all, tally_at}

-- ---- one word

-- the bits mended in words of classes 1 and 2
worth : (k : ℕ) → k ≤ 2 → one (eqb k 1) + 2 * one (eqb k 2) ≡ k
worth zero h = refl
worth (suc zero) h = refl
worth (suc (suc zero)) h = refl
worth (suc (suc (suc k))) h = absurd (omega arith)

slot_worth : (m : Meaning) (n : ℕ) → n ≤ 2 → one (eqb (class_by m n) 1) + 2 * one (eqb (class_by m n) 2) ≡ unless_lost m n
slot_worth Lost n h = refl
slot_worth Idle n h = worth n h
slot_worth (Address u f) n h = worth n h
slot_worth (Message b) n h = worth n h

not_lost : (n : ℕ) → n ≤ 2 → one (eqb n 3) ≡ 0
not_lost n h = ap one (ne_eqb n 3 (λ e. omega arith))

slot_lost_lem : (m : Meaning) (n : ℕ) → n ≤ 2 → (s : ℕ) (st : State) → (hear s st m).lost ≡ st.lost + one (eqb (class_by m n) 3)
unfolding hear hearing.take
slot_lost_lem Lost n h s st = refl
slot_lost_lem Idle n h s st = omega (arith, not_lost n h)
slot_lost_lem (Address u f) n h s st = omega (arith, not_lost n h)
slot_lost_lem (Message b) n h s st = go st.held
  where
    go : (o : Option Hearing) → (hearing.take b st o).lost ≡ st.lost + one (eqb n 3)
    go none = omega (arith, not_lost n h)
    go (some g) = omega (arith, not_lost n h)

read_lost : (word : ℕ → ℕ) (n : ℕ) → (read_at word n).lost ≡ sum (λ s. one (eqb (slot_class (word s)) 3)) n
unfolding read_at sum slot_class
read_lost word zero = refl
read_lost word (suc n) =
    slot_lost_lem (meaning (nearest (word n))) (changed (word n)) (changed_few (word n)) n (read_at word n)
    ∙ ap (λ (x : ℕ). x + one (eqb (slot_class (word n)) 3)) (read_lost word n)

-- a place is that of one frame and one class
place_apart : (f k g j : ℕ) → k ≤ 3 → j ≤ 3 → eqb (4 * f + k) (4 * g + j) ≡ eqb f g && eqb k j
place_apart f k g j h l =
    both_ways (eqb (4 * f + k) (4 * g + j)) (eqb f g && eqb k j)
    (λ e. let p = eqb-true (4 * f + k) (4 * g + j) e in and_both (eq-eqb f g (omega arith)) (eq-eqb k j (omega arith)))
    (λ e.
    let a = and_true (eqb f g) (eqb k j) e in
    eq-eqb (4 * f + k) (4 * g + j) (omega (arith, eqb-true f g a.0, eqb-true k j a.1)))

-- ---- whole batches

module _ (words : List ℕ) where
  abbrev batches : ℕ
  batches = length words / 17

  abbrev class : ℕ → ℕ
  class s = slot_class (slot_word words s)

  -- the words of class k in frame f, slot by slot, and the sync words, batch by batch
  in_frame : (f k : ℕ) → f < 8 → k ≤ 3 → in_class (of_batches words) f k ≡ sum (λ s. one (eqb (frame_of s) f && eqb (class s) k)) (16 * batches)
  unfolding of_batches
  in_frame f k h l =
      rw (lt-ltb f 8 h)
      (tally_at 32 (tab (slot_place words) (16 * batches)) (4 * f + k) (omega arith)
      ∙ times_tab (slot_place words) (16 * batches) (4 * f + k)
      ∙ sum_cong (λ s. one (eqb (slot_place words s) (4 * f + k))) (λ s. one (eqb (frame_of s) f && eqb (class s) k)) (16 * batches)
      (λ s q. ap one (place_apart (frame_of s) (class s) f k (slot_class_lem (slot_word words s)) l)))

  in_sync : (k : ℕ) → k ≤ 2 → in_class (of_batches words) 8 k ≡ sum (λ q. one (eqb (changed (sync_word words q)) k)) batches
  unfolding of_batches
  in_sync k l = tally_at 3 (tab (sync_place words) batches) k (omega arith) ∙ times_tab (sync_place words) batches k

  -- a class in all frames
  of_class : (k : ℕ) → k ≤ 3 → sum (λ f. in_class (of_batches words) f k) 8 ≡ sum (λ s. one (eqb (class s) k)) (16 * batches)
  of_class k l =
      sum_cong (λ f. in_class (of_batches words) f k) (λ f. sum (λ s. one (eqb (frame_of s) f && eqb (class s) k)) (16 * batches)) 8 (λ f h. in_frame f k h l)
      ∙ sum_swap (λ f s. one (eqb (frame_of s) f && eqb (class s) k)) 8 (16 * batches)
      ∙ sum_cong (λ s. sum (λ f. one (eqb (frame_of s) f && eqb (class s) k)) 8) (λ s. one (eqb (class s) k)) (16 * batches)
      (λ s q. one_of_and (frame_of s) 8 (eqb (class s) k) (omega arith))

  -- all classes of a frame
  of_frame : (f : ℕ) → f < 8
      → in_class (of_batches words) f 0 + in_class (of_batches words) f 1 + in_class (of_batches words) f 2 + in_class (of_batches words) f 3 ≡ slots_of f (16 * batches)
  unfolding sum
  of_frame f h =
      omega (
        arith,
        in_frame f 0 h (omega arith),
        in_frame f 1 h (omega arith),
        in_frame f 2 h (omega arith),
        in_frame f 3 h (omega arith),
        sum_swap (λ k s. one (eqb (frame_of s) f && eqb (class s) k)) 4 (16 * batches)
            ∙ sum_cong (λ s. sum (λ k. one (eqb (frame_of s) f && eqb (class s) k)) 4) (λ s. one (eqb (frame_of s) f)) (16 * batches)
            (λ s q. and_one_of (eqb (frame_of s) f) (class s) 4 (omega (arith, slot_class_lem (slot_word words s)))),
      )

  -- all classes of sync
  of_sync : in_class (of_batches words) 8 0 + in_class (of_batches words) 8 1 + in_class (of_batches words) 8 2 ≡ batches
  unfolding sum
  of_sync =
      omega (
        arith,
        in_sync 0 (omega arith),
        in_sync 1 (omega arith),
        in_sync 2 (omega arith),
        sum_swap (λ k q. one (eqb (changed (sync_word words q)) k)) 3 batches
            ∙ sum_cong (λ q. sum (λ k. one (eqb (changed (sync_word words q)) k)) 3) (λ q. 1) batches
            (λ q h. one_of (changed (sync_word words q)) 3 (omega (arith, changed_few (sync_word words q)))),
        sum_ones batches,
      )

  -- the mended bits, and the pages
  slots_mended : sum (mended_bits (of_batches words)) 8 ≡ slots_changed (slot_word words) (16 * batches)
  unfolding slot_changed slot_class
  slots_mended =
      sum_twice (λ f. in_class (of_batches words) f 1) (λ f. in_class (of_batches words) f 2) 8
      ∙ ap₂ (λ (a b : ℕ). a + 2 * b) (of_class 1 (omega arith)) (of_class 2 (omega arith))
      ∙ sym (sum_twice (λ s. one (eqb (class s) 1)) (λ s. one (eqb (class s) 2)) (16 * batches))
      ∙ sum_cong (λ s. one (eqb (class s) 1) + 2 * one (eqb (class s) 2)) (λ s. slot_changed (slot_word words s)) (16 * batches)
      (λ s q. slot_worth (meaning (nearest (slot_word words s))) (changed (slot_word words s)) (changed_few (slot_word words s)))

  syncs_mended : mended_bits (of_batches words) 8 ≡ syncs_changed (sync_word words) batches
  syncs_mended =
      ap₂ (λ (a b : ℕ). a + 2 * b) (in_sync 1 (omega arith)) (in_sync 2 (omega arith))
      ∙ sym (sum_twice (λ q. one (eqb (changed (sync_word words q)) 1)) (λ q. one (eqb (changed (sync_word words q)) 2)) batches)
      ∙ sum_cong (λ q. one (eqb (changed (sync_word words q)) 1) + 2 * one (eqb (changed (sync_word words q)) 2)) (λ q. changed (sync_word words q)) batches
      (λ q h. worth (changed (sync_word words q)) (changed_few (sync_word words q)))

  abbrev pages : List Hearing
  pages = (heard_in words).pages

  at_place : (i : ℕ) → i < 16 → get_or (of_batches words).pages i 0 ≡ times_in (map page_place pages) i
  unfolding of_batches
  at_place i h = tally_at 16 (map page_place pages) i h

  of_pages : sum (pages_of_frame (of_batches words)) 8 ≡ length pages
  of_pages =
      sum_cong (pages_of_frame (of_batches words)) (λ f. times_in (map page_place pages) (2 * f) + times_in (map page_place pages) (2 * f + 1)) 8
      (λ f h. ap₂ ◌+◌ (at_place (2 * f) (omega arith)) (at_place (2 * f + 1) (omega arith)))
      ∙ sum_pairs (times_in (map page_place pages)) 8
      ∙ times_all page_place 16 page_place_lem pages

  batches_agree : (bytes : ℕ) → Agrees (of_batches words) batches (Ok (record { pages = length pages; lost = (heard_in words).lost; orphans = (heard_in words).orphans; changed = (heard_in words).changed; bytes = bytes }))
  unfolding heard_stretch
  batches_agree bytes = record {
    lost_words = of_class 3 (omega arith) ∙ sym (read_lost (slot_word words) (16 * batches));
    all_pages = of_pages;
    mended_slots = slots_mended;
    mended_syncs = syncs_mended;
    all_words = λ f h. of_frame f h ∙ slots_all f batches h;
    all_syncs = of_sync;
  }

-- ---- every listing

module _ (words : List ℕ) (room : ℕ) where
  abbrev heard : Heard
  heard = heard_in words

  -- what is answered where there is room
  abbrev roomy : Reading
  roomy = Ok (record { pages = length heard.pages; lost = heard.lost; orphans = heard.orphans; changed = heard.changed; bytes = length (lines_heard heard.pages) })

  printed_agrees : (b : Bool) → reading.number_of (cond b (Err NoRoom) roomy) ≡ 0 → Agrees (of_batches words) (length words / 17) (cond b (Err NoRoom) roomy)
  printed_agrees true e = absurd (omega arith)
  printed_agrees false e = batches_agree words (length (lines_heard heard.pages))

  verdict_agrees : (v : Verdict) → reading.number_of (answered v heard room) ≡ 0 → Agrees (of_verdict v words) (length words / 17) (answered v heard room)
  verdict_agrees (Err (Malformed line)) e = absurd (omega arith)
  verdict_agrees (Err (TooMany line)) e = absurd (omega arith)
  verdict_agrees (Err (Unsynced batch)) e = absurd (omega arith)
  verdict_agrees (Ok sound) e = printed_agrees (ltb room (length (lines_heard heard.pages))) e

  verdict_refuses : (v : Verdict) (why : Fault) → answered v heard room ≡ Err (Faulty why) → of_verdict v words ≡ of_fault why
  verdict_refuses (Err w) why e = ap of_fault cc
  verdict_refuses (Ok sound) why e = absurd (go (ltb room (length (lines_heard heard.pages))) e)
    where
      go : (b : Bool) → cond b (Err NoRoom) roomy ≡ Err (Faulty why) → ⊥
      go true q = let z : ◌≡◌ {A = ℕ} 0 1 = cc in omega arith
      go false q = let z : ◌≡◌ {A = ℕ} 0 1 = cc in omega arith

pub agrees : AllAgree
unfolding coverage_of read_listing
agrees s room = verdict_agrees (words_of s) room (judge_listing s)

pub refuses : AllRefused
unfolding coverage_of read_listing
refuses s room = verdict_refuses (words_of s) room (judge_listing s)
