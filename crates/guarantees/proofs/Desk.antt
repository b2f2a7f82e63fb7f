-- What the following program prints beside the reading one. Assumes nothing.
use mathlib.Core.Path.{◌≡◌, refl, sym, ap, ◌∙◌}
use mathlib.Core.List.{List}
use mathlib.Core.Logic.{⊎_elim}
use Prim.Native.Nat.{ℕ, ◌≤◌, ◌<◌}
use native.Mathlib.Omega.{arith}
use lib.ListN.{length}
use borrow.Author.Tests.{lt-ltb, le-ltb}
use Rattle.base.specs.Lines.{split}
use Rattle.base.proofs.SearchLaws.{le_or_lt}
use Rattle.listing.specs.Text.{text_of}
use Rattle.listing.specs.Words.{words_of}
use Rattle.reader.specs.Reading.{heard_in}
use Rattle.reader.specs.Lines.{lines_heard}
use Rattle.reader.specs.Answers as reading
use Rattle.reader.specs.Answers.{Verdict, judge_listing, answered, read_listing}
use Rattle.reader.specs.declared.Fault.TheVariants.{Malformed, TooMany, Unsynced}
use Rattle.std.specs.Prelude.{Ok, Err}
use Rattle.reader.proofs.RoomLaws as reader
use Rattle.follower.specs.Pages.{pages_for}
use Rattle.follower.specs.Answers as following
use Rattle.follower.specs.Answers.{lines_into, unless_faulty, follow_judged, follow_listing}
use Rattle.follower.specs.SameLines.{lines_for}
use Rattle.follower.proofs.SameLines.{same_lines}
use Rattle.follower.proofs.RoomLaws as follower
use Rattle.program.specs.Prints.{read_prints, follow_prints}
use Rattle.guarantees.specs.Demand2.{lines_in_order}
use Rattle.guarantees.specs.Desk.{Followable, ReadWhole, Desk, DeskSent}
use Rattle.guarantees.proofs.Demand2.{demand2}
use Rattle.guarantees.proofs.Programs.{printed, received_short, read_whole, read_lines}

module _ (i : ℕ) (good : Followable i) (s : List ℕ) where
  -- the answers of both, by the verdict
  follow_by : {v : Verdict} → judge_listing s ≡ v → follow_listing i s 48000 ≡ unless_faulty v (lines_into (pages_for i (words_of s)) 48000)
  unfolding follow_listing follow_judged
  follow_by e = rw (le-ltb 0x1FFFFF i good.range, good.free, e)

  read_by : {v : Verdict} → judge_listing s ≡ v → read_listing s 48000 ≡ answered v (heard_in (words_of s)) 48000
  unfolding read_listing
  read_by e = rw e

  -- there is room for all lines
  read_fits : judge_listing s ≡ Ok tt → length (lines_heard (heard_in (words_of s)).pages) ≤ 48000
  read_fits e =
      let n = length (lines_heard (heard_in (words_of s)).pages) in
      ⊎_elim (λ l. l) (λ (l : 48000 < n). absurd ((reader.enough).of_listing s 48000 (omega arith) (ap reading.number_of (read_by e) ∙ rw (lt-ltb 48000 n l))))
      (le_or_lt n 48000)

  follow_fits : judge_listing s ≡ Ok tt → length (lines_heard (pages_for i (words_of s))) ≤ 48000
  follow_fits e =
      let n = length (lines_heard (pages_for i (words_of s))) in
      ⊎_elim (λ l. l) (λ (l : 48000 < n). absurd ((follower.enough i).of_listing s 48000 (omega arith) (ap following.number_of (follow_by e) ∙ rw (lt-ltb 48000 n l))))
      (le_or_lt n 48000)

  module _ (short : length s ≤ 65536) where
    -- all can be read: both print lines
    lines_read_lem : judge_listing s ≡ Ok tt → read_prints s ≡ lines_heard (heard_in (words_of s)).pages
    unfolding read_prints
    lines_read_lem e = rw (le-ltb 65536 (length s) short, read_by e, le-ltb 48000 (length (lines_heard (heard_in (words_of s)).pages)) (read_fits e))

    lines_followed_lem : judge_listing s ≡ Ok tt → follow_prints i s ≡ lines_heard (pages_for i (words_of s))
    unfolding follow_prints
    lines_followed_lem e = rw (le-ltb 65536 (length s) short, follow_by e, le-ltb 48000 (length (lines_heard (pages_for i (words_of s)))) (follow_fits e))

    -- it can't: both print the same refusal
    refused : (v : Verdict) → judge_listing s ≡ v → (v ≡ Ok tt → ⊥) → follow_prints i s ≡ read_prints s
    unfolding read_prints follow_prints
    refused (Ok sound) e h = absurd (h refl)
    refused (Err why) e h = rw (le-ltb 65536 (length s) short, read_by e, follow_by e)

  -- what is read whole can be read
  read_sound : (v : Verdict) → judge_listing s ≡ v → reading.number_of (read_listing s 48000) ≡ 0 → v ≡ Ok tt
  read_sound (Ok sound) e z = refl
  read_sound (Err (Malformed line)) e z = absurd (omega (arith, ap reading.number_of (read_by e)))
  read_sound (Err (TooMany line)) e z = absurd (omega (arith, ap reading.number_of (read_by e)))
  read_sound (Err (Unsynced batch)) e z = absurd (omega (arith, ap reading.number_of (read_by e)))

  sound_read : judge_listing s ≡ Ok tt → reading.number_of (read_listing s 48000) ≡ 0
  sound_read e = ap reading.number_of (read_by e) ∙ rw (le-ltb 48000 (length (lines_heard (heard_in (words_of s)).pages)) (read_fits e))

  lines_same : ReadWhole s → follow_prints i s ≡ lines_for i (split (read_prints s))
  lines_same r =
      let e = read_sound (judge_listing s) refl r.whole in
      lines_followed_lem r.short e ∙ (same_lines i).of_pages (words_of s) ∙ ap (λ (t : List ℕ). lines_for i (split t)) (sym (lines_read_lem r.short e))

  long_same : 65536 < length s → follow_prints i s ≡ read_prints s
  unfolding read_prints follow_prints
  long_same l = rw (lt-ltb 65536 (length s) l)

  declined_same : (ReadWhole s → ⊥) → follow_prints i s ≡ read_prints s
  declined_same h =
      ⊎_elim
      (λ (l : length s ≤ 65536). refused l (judge_listing s) refl (λ e. h (record { short = l; whole = sound_read e })))
      long_same (le_or_lt (length s) 65536)

  pub desk : Desk i s
  desk = record {
    lines = λ old left old' left' n n' read follow r. printed (follow_prints i) follow ∙ lines_same r ∙ ap (λ (t : List ℕ). lines_for i (split t)) (sym (printed read_prints read));
    declined = λ old left old' left' n n' read follow h. printed (follow_prints i) follow ∙ declined_same h ∙ sym (printed read_prints read);
  }

pub desk_sent : DeskSent
desk_sent s n ok i good words old left m r call =
    let back = (demand2 s n ok words r).from_listing 48000 in
    let short = received_short s n ok words r in
    printed (follow_prints i) call
    ∙ lines_same i good (text_of words) (record { short = short; whole = read_whole (text_of words) (lines_in_order s) back })
    ∙ ap (λ (t : List ℕ). lines_for i (split t)) (read_lines (text_of words) (lines_in_order s) back short)
