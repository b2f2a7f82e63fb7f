-- The line of a page whose address has at most two flips: the page's own, or one that is cut short. Assumes nothing.
use mathlib.Core.Path.{◌≡◌, sym, ap, ◌∙◌}
use mathlib.Core.Bool.{false}
use mathlib.Core.List.{List}
use mathlib.Core.Logic.{⊎_elim}
use Prim.Native.Nat.{ℕ, ◌+◌, ◌-◌, ◌≤◌, ◌<◌}
use native.Mathlib.Omega.{arith}
use lib.Dec.{ltb}
use lib.ListN.{length, take, length-take}
use lib.Seq.{take_all}
use borrow.Author.Tests.{lt-ltb, le-ltb, ltb-true, ltb-false}
use Rattle.std.specs.Prelude.{Ok}
use Rattle.base.proofs.Bools.{true_false}
use Rattle.base.proofs.SearchLaws.{Least, least_is, least_only, le_or_lt}
use Rattle.job.specs.Submission.{Submission}
use Rattle.job.specs.Line.{function_of}
use Rattle.job.specs.Pages.{page_at, kind_at, digits_at}
use Rattle.job.specs.Print.{printed}
use Rattle.job.specs.Job.{job_of}
use Rattle.transmission.specs.Sending.{Sending, sendings_of, sending_at}
use Rattle.transmission.specs.Transmission.{transmission_of}
use Rattle.transmission.proofs.Sendings.{sending_at_lem}
use Rattle.reader.specs.Lines.{kind_heard, digits_heard, line_heard}
use Rattle.guarantees.specs.Transport.{Received, reach, hearing_in}
use Rattle.guarantees.specs.Demand2.{page_line}
use Rattle.guarantees.specs.Demand3.{page, count}
use Rattle.guarantees.specs.NothingFalse.{slot_count, address_slot, slot_flips, slot_lost, Undamaged, has_dash, Cut, LineOf}
use Rattle.guarantees.proofs.Received.{outside, few_flips}
use Rattle.guarantees.proofs.Digits.{digits_from, digits_begin, digits_whole, digits_undashed, printed_dash, Shown, shown}
use Rattle.guarantees.proofs.LineBack.{HeardBack, page_back, line_back}
use Rattle.guarantees.proofs.Counts.{groups_count, sent_count}

module _ (s : Submission) (words : List ℕ) (p : ℕ) where
  pub not_lost : slot_flips s words p ≤ 2 → slot_lost s words p ≡ false
  not_lost h = le-ltb 2 (slot_flips s words p) h

  pub few : slot_lost s words p ≡ false → slot_flips s words p ≤ 2
  few e = ltb-false 2 (slot_flips s words p) e

-- the line of page i, as far as it is read
abbrev pub line_read : Submission → List ℕ → ℕ → List ℕ
line_read s words i = line_heard (hearing_in (slot_lost s words) (sendings_of s) i)

module _ (s : Submission) (n : ℕ) (ok : job_of s ≡ Ok n) (most : ℕ) (three : most ≤ 3) (words : List ℕ)
    (rec : Received most (transmission_of (sendings_of s)) words) (i : ℕ) (l : i < n) (address_read : slot_flips s words (address_slot s i) ≤ 2) where
  abbrev m : ℕ
  m = reach (slot_lost s words) (sendings_of s) i

  reads : Least (λ j. slot_lost s words (address_slot s i + j)) (count s i + 2) m
  reads = rw (← sent_count s n ok i l) (least_is (λ j. slot_lost s words (address_slot s i + j)) (length (sending_at (sendings_of s) i).groups + 2))

  -- behind the last slot no word has flips
  no_flips : (p : ℕ) → slot_count s ≤ p → slot_flips s words p ≡ 0
  no_flips p h = outside (sendings_of s) most words rec p h

  -- ---- how far it is read

  some_read : 0 < m
  some_read =
      let z : address_slot s i + m ≡ address_slot s i → slot_lost s words (address_slot s i + m) ≡ false =
      λ e. ap (slot_lost s words) e ∙ not_lost s words (address_slot s i) address_read in
      ⊎_elim (λ h. absurd (true_false (reads.here (omega arith)) (z (omega arith)))) (λ h. h) (le_or_lt m 0)

  read_on : (j : ℕ) → j < m → slot_flips s words (address_slot s i + j) ≤ 2
  read_on j h = few s words (address_slot s i + j) (reads.before j h)

  undamaged : count s i + 2 ≤ m → Undamaged s words i
  undamaged h =
      let z : address_slot s i + count s i + 1 ≡ address_slot s i + (count s i + 1) = omega arith in
      record {
        codewords = λ j k. omega (arith, read_on j (omega arith));
        next = λ o. rw z (omega (arith, read_on (count s i + 1) (omega arith)));
      }

  all_read : Undamaged s words i → m ≡ count s i + 2
  all_read u =
      rw (sent_count s n ok i l)
      (least_only (λ j. slot_lost s words (address_slot s i + j)) (count s i + 2) (count s i + 2)
      (record { within = omega arith; before = λ j h. not_lost s words (address_slot s i + j) (within j h); here = λ h. absurd (omega arith) }))
    where
      within : (j : ℕ) → j < count s i + 2 → slot_flips s words (address_slot s i + j) ≤ 2
      within j h =
          ⊎_elim
          (λ k. omega (arith, u.codewords j k))
          (λ k.
          let z : address_slot s i + j ≡ address_slot s i + count s i + 1 = omega arith in
          rw z (⊎_elim (λ o. omega (arith, no_flips (address_slot s i + count s i + 1) o)) (λ o. omega (arith, u.next o))
          (le_or_lt (slot_count s) (address_slot s i + count s i + 1))))
          (le_or_lt j (count s i))

  -- ---- its line

  abbrev kind : ℕ
  kind = kind_at s i

  abbrev groups : List ℕ
  groups = take (m - 1) (page s i).groups

  back : HeardBack kind (digits_at s i)
  back = page_back s n ok i l

  seen : Shown kind groups
  seen = shown kind groups back.known (λ h. let e = back.tone h in omega (arith, length-take (m - 1) (page s i).groups))

  line_is : line_read s words i
      ≡ printed (page_at s i).identity (kind_heard (function_of kind) groups) (digits_from kind groups) (ltb m (count s i + 2))
  line_is =
      ap
      (λ (x : Sending).
      printed x.identity (kind_heard x.function (take (m - 1) x.groups)) (digits_heard x.function (take (m - 1) x.groups))
      (ltb m (length x.groups + 2)))
      (sending_at_lem s i)
      ∙ rw (groups_count s n ok i l)
      (ap (λ (ds : List ℕ). printed (page_at s i).identity (kind_heard (function_of kind) groups) ds (ltb m (count s i + 2))) seen.digits_are)

  dashed : has_dash (line_read s words i) ≡ ltb m (count s i + 2)
  dashed = ap has_dash line_is ∙ printed_dash _ _ (digits_from kind groups) _ (digits_undashed kind groups)

  own_line : m ≡ count s i + 2 → line_read s words i ≡ page_line s i
  own_line e =
      let gs = (sending_at (sendings_of s) i).groups in
      let c = sent_count s n ok i l in
      rw (e, take_all (count s i + 2 - 1) gs (omega arith), le-ltb (count s i + 2) (length gs + 2) (omega arith)) (line_back s n ok i l)

  -- ---- where it is cut short

  cut_line : m < count s i + 2 → Cut s words i (line_read s words i)
  cut_line short =
      let some = some_read in
      let next : address_slot s i + (m - 1) + 1 ≡ address_slot s i + m = omega arith in
      let lost : 2 < slot_flips s words (address_slot s i + m) = ltb-true 2 (slot_flips s words (address_slot s i + m)) (reads.here short) in
      let front : length groups ≡ m - 1 = omega (arith, length-take (m - 1) (page s i).groups, groups_count s n ok i l) in
      record {
        read = m - 1;
        within = omega arith;
        before = λ j h. read_on j (omega arith);
        inside =
            rw next (⊎_elim (λ h. absurd (omega (arith, no_flips (address_slot s i + m) h))) (λ h. h) (le_or_lt (slot_count s) (address_slot s i + m)));
        broken = rw next (omega (arith, few_flips (sendings_of s) most words rec (address_slot s i + m)));
        kind = kind_heard (function_of kind) groups;
        digits = digits_from kind groups;
        line_is =
            line_is
            ∙ ap (printed (page_at s i).identity (kind_heard (function_of kind) groups) (digits_from kind groups))
            (lt-ltb m (count s i + 2) short);
        digits_are = sym seen.digits_are;
        whole = digits_whole kind groups;
        begins = rw back.back at (digits_begin kind (m - 1) (page s i).groups);
        tone = λ e. seen.tone_is (front ∙ e);
        same = λ h. seen.kind_is (omega arith);
      }

  pub line_of : LineOf s words i (line_read s words i)
  line_of =
      let whole : has_dash (line_read s words i) ≡ false → count s i + 2 ≤ m = λ e. ltb-false m (count s i + 2) (sym dashed ∙ e) in
      record {
        whole = λ u. dashed ∙ le-ltb m (count s i + 2) (omega (arith, all_read u));
        undamaged = λ e. undamaged (whole e);
        own = λ e. own_line (omega (arith, whole e, reads.within));
        cut = λ e. cut_line (ltb-true m (count s i + 2) (sym dashed ∙ e));
      }
