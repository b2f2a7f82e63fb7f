-- R-9: nothing false with three wrong bits. Assumes nothing.
use mathlib.Core.Path.{◌≡◌, refl, sym, ap, ◌∙◌}
use mathlib.Core.Bool.{Bool, not, not-not}
use mathlib.Core.List.{List}
use Prim.Native.Nat.{ℕ, ◌≤◌, ◌<◌}
use native.Mathlib.Omega.{arith}
use lib.ListN.{length, get_or, length-map}
use borrow.Author.Tests.{lt-ltb}
use Rattle.std.specs.Prelude.{Ok}
use Rattle.base.specs.Passing.{passing}
use Rattle.base.proofs.PassingLaws.{Within, passing_within}
use Rattle.codeword.specs.Nearest.{nearest}
use Rattle.job.specs.Submission.{Submission}
use Rattle.job.specs.Job.{job_of}
use Rattle.placement.specs.Placement.{content_at}
use Rattle.transmission.specs.Sending.{Sending, sendings_of, placement_of}
use Rattle.transmission.specs.Transmission.{transmission_of}
use Rattle.transmission.proofs.Sendings.{accepted_sendings}
use Rattle.reader.specs.Meaning.{meaning}
use Rattle.reader.specs.Reading.{Heard}
use Rattle.reader.specs.declared.Meaning.TheVariants.{Lost}
use Rattle.reader.specs.Answers.{Reading}
use Rattle.guarantees.specs.Transport.{Received, flips_but, is_read, hearing_in, heard_but}
use Rattle.guarantees.specs.Demand2.{in_slot_order}
use Rattle.guarantees.specs.Demand3.{word_in}
use Rattle.guarantees.specs.NothingFalse.{slot_count, address_slot, slot_flips, slot_lost, Logged, GivesLog, NothingFalse, ThreeWrongBits}
use Rattle.guarantees.proofs.SoFar.{said_in}
use Rattle.guarantees.proofs.Received.{received_word, says_slot}
use Rattle.guarantees.proofs.Transport.{heard_but_lem}
use Rattle.guarantees.proofs.Answered.{lines_are, GivesHeard, from_words, from_listing}
use Rattle.guarantees.proofs.Counts.{page_count}
use Rattle.guarantees.proofs.DamagedLine.{not_lost, few, line_read, line_of}
use Rattle.guarantees.proofs.Reported.{reported}
use Rattle.guarantees.proofs.Demand2.{ordered, front}

module _ (s : Submission) (n : ℕ) (ok : job_of s ≡ Ok n) (words : List ℕ) where
  abbrev xs : List Sending
  xs = sendings_of s

  -- ---- the pages with a line: those whose address is read

  abbrev pages : List ℕ
  pages = passing (is_read (slot_lost s words) xs) (in_slot_order s)

  within : Within (is_read (slot_lost s words) xs) (in_slot_order s) pages
  within = passing_within (is_read (slot_lost s words) xs) (in_slot_order s)

  logged : Logged s n words pages
  logged =
      record {
        only = λ k l.
            let there = within.there k l in
            let old = (ordered s n ok).only (within.place k) (within.inside k l) in
            (omega (arith, page_count s n ok), few s words (address_slot s (get_or pages k 0)) (sym (not-not _) ∙ ap not (within.passes k l)));
        every = λ i l f.
            let x = (ordered s n ok).every i (omega (arith, page_count s n ok)) in
            let y = within.every x.0 x.1 (rw x.2 (ap not (not_lost s words (address_slot s i) f))) in
            (y.0, y.1, y.2 ∙ x.2);
        rising = λ k l h m.
            let k' : k < length pages = omega arith in
            rw (← within.there k k', ← within.there l m)
            ((ordered s n ok).rising (within.place k) (within.place l) (within.rises k l h m) (within.inside l m));
      }

  -- ---- what is read

  abbrev heard : Heard
  heard = heard_but (slot_lost s words) xs (flips_but (slot_lost s words) xs words)

  gives_log : (room : ℕ) (answer : Reading) (behind : List ℕ) → GivesHeard heard room answer behind
      → GivesLog s words (line_read s words) pages room answer behind
  unfolding heard_but
  gives_log room answer behind g =
      rw (lines_are (hearing_in (slot_lost s words) xs) (line_read s words) pages (λ k l. refl), length-map pages (hearing_in (slot_lost s words) xs)) at g

  module _ (most : ℕ) (rec : Received most (transmission_of xs) words) (three : most ≤ 3) where
    three_lost : (p : ℕ) → p < slot_count s → slot_flips s words p ≡ 3 → meaning (nearest (word_in words p)) ≡ Lost
    three_lost p l e =
        ap (λ (w : ℕ). meaning (nearest w)) (sym (received_word words p))
        ∙ says_slot xs most words rec p l (accepted_sendings s n ok) three
        ∙ ap (λ (b : Bool). said_in b xs (content_at (placement_of xs) p)) (lt-ltb 2 (slot_flips s words p) (omega arith))

    all_true : NothingFalse s n words
    all_true =
        let a = accepted_sendings s n ok in
        let t = heard_but_lem xs a most three words rec in
        record {
          lost = three_lost;
          pages = pages;
          line = line_read s words;
          logged = logged;
          lines = λ i l f. line_of s n ok most three words rec i l f;
          from_words = λ room. gives_log room _ _ (from_words xs a most words rec heard t room);
          from_listing = λ room. gives_log room _ _ (from_listing xs a most words rec heard t room);
        }

pub nothing_false : ThreeWrongBits
nothing_false =
    record {
      of_job = λ s n ok words rec. all_true s n ok words _ rec (omega arith);
      of_sending = λ s old slots b m sent words rec.
          let r = reported s (length old) slots sent in
          (r.pages, r.accepted, all_true s r.pages r.accepted words _ (rw (front s old slots b m sent) at rec) (omega arith));
    }
