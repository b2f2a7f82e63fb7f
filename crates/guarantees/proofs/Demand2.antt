-- Demand 2 whole: the transport's half, the texts' half and the listing composed. Assumes nothing.
use mathlib.Core.Path.{◌≡◌, sym, ◌∙◌}
use mathlib.Core.List.{List}
use Prim.Native.Nat.{ℕ, ◌≤◌}
use native.Mathlib.Omega.{arith}
use lib.ListN.{length, get_or, drop, length-map}
use lib.Seq.{take-append_seam}
use Rattle.std.specs.Prelude.{Ok}
use Rattle.job.specs.Submission.{Submission}
use Rattle.job.specs.Job.{job_of}
use Rattle.transmission.specs.Sending.{sendings_of, sending_at, placement_of}
use Rattle.transmission.specs.Transmission.{codewords_of, transmission_of}
use Rattle.transmission.specs.Report.{sent, report_of}
use Rattle.transmission.proofs.Sendings.{sendable, accepted_sendings}
use Rattle.transmission.proofs.TransmissionLaws.{transmission_length}
use Rattle.reader.specs.Reading.{Heard}
use Rattle.reader.specs.Lines.{lines_heard}
use Rattle.reader.specs.Answers.{Reading}
use Rattle.guarantees.specs.Order.{InOrder}
use Rattle.guarantees.specs.Transport.{Received, flips_in, hearing_of, as_sent}
use Rattle.guarantees.specs.Demand2.{page_line, in_slot_order, lines_in_order, GivesBack, SamePages, Demand2, words_left, SentThenRead}
use Rattle.guarantees.proofs.Order.{in_order}
use Rattle.guarantees.proofs.Counts.{page_count}
use Rattle.guarantees.proofs.Received.{clean}
use Rattle.guarantees.proofs.Transport.{heard_as_sent}
use Rattle.guarantees.proofs.Answered.{lines_are, GivesHeard, from_words, from_listing}
use Rattle.guarantees.proofs.LineBack.{line_back}
use Rattle.guarantees.proofs.Reported.{reported}

-- ---- an accepted job

module _ (s : Submission) (n : ℕ) (ok : job_of s ≡ Ok n) where
  pub ordered : InOrder (placement_of (sendings_of s)) (in_slot_order s)
  ordered = in_order (placement_of (sendings_of s)) (sendable (accepted_sendings s n ok)).framed

  module _ (words : List ℕ) where
    abbrev heard : Heard
    heard = as_sent (sendings_of s) (flips_in (sendings_of s) words)

    all_lines : lines_heard heard.pages ≡ lines_in_order s
    unfolding as_sent
    all_lines =
        lines_are (λ p. hearing_of (sending_at (sendings_of s) p)) (page_line s) (in_slot_order s)
        (λ k l. line_back s n ok (get_or (in_slot_order s) k 0) (omega (arith, ordered.only k l, page_count s n ok)))

    all_pages : length heard.pages ≡ n
    unfolding as_sent
    all_pages = length-map (in_slot_order s) (λ p. hearing_of (sending_at (sendings_of s) p)) ∙ ordered.once ∙ page_count s n ok

    gives_back : (room : ℕ) (answer : Reading) (behind : List ℕ) → GivesHeard heard room answer behind → GivesBack s n words room answer behind
    unfolding as_sent
    gives_back room answer behind g = rw (all_lines, all_pages) at g

    same_pages : {most : ℕ} → Received most (transmission_of (sendings_of s)) words → most ≤ 2 → SamePages s n words
    same_pages {most} rec few =
        let xs = sendings_of s in
        let a = accepted_sendings s n ok in
        let t = heard_as_sent xs a most few words rec in
        record {
          in_order = ordered;
          from_words = λ room. gives_back room _ _ (from_words xs a most words rec heard t room);
          from_listing = λ room. gives_back room _ _ (from_listing xs a most words rec heard t room);
        }

pub demand2 : Demand2
demand2 s n ok words rec = same_pages s n ok words rec (omega arith)

-- ---- from what `send` reports

module _ (s : Submission) (old : List ℕ) (slots b m : ℕ) (sent : report_of s (length old) slots ≡ sent b m) where
  pub front : words_left s old slots m ≡ transmission_of (sendings_of s)
  front =
      let n : m ≡ length (transmission_of (sendings_of s)) =
      (reported s (length old) slots sent).words_are ∙ sym (transmission_length (codewords_of (sendings_of s)) (placement_of (sendings_of s))) in
      rw (sent, n) (take-append_seam (transmission_of (sendings_of s)) (drop (length (transmission_of (sendings_of s))) old))

pub sent_then_read : SentThenRead
sent_then_read s old slots b m sent =
    let r = reported s (length old) slots sent in
    let e = front s old slots b m sent in
    record {
      pages = r.pages;
      accepted = r.accepted;
      transmitted = e;
      clean = rw e (demand2 s r.pages r.accepted (transmission_of (sendings_of s)) (clean (sendings_of s)));
      flipped = λ words rec. demand2 s r.pages r.accepted words (rw e at rec);
    }
