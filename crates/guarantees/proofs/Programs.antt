-- The programs one into the other, and the sizes that suffice. Assumes nothing.
use mathlib.Core.Path.{◌≡◌, refl, sym, ap, ◌∙◌}
use mathlib.Core.Logic.{⊎_elim}
use mathlib.Core.List.{List}
use Prim.Native.Nat.{ℕ, ◌≤◌, ◌<◌}
use native.Mathlib.Omega.{arith}
use lib.ListN.{length, take, drop}
use lib.Seq.{take_at}
use borrow.Author.Tests.{le-ltb}
use Rattle.std.specs.Prelude.{Ok, Err}
use Rattle.base.proofs.SearchLaws.{le_or_lt}
use Rattle.job.specs.Submission.{Submission}
use Rattle.job.specs.Job.{job_of}
use Rattle.job.specs.Refusal.{job_number, job_place, job_position, JobAnswer}
use Rattle.job.proofs.Accepted.{accepted_short}
use Rattle.job.proofs.RefusalLaws.{refused_not}
use Rattle.transmission.specs.Sending.{sendings_of}
use Rattle.transmission.specs.Transmission.{transmission_of}
use Rattle.transmission.specs.Report as report
use Rattle.transmission.specs.Report.{report_of}
use Rattle.listing.specs.Text.{text_of}
use Rattle.listing.specs.Words.{words_of}
use Rattle.listing.proofs.TextLaws.{text_length}
use Rattle.reader.specs.Answers.{read_listing, lines_read, number_of, place_of}
use Rattle.reader.specs.declared.Changes.{Changes}
use Rattle.reader.proofs.RoomLaws as reading
use Rattle.follower.proofs.RoomLaws as following
use Rattle.receiver.proofs.RoomLaws as receiving
use Rattle.job_listing.specs.Listed.{listing_text}
use Rattle.job_listing.proofs.RoomLaws as listing
use Rattle.program.specs.Prints.{answer_text, unless_long, send_prints, read_prints}
use Rattle.guarantees.specs.Transport.{Received}
use Rattle.guarantees.specs.Gives.{Gives}
use Rattle.guarantees.specs.Demand2.{lines_in_order}
use Rattle.guarantees.specs.Programs.{ProgramCall, output, OneIntoTheOther, Sizes}
use Rattle.guarantees.proofs.Acceptance.{acceptance}
use Rattle.guarantees.proofs.Demand2.{demand2}
use Rattle.guarantees.proofs.Listed.{listing_back}

-- what is printed is what the definition says
pub printed : {X : Type 0} (prints : X → List ℕ) {s : X} {old left : List ℕ} {n : ℕ} → ProgramCall prints s old n left → output n left ≡ prints s
printed prints {s} {old} {left} {n} call = ap (take n) call.bytes ∙ take_at (prints s) (drop (length (prints s)) old) n (sym call.count)

-- the sending program prints the refusal of the job or its book, or its listing
send_is : (s : Submission) → send_prints s ≡ unless_long s.job (answer_text (job_number (job_of s)) (job_place (job_of s)) (job_position (job_of s)) (listing_text s))
unfolding send_prints
send_is s = let e = listing.enough s 46062 (omega arith) in rw (e.0, e.1, e.2)

send_listing : (s : Submission) (n : ℕ) → job_of s ≡ Ok n → send_prints s ≡ listing_text s
send_listing s n ok = send_is s ∙ rw (le-ltb 65536 (length s.job) (omega (arith, accepted_short s n ok)), ok)

-- a listing that gives these lines is read whole, and printed so
module _ (s lines : List ℕ) {pages : ℕ} {changed : Changes} (g : Gives lines pages 0 0 changed 48000 (read_listing s 48000) (words_of s)) where
  fits : length lines ≤ 48000
  fits =
      ⊎_elim (λ (l : length lines ≤ 48000). l) (λ (l : 48000 < length lines). absurd ((reading.enough).of_listing s 48000 (omega arith) (g.declined l).0))
      (le_or_lt (length lines) 48000)

  pub read_whole : number_of (read_listing s 48000) ≡ 0
  read_whole = ap number_of (g.answered fits)

  pub read_lines : length s ≤ 65536 → read_prints s ≡ lines
  unfolding read_prints
  read_lines h = rw (le-ltb 65536 (length s) h, read_whole) (g.written fits)

-- the listing of as many words as a transmission has is no input of over 65,536 bytes
pub received_short : (s : Submission) (n : ℕ) → job_of s ≡ Ok n → (words : List ℕ) → Received 2 (transmission_of (sendings_of s)) words → length (text_of words) ≤ 65536
received_short s n ok words r =
    omega (arith, text_length 0 words, text_length 0 (transmission_of (sendings_of s)), listing.listing_short s n ok, r.whole)

pub programs : OneIntoTheOther
programs s n ok =
    let sent = send_listing s n ok in
    record {
      sent = λ old left m call. printed send_prints call ∙ sent;
      read_back = λ old left old' left' m m' call read.
          printed read_prints read ∙ ap read_prints (printed send_prints call ∙ sent)
          ∙ read_lines (listing_text s) (lines_in_order s) (listing_back s n ok 48000) (omega (arith, listing.listing_short s n ok));
      flipped = λ words old left m r read.
          printed read_prints read ∙ read_lines (text_of words) (lines_in_order s) ((demand2 s n ok words r).from_listing 48000) (received_short s n ok words r);
    }

-- ---- number 10

job_number_lem : (a : JobAnswer) → job_number a ≡ 10 → ⊥
job_number_lem (Ok n) e = omega arith
job_number_lem (Err r) e = refused_not 10 refl r.why e

sent_number : (s : Submission) (words slots : ℕ) → 5118 ≤ words → 48 ≤ slots → (a : JobAnswer) → job_of s ≡ a → report.number_of (report_of s words slots) ≡ 10 → ⊥
unfolding report_of
sent_number s words slots h k (Ok n) e ten = omega (arith, (acceptance s).enough n e words slots h k)
sent_number s words slots h k (Err r) e ten =
    let is : report.number_of (report.answered (Err r) (sendings_of s) words slots) ≡ 10 = rw e at ten in
    refused_not 10 refl r.why is

read_is : (s : List ℕ) (room : ℕ) → 48000 ≤ room
    → read_prints s ≡ unless_long s (answer_text (number_of (read_listing s room)) (place_of (read_listing s room)) 0 (lines_read (read_listing s room) (words_of s)))
unfolding read_prints
read_is s room h = rw (reading.listing_same s room h)

pub sizes : Sizes
sizes = record {
  words_and_slots = λ s words slots h k. sent_number s words slots h k (job_of s) refl;
  listing = λ s room h e. job_number_lem (job_of s) (sym (listing.enough s room h).0 ∙ e);
  lines_of_words = (reading.enough).of_words;
  lines_of_listing = (reading.enough).of_listing;
  identity_in_words = λ i. (following.enough i).of_words;
  identity_in_listing = λ i. (following.enough i).of_listing;
  lines_of_recording = receiving.enough;
  sending_program = send_is;
  reading_program = read_is;
}
