-- R-10: a recording in which the transmission of an accepted job follows whole gives the job's pages back. Assumes nothing.
use mathlib.Core.Path.{◌≡◌, refl, sym, ap, ◌∙◌}
use mathlib.Core.Bool.{false}
use mathlib.Core.List.{List, ◌++◌}
use mathlib.Core.Logic.{⊎_elim}
use Prim.Native.Nat.{ℕ, ◌+◌, ◌-◌, ◌*◌, ◌^◌, ◌≤◌, ◌<◌}
use native.Mathlib.Omega.{arith}
use lib.ListN.{length, get_or, take, drop, length-append, length-drop, get_or-append}
use lib.Seq.{get_or-drop, get_or-take, length-take-le, drop_at}
use borrow.Author.Tests.{le-ltb}
use Rattle.base.proofs.ListLaws.{tab-length, tab-at}
use Rattle.base.proofs.SearchLaws.{le_or_lt}
use Rattle.job.specs.Submission.{Submission}
use Rattle.placement.specs.Placement.{batches}
use Rattle.transmission.specs.Sending.{Sending, sendings_of, placement_of, AllAllowed}
use Rattle.transmission.specs.Transmission.{codewords_of, transmission_of}
use Rattle.transmission.specs.Transmitted.{slot_index}
use Rattle.transmission.proofs.Sendings.{sendings_limits, accepted_sendings}
use Rattle.transmission.proofs.TransmissionLaws.{transmission_length, transmission_fits, batches_least}
use Rattle.reader.specs.Reading.{Heard, heard_in}
use Rattle.reader.specs.Answers as reader
use Rattle.reader.specs.Answers.{Reading, unsynced, printed_into, read_stretch, read_words, lines_read}
use Rattle.reader.specs.declared.Changes.{Changes}
use Rattle.std.specs.Prelude.{Ok, Err}
use Rattle.reader.proofs.Laws.{sound_words}
use Rattle.receiver.specs.Bits.{word_from}
use Rattle.receiver.specs.Answers.{receive_bits, lines_received, number_of}
use Rattle.std.specs.declared.result.Result.TheVariants.{Err}
use Rattle.receiver.specs.declared.Refusal.TheVariants.{NoRoom}
use Rattle.receiver.proofs.BitLaws.{word_small}
use Rattle.receiver.proofs.RoomLaws.{enough}
use Rattle.program.specs.Prints.{receive_prints}
use Rattle.guarantees.specs.Transport.{flip_count, Received, flips_in, as_sent, HeardAs}
use Rattle.guarantees.specs.Demand2.{lines_in_order, GivesBack}
use Rattle.guarantees.specs.FromBits.{Recorded, words_from, PagesReceived, received_from, JobFromBits, SentThenReceived, ProgramReceives}
use Rattle.guarantees.proofs.Transport.{heard_as_sent}
use Rattle.guarantees.proofs.Demand2.{demand2, front}
use Rattle.guarantees.proofs.Programs.{printed}
use Rattle.guarantees.proofs.Reported.{reported}
use Rattle.guarantees.proofs.OneStretch.{recounted, as_received, received_as, written_as}

-- ---- the words of a recording of sendings

module _ (xs : List Sending) (a : AllAllowed xs) (bits : List ℕ) (t : ℕ) (rec : Recorded bits t (drop 18 (transmission_of xs))) where
  abbrev sent : List ℕ
  sent = transmission_of xs

  abbrev b : ℕ
  b = batches (placement_of xs)

  -- the recorded words
  abbrev words : List ℕ
  words = words_from bits t (17 * b)

  -- the same, the preamble first
  abbrev got : List ℕ
  got = received_from bits t sent

  -- how many words were sent, and how many of them stand behind the preamble
  sent_size : length sent ≡ 18 + 17 * b
  sent_size = transmission_length (codewords_of xs) (placement_of xs)

  behind_size : length (drop 18 sent) ≡ 17 * b
  behind_size = omega (arith, length-drop 18 sent, sent_size)

  -- the preamble has 18
  front_size : length (take 18 sent) ≡ 18
  front_size = length-take-le 18 sent (omega (arith, sent_size))

  -- as many were received
  got_is : got ≡ take 18 sent ++ words
  got_is = let n : length sent - 18 ≡ 17 * b = omega (arith, sent_size) in ap (λ (m : ℕ). take 18 sent ++ words_from bits t m) n

  got_size : length got ≡ length sent
  got_size =
      omega (
        arith,
        ap length got_is,
        length-append (take 18 sent) words,
        front_size,
        tab-length (λ k. word_from bits (t + 32 * k)) (17 * b),
        sent_size,
      )

  -- those behind the preamble are the recorded ones
  got_behind : drop 18 got ≡ words
  got_behind = ap (drop 18) got_is ∙ drop_at (take 18 sent) words 18 front_size

  -- one of them
  got_at : (k : ℕ) → k < 17 * b → get_or got (18 + k) 0 ≡ word_from bits (t + 32 * k)
  got_at k l = sym (get_or-drop 18 got k 0) ∙ ap (λ (w : List ℕ). get_or w k 0) got_behind ∙ tab-at (λ i. word_from bits (t + 32 * i)) (17 * b) k 0 l

  module _ (k : ℕ) (l : k < length got) where
    -- the preamble is as it was sent, and each other word has 32 bits
    early : k < 18 → get_or got k 0 < 2 ^ 32
    early m =
        rw (got_is, get_or-append (take 18 sent) words 0 k (omega (arith, front_size)), get_or-take 18 sent k 0 m) (transmission_fits xs k)

    late : 18 ≤ k → get_or got k 0 < 2 ^ 32
    late m =
        let at : k ≡ 18 + (k - 18) = omega arith in
        rw (at, got_at (k - 18) (omega (arith, got_size, sent_size))) (word_small bits (t + 32 * (k - 18)))

    fits : get_or got k 0 < 2 ^ 32
    fits = ⊎_elim late early (le_or_lt 18 k)

    -- of a recorded word at most two bits are flipped
    few_flips : 18 ≤ k → flip_count sent got k ≤ 2
    few_flips m =
        let j = k - 18 in
        let at : k ≡ 18 + j = omega arith in
        let inside : j < 17 * b = omega (arith, got_size, sent_size) in
        rw (at, got_at j inside, ← (get_or-drop 18 sent j 0)) (omega (arith, rec.flips j (omega (arith, behind_size))))

  -- so they are received words
  received : Received 2 sent got
  received =
      record {
        whole = got_size;
        fits = fits;
        syncs = λ q l. few_flips (18 + 17 * q) l (omega arith);
        slots = λ p l. few_flips (slot_index p) l (omega arith);
      }

  -- the flips that are mended
  abbrev changes : Changes
  changes = flips_in xs got

  -- what is heard of them
  heard_as : HeardAs xs (as_sent xs changes) got
  heard_as = heard_as_sent xs a 2 (omega arith) got received

  -- each recorded batch begins with sync
  synced : (q : ℕ) → q < b → unsynced words q ≡ false
  synced q l = ap (λ (w : List ℕ). unsynced w q) (sym got_behind) ∙ heard_as.synced q l

  -- the bits that are changed are the flips
  heard : heard_in words ≡ recounted (heard_in words) changes
  unfolding as_sent
  heard =
      let e : heard_in words ≡ as_sent xs changes = ap heard_in (sym got_behind) ∙ heard_as.heard in
      e ∙ ap (λ (h : Heard). recounted h changes) (sym e)

  module _ (room : ℕ) where
    -- what reading the recorded words answers
    words_read : read_words words room ≡ printed_into (heard_in words) room
    unfolding read_stretch
    words_read = rw (sound_words words b (batches_least a) (sendings_limits a).most (tab-length (λ k. word_from bits (t + 32 * k)) (17 * b)) synced)

    -- receiving the recording answers the same
    pub answer_is : receive_bits bits room ≡ as_received b changes (read_words words room)
    answer_is =
        received_as rec b behind_size (batches_least a) (sendings_limits a).most synced (heard_in words) changes heard room
        ∙ ap (as_received b changes) (sym words_read)

    -- and writes the same
    pub lines_are : lines_received (receive_bits bits room) bits ≡ lines_read (read_words words room) words
    lines_are =
        written_as rec b behind_size (batches_least a) (sendings_limits a).most synced (heard_in words) changes heard room
        ∙ ap (λ (r : Reading). lines_read r words) (sym words_read)

-- number 10 of one is that of the other
ten : (b : ℕ) (c : Changes) (r : Reading) → reader.number_of r ≡ 10 → as_received b c r ≡ Err NoRoom
ten b c (Ok read) e = absurd (omega arith)
ten b c (Err why) e = refl

-- ---- an accepted job

pub job_from_bits : JobFromBits
job_from_bits s n ok bits t rec room =
    let xs = sendings_of s in
    let a = accepted_sendings s n ok in
    let b = batches (placement_of xs) in
    let words = words_from bits t (17 * b) in
    let changes = flips_in xs (received_from bits t (transmission_of xs)) in
    let gives : GivesBack s n (received_from bits t (transmission_of xs)) room (read_words words room) words =
    rw (got_behind xs a bits t rec) at ((demand2 s n ok (received_from bits t (transmission_of xs)) (received xs a bits t rec)).from_words room) in
    let answer = answer_is xs a bits t rec room in
    let lines = lines_are xs a bits t rec room in
    record {
      answered = λ l. answer ∙ ap (as_received b changes) (gives.answered l);
      written = λ l. lines ∙ gives.written l;
      declined = λ l. answer ∙ ten b changes (read_words words room) (gives.declined l).0;
      untouched = λ l. lines ∙ gives.untouched l;
    }

-- ---- from what `send` reports

pub sent_then_received : SentThenReceived
sent_then_received s old slots b m sent bits t rec room =
    let r = reported s (length old) slots sent in
    let e = front s old slots b m sent in
    (r.pages, r.accepted, rw e (job_from_bits s r.pages r.accepted bits t (rw e at rec) room))

-- ---- what the receiving program prints

prints_lines : (s : Submission) (n : ℕ) (words bits : List ℕ) → PagesReceived s n words bits 48300 → length bits ≤ 65536 → receive_prints bits ≡ lines_in_order s
unfolding receive_prints
prints_lines s n words bits p short =
    let lines = length (lines_in_order s) in
    let fits : lines ≤ 48300 =
    ⊎_elim (λ (l : lines ≤ 48300). l) (λ (l : 48300 < lines). absurd (enough bits 48300 (omega arith) (ap number_of (p.declined l)))) (le_or_lt lines 48300) in
    rw (le-ltb 65536 (length bits) short, ap number_of (p.answered fits)) (p.written fits)

pub program_receives : ProgramReceives
program_receives s n ok bits t rec old left m call =
    printed receive_prints call
    ∙ prints_lines s n (received_from bits t (transmission_of (sendings_of s))) bits (job_from_bits s n ok bits t rec 48300) rec.short
