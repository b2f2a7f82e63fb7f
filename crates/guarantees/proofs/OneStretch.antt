-- A recording in which whole batches follow is one stretch, and is answered as its words are read. Assumes nothing.
use mathlib.Core.Path.{◌≡◌, refl, sym, ap, ◌∙◌}
use mathlib.Core.Bool.{Bool, true, false, cond}
use mathlib.Core.List.{List, [], ◌∷◌}
use Prim.Native.Nat.{ℕ, ◌+◌, ◌*◌, ◌^◌, ◌≤◌, ◌<◌}
use native.Mathlib.Omega.{arith}
use lib.Dec.{ltb}
use lib.ListN.{length, get_or}
use borrow.Author.Tests.{le-ltb, lt-leb, not-false}
use Rattle.base.proofs.ListLaws.{tab-at}
use Rattle.codeword.specs.Code.{sync}
use Rattle.codeword.specs.Nearest.{distance, nearest}
use Rattle.reader.specs.Meaning.{is_sync}
use Rattle.reader.specs.Reading.{Heard, heard_stretch, heard_in}
use Rattle.reader.specs.Lines.{lines_heard}
use Rattle.reader.specs.Answers.{Reading, unsynced, printed_into, lines_of}
use Rattle.reader.specs.declared.Changes.{Changes}
use Rattle.reader.specs.declared.ReadError.TheVariants as read-error
use Rattle.std.specs.Prelude.{Ok, Err}
use Rattle.reader.proofs.SyncLaws.{sync_test}
use Rattle.receiver.specs.Bits.{bit_count, word_from}
use Rattle.receiver.specs.Stretches.{is_batch, hunt_from, batches_from, Stretch, stretch_end, stretch_at, stretches_of, batches_found}
use Rattle.receiver.specs.Progress.{stretches_from}
use Rattle.receiver.specs.Answers.{is_cut, heard_on, heard_all, heard_bits, totals_of, reported, receive_bits, lines_received}
use Rattle.std.specs.declared.result.Result.{Result}
use Rattle.std.specs.declared.result.Result.TheVariants.{Ok, Err}
use Rattle.receiver.specs.declared.Refusal.{Refusal}
use Rattle.receiver.specs.declared.Refusal.TheVariants.{NoRoom}
use Rattle.receiver.specs.declared.Totals.{Totals}
use Rattle.receiver.proofs.AddLaws.{then_nothing}
use Rattle.receiver.proofs.BitLaws.{word_small}
use Rattle.receiver.proofs.StretchLaws.{batch_is, batch_not, batch_late, hunt_is, hunt_none, batches_is, batches_none, stretches_none, stretches_next, stretches_all}
use Rattle.guarantees.specs.FromBits.{Recorded, words_from}

-- ---- one answer and the other

-- what was heard, with this count of changed bits
abbrev pub recounted : Heard → Changes → Heard
recounted h c = record { pages = h.pages; lost = h.lost; orphans = h.orphans; changed = c }

-- an answer to reading, with the number of batches and this count of changed bits
abbrev pub as_received : ℕ → Changes → Reading → Result Totals Refusal
as_received b c (Ok read) = Ok (record { batches = b; pages = read.pages; lost = read.lost; orphans = read.orphans; changed = c; bytes = read.bytes })
as_received b c (Err why) = Err NoRoom

module _ (b : ℕ) (h : Heard) (c : Changes) (room : ℕ) where
  -- what the same hearing answers, received and read
  answers_same : reported b (recounted h c) room ≡ as_received b c (printed_into h room)
  answers_same = go (ltb room (length (lines_heard h.pages)))
    where
      go : (x : Bool) → cond x (Err NoRoom) (Ok (totals_of b (recounted h c)))
          ≡ as_received b c
          (cond x (Err read-error.NoRoom) (Ok (record { pages = length h.pages; lost = h.lost; orphans = h.orphans; changed = h.changed; bytes = length (lines_heard h.pages) })))
      go true = refl
      go false = refl

  -- and what is written of it
  lines_same : (bits : List ℕ) → heard_bits bits ≡ recounted h c
      → lines_received (reported b (recounted h c) room) bits ≡ lines_of (printed_into h room) h
  lines_same bits e = go (ltb room (length (lines_heard h.pages)))
    where
      go : (x : Bool) → lines_received (cond x (Err NoRoom) (Ok (totals_of b (recounted h c)))) bits
          ≡ lines_of
          (cond x (Err read-error.NoRoom) (Ok (record { pages = length h.pages; lost = h.lost; orphans = h.orphans; changed = h.changed; bytes = length (lines_heard h.pages) }))) h
      go true = refl
      go false = ap (λ (x : Heard). lines_heard x.pages) e

-- ---- one stretch

-- a word over two bits away from sync does not correct to it
far_sync : (w : ℕ) → w < 2 ^ 32 → 2 < distance w sync → is_sync (nearest w) ≡ false
far_sync w h l = sym (sync_test w h (distance w sync) refl) ∙ lt-leb (distance w sync) 2 l

-- 1 to 300 batches were sent, and each recorded one begins with a word that corrects to sync
module _ {bits : List ℕ} {t : ℕ} {sent : List ℕ} (rec : Recorded bits t sent) (b : ℕ) (size : length sent ≡ 17 * b) (least : 1 ≤ b)
    (most : b ≤ 300) (synced : (q : ℕ) → q < b → unsynced (words_from bits t (17 * b)) q ≡ false) where
  -- the recorded words
  abbrev words : List ℕ
  words = words_from bits t (17 * b)

  -- where they are
  abbrev stretch : Stretch
  stretch = record { start = t; batches = b }

  -- before the true first sync there is no batch
  before : (p : ℕ) → p < t → is_batch bits p ≡ false
  before p l = batch_not bits p (far_sync (word_from bits p) (word_small bits p) (omega (arith, rec.clear p l)))

  -- there they are, one directly behind the other
  each : (q : ℕ) → q < b → is_batch bits (t + 544 * q) ≡ true
  each q l =
      let at : t + 544 * q ≡ t + 32 * (17 * q) = omega arith in
      let word : word_from bits (t + 544 * q) ≡ get_or words (17 * q) 0 =
      ap (word_from bits) at ∙ sym (tab-at (λ k. word_from bits (t + 32 * k)) (17 * b) (17 * q) 0 (omega arith)) in
      batch_is bits (t + 544 * q) (omega (arith, rec.whole)) (ap (λ (w : ℕ). is_sync (nearest w)) word ∙ not-false _ (synced q l))

  -- and behind them there is none
  behind : stretches_from bits (stretch_end stretch) ≡ []
  behind =
      let p = stretch_end stretch in
      let inside : p ≤ bit_count bits = omega (arith, rec.whole) in
      let late : bit_count bits < p + 544 = omega (arith, rec.ends) in
      let last : hunt_from bits p ≡ bit_count bits = hunt_none bits p p inside (λ q l m. absurd (omega arith)) late in
      stretches_none bits p (ap (batches_from bits) last ∙ batches_none bits (bit_count bits) (batch_late bits (bit_count bits) (omega arith)))

  -- so this is the only stretch
  one_stretch : stretches_of bits ≡ stretch ∷ []
  one_stretch =
      let z : t + 544 * 0 ≡ t = omega arith in
      let first : hunt_from bits 0 ≡ t = hunt_is bits 0 t (omega arith) (λ p l m. before p m) (rw z at (each 0 least)) in
      let count : batches_from bits t ≡ b = batches_is bits t b each (batch_late bits (t + 544 * b) (omega (arith, rec.ends))) in
      let found : stretch_at bits (hunt_from bits 0) ≡ stretch = rw (first, count) in
      stretches_all bits
      ∙ stretches_next bits 0 (rw (first, count) least)
      ∙ ap (λ (r : Stretch). r ∷ stretches_from bits (stretch_end r)) found
      ∙ ap (λ (rs : List Stretch). stretch ∷ rs) behind

  -- it is not cut short
  all_heard : heard_bits bits ≡ heard_in words
  unfolding heard_all
  all_heard =
      let whole : is_cut bits stretch ≡ false = lt-leb (t + 544 * b + 544) (bit_count bits) (omega (arith, rec.ends)) in
      ap (heard_all bits) one_stretch ∙ then_nothing (heard_on bits stretch) ∙ ap (λ (x : Bool). heard_stretch x words) whole

  -- its batches are all
  counted : batches_found (stretches_of bits) ≡ b
  unfolding batches_found
  counted = ap batches_found one_stretch ∙ omega arith

  -- where the words are heard so, whatever the count of changed bits
  module _ (h : Heard) (c : Changes) (e : heard_in words ≡ recounted h c) (room : ℕ) where
    -- the recording is not declined by number 28 or 23
    received : receive_bits bits room ≡ reported b (recounted h c) room
    unfolding receive_bits
    received = rw (le-ltb 65536 (length bits) rec.short, counted, le-ltb 300 b most, all_heard ∙ e)

    -- it is answered as what was heard is printed
    pub received_as : receive_bits bits room ≡ as_received b c (printed_into h room)
    received_as = received ∙ answers_same b h c room

    -- and the same lines are written
    pub written_as : lines_received (receive_bits bits room) bits ≡ lines_of (printed_into h room) h
    written_as = ap (λ (x : Result Totals Refusal). lines_received x bits) received ∙ lines_same b h c room bits (all_heard ∙ e)
