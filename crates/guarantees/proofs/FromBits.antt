-- R-10: a recording in which the words of a clean listing follow whole is received as the listing is read. Assumes nothing.
use mathlib.Core.Path.{◌≡◌, refl, sym, ap, ap₂, subst, ◌∙◌}
use mathlib.Core.Bool.{false}
use mathlib.Core.List.{List}
use Prim.Native.Nat.{ℕ, zero, suc, ◌+◌, ◌*◌, ◌/◌, ◌%◌, ◌^◌, ◌<◌}
use native.Mathlib.Omega.{arith}
use lib.Dec.{T}
use lib.ListN.{length, get_or, take, drop, length-take}
use Rattle.base.proofs.HexLaws.{number_fits}
use Rattle.std.specs.Prelude.{Ok, Err}
use Rattle.base.proofs.ListLaws.{tab-length, tab-at}
use Rattle.base.proofs.SearchLaws.{least_is}
use Rattle.codeword.specs.CorrectionTheorem.{Obeying}
use Rattle.codeword.specs.Nearest.{nearest}
use Rattle.codeword.proofs.CorrectionTheorem.{correction_theorem}
use Rattle.codeword.proofs.NearestLaws.{distance_self}
use Rattle.listing.specs.Formed.{Formed}
use Rattle.listing.specs.Listing.{listing_of, Listing, well_formed}
use Rattle.listing.specs.Words.{words_of}
use Rattle.listing.proofs.Indexed as listing
use Rattle.listing.proofs.Indexed.{words_indexed, formed}
use Rattle.reader.specs.Meaning.{meaning}
use Rattle.reader.specs.Reading.{hear, read_at, ended, slot_word, changes_in, heard_stretch, heard_in}
use Rattle.reader.specs.Answers.{Reading, unsynced, first_unsynced, judge_decoded, judge_listing, printed_into, read_listing, lines_read}
use Rattle.reader.proofs.Laws.{readable}
use Rattle.receiver.specs.Bits.{word_from}
use Rattle.receiver.specs.Answers.{receive_bits}
use Rattle.receiver.proofs.BitLaws.{word_small}
use Rattle.guarantees.specs.FromBits.{Recorded, words_from, Clean, AsListed, FromBits}
use Rattle.guarantees.proofs.OneStretch.{recounted, as_received, received_as, written_as}

-- ---- a listing that can be read

-- its numbers of preamble lines and of batches
record Form (l : List ℕ) : Type 0 where
  lines : ℕ
  batches : ℕ
  are : listing_of l ≡ well_formed lines batches

-- there are such numbers
form_of : (l : List ℕ) → judge_listing l ≡ Ok tt → Form l
unfolding judge_listing
form_of l = go (listing_of l) refl
  where
    go : (x : Listing) → listing_of l ≡ x → judge_decoded x (words_of l) ≡ Ok tt → Form l
    go (Ok shape) e f = record { lines = shape.preamble; batches = shape.batches; are = e }
    go (Err why) e f = let z : ◌≡◌ {A = ℕ} 0 1 = cc in absurd (omega arith)

-- each of its words has eight digits
word_fits : (l : List ℕ) (f : Form l) (k : ℕ) → k < length (words_of l) → get_or (words_of l) k 0 < 2 ^ 32
unfolding listing.word_at
word_fits l f k h =
    let p = f.lines in
    let b = f.batches in
    let digits = take 8 (drop (9 * (2 * p + k)) l) in
    let word : get_or (words_of l) k 0 ≡ listing.word_at l (2 * p + k) =
    ap (λ (ws : List ℕ). get_or ws k 0) (words_indexed l p b f.are)
    ∙ tab-at (λ i. listing.word_at l (2 * p + i)) (17 * b) k 0 (omega (arith, (formed l p b f.are).count)) in
    rw word (omega (arith, number_fits digits (omega (arith, length-take 8 (drop (9 * (2 * p + k)) l)))))

-- ---- words that read alike

-- slots whose words are corrected to the same lead through the same states
states_same : (f g : ℕ → ℕ) (n : ℕ) → ((s : ℕ) → s < n → nearest (f s) ≡ nearest (g s)) → read_at f n ≡ read_at g n
unfolding read_at
states_same f g zero h = refl
states_same f g (suc n) h = ap₂ (hear n) (states_same f g n (λ s l. h s (omega arith))) (ap meaning (h n (omega arith)))

-- the same is heard of them, but for the changed bits
heard_same : (ws us : List ℕ) → length ws ≡ length us → ((k : ℕ) → k < length us → nearest (get_or ws k 0) ≡ nearest (get_or us k 0))
    → heard_in ws ≡ recounted (heard_in us) (changes_in ws)
unfolding heard_stretch
heard_same ws us size same =
    let n = 16 * (length us / 17) in
    let count : 16 * (length ws / 17) ≡ n = ap (λ (m : ℕ). 16 * (m / 17)) size in
    ap (λ r. ended false r (changes_in ws))
    (ap (read_at (slot_word ws)) count ∙ states_same (slot_word ws) (slot_word us) n (λ s l. same (17 * (s / 16) + 1 + s % 16) (omega arith)))

-- ---- its words in a recording

module _ (l : List ℕ) (clean : Clean l) (bits : List ℕ) (t : ℕ) (rec : Recorded bits t (words_of l)) where
  -- the listing has its batches
  form : Form l
  form = form_of l clean.sound

  abbrev b : ℕ
  b = form.batches

  there : Formed l form.lines b
  there = formed l form.lines b form.are

  -- as they were recorded
  abbrev words : List ℕ
  words = words_from bits t (17 * b)

  module _ (k : ℕ) (h : k < length (words_of l)) where
    -- the listing's word is a codeword
    obeying : Obeying (get_or (words_of l) k 0)
    obeying = record { fits = word_fits l form k h; obeying = subst T (sym (clean.codewords k h)) tt }

    -- the recorded word is corrected to it, as it is itself
    corrected : nearest (get_or words k 0) ≡ nearest (get_or (words_of l) k 0)
    corrected =
        let c = get_or (words_of l) k 0 in
        let w = word_from bits (t + 32 * k) in
        ap nearest (tab-at (λ i. word_from bits (t + 32 * i)) (17 * b) k 0 (omega (arith, there.count)))
        ∙ correction_theorem.reads w c (word_small bits (t + 32 * k)) (record { codeword = obeying; close = omega (arith, rec.flips k h) })
        ∙ sym (correction_theorem.reads c c obeying.fits (record { codeword = obeying; close = omega (arith, distance_self c) }))

  -- so each recorded batch begins with sync
  synced : (q : ℕ) → q < b → unsynced words q ≡ false
  unfolding first_unsynced
  synced q h =
      let all = (readable.of_listing l clean.sound).synced in
      let inside : 17 * q < length (words_of l) = omega (arith, there.count) in
      rw (corrected (17 * q) inside) ((least_is (unsynced (words_of l)) (length (words_of l) / 17)).before q (omega (arith, there.count)))

  -- and the same is heard
  heard : heard_in words ≡ recounted (heard_in (words_of l)) (changes_in words)
  heard = heard_same words (words_of l) (tab-length (λ i. word_from bits (t + 32 * i)) (17 * b) ∙ sym there.count) corrected

  module _ (room : ℕ) where
    -- what reading the listing answers, and what receiving the recording does
    listing_read : read_listing l room ≡ printed_into (heard_in (words_of l)) room
    unfolding read_listing
    listing_read = rw clean.sound

    answered : receive_bits bits room
        ≡ as_received (length (words_of l) / 17) (changes_in (words_from bits t (length (words_of l)))) (read_listing l room)
    answered =
        let n : length (words_of l) / 17 ≡ b = omega (arith, there.count) in
        rw (n, there.count, listing_read)
        (received_as rec b there.count there.limits.some there.limits.few synced (heard_in (words_of l)) (changes_in words) heard room)

    as_listed_lem : AsListed bits t l room
    as_listed_lem =
        record {
          counts = λ e. answered ∙ ap (as_received _ _) e;
          no_room = λ e. answered ∙ ap (as_received _ _) e;
          lines =
              written_as rec b there.count there.limits.some there.limits.few synced (heard_in (words_of l)) (changes_in words) heard room
              ∙ ap (λ (r : Reading). lines_read r (words_of l)) (sym listing_read);
        }

pub from_bits : FromBits
from_bits l clean bits t rec room = as_listed_lem l clean bits t rec room
