-- The answers case by case, as the code goes. Assumes nothing.
use mathlib.Core.Path.{◌≡◌, refl, sym, ap, ap₂, ◌∙◌}
use mathlib.Core.Bool.{Bool, true, false, not, cond, ◌||◌}
use mathlib.Core.List.{List}
use Prim.Native.Nat.{ℕ, zero, suc, ◌+◌, ◌*◌, ◌/◌, ◌%◌, ◌≤◌, ◌<◌}
use native.Mathlib.Omega.{arith}
use lib.Dec.{eqb, ltb}
use lib.ListN.{length, get_or}
use borrow.Author.Tests.{lt-ltb, le-ltb, ltb-false, eq-eqb, ne_eqb, eqb-true}
use Rattle.std.specs.Prelude.{Ok, Err}
use Rattle.base.proofs.SearchLaws.{least_only}
use Rattle.codeword.specs.Nearest.{nearest}
use Rattle.listing.specs.Listing.{listing_of, Listing}
use Rattle.listing.specs.Words.{words_of}
use Rattle.listing.specs.declared.Decoded.{Decoded}
use Rattle.listing.specs.Answers.{decoded_of}
use Rattle.listing.proofs.Indexed.{formed}
use Rattle.listing.proofs.Settled.{front}
use Rattle.reader.specs.Meaning.{meaning}
use Rattle.reader.specs.Reading.{hear, read_at, ended, slot_word, changes_in, heard_stretch}
use Rattle.reader.specs.Lines.{lines_heard}
use Rattle.reader.specs.Answers.{unsynced, first_unsynced, judge_batches, judge_words, judge_decoded, judge_listing, printed_into, Verdict}
use Rattle.reader.specs.Readable.{Readable, batches_first, Decoding, AllReadable, SoundBatches, SoundWords}
use Rattle.reader.specs.Symbols.{said, Tells, state_by, heard_by}
use Rattle.reader.specs.Progress.{KeptAll}
use Rattle.reader.specs.declared.Changes.{Changes}
use Rattle.reader.specs.declared.Fault.{Fault}
use Rattle.reader.specs.declared.Fault.TheVariants.{Malformed, TooMany, Unsynced}
use Rattle.reader.specs.declared.Progress.{Progress}
use Rattle.reader.specs.declared.ReadError.TheVariants.{NoRoom}

module _ (words : List ℕ) (q : ℕ) where
  -- the search for a batch that does not begin with sync
  pub stops : q < length words / 17 → ((k : ℕ) → k < q → unsynced words k ≡ false) → unsynced words q ≡ true → q ≡ first_unsynced words
  unfolding first_unsynced
  stops l h e = sym (least_only (unsynced words) (length words / 17) q (record { within = omega arith; before = h; here = λ _. e }))

  pub none_unsynced : q ≡ length words / 17 → ((k : ℕ) → k < q → unsynced words k ≡ false) → q ≡ first_unsynced words
  unfolding first_unsynced
  none_unsynced e h =
      sym (least_only (unsynced words) (length words / 17) q (record { within = omega arith; before = h; here = λ l. absurd (omega arith) }))

-- ---- the lines of all slots, printed into a buffer of their own

module _ (cut : Bool) {symbols : List ℕ} {p : Progress} {lines : List ℕ} (k : KeptAll cut symbols p lines) where
  module _ (old : List ℕ) (changed : Changes) where
    -- they are longer than the lent slice
    pub no_room : length old < p.bytes → Err NoRoom ≡ printed_into (heard_by cut symbols changed) (length old)
    no_room h = rw (lt-ltb (length old) (length (lines_heard (heard_by cut symbols changed).pages)) (omega (arith, k.size)))

    -- they go over its front
    pub all_read : p.bytes ≤ length old
        → Ok (record { pages = p.pages; lost = p.lost; orphans = p.orphans; changed = changed; bytes = p.bytes }) ≡ printed_into (heard_by cut symbols changed) (length old)
    all_read h =
        rw (
          le-ltb (length old) (length (lines_heard (heard_by cut symbols changed).pages)) (omega (arith, k.size)),
          k.pages,
          k.lost,
          k.orphans,
          k.size,
        )

-- ---- whole batches

-- symbols that say what the slot words say lead through the same states
state_same : (symbols : List ℕ) (word : ℕ → ℕ) (n : ℕ) → ((s : ℕ) → s < n → said (get_or symbols s 0) ≡ meaning (nearest (word s)))
    → state_by symbols n ≡ read_at word n
unfolding state_by read_at
state_same symbols word zero h = refl
state_same symbols word (suc n) h = ap₂ (hear n) (state_same symbols word n (λ s l. h s (omega arith))) (h n (omega arith))

module _ (words : List ℕ) where
  pub heard_same : (cut : Bool) (symbols : List ℕ) (changed : Changes) → Tells words (16 * (length words / 17)) symbols
      → changed ≡ changes_in words → heard_by cut symbols changed ≡ heard_stretch cut words
  unfolding heard_stretch
  heard_same cut symbols changed t e =
      ap₂ (ended cut) (ap (state_by symbols) t.count ∙ state_same symbols (slot_word words) (16 * (length words / 17)) t.each) e

-- ---- whether words can be read

module _ (words : List ℕ) where
  pub batches_unsynced : first_unsynced words < length words / 17 → Err (Unsynced (first_unsynced words + 1)) ≡ judge_batches words
  unfolding judge_batches
  batches_unsynced h = rw (lt-ltb (first_unsynced words) (length words / 17) h)

  pub batches_sound : length words / 17 ≤ first_unsynced words → Ok tt ≡ judge_batches words
  unfolding judge_batches
  batches_sound h = rw (le-ltb (first_unsynced words) (length words / 17) h)

  pub words_none : length words ≡ 0 → Err (Malformed 0) ≡ judge_words words
  unfolding judge_words
  words_none e = rw (eq-eqb (length words) 0 e)

  module _ (some : length words ≡ 0 → ⊥) where
    pub words_part : (length words % 17 ≡ 0 → ⊥) → Err (Malformed 0) ≡ judge_words words
    unfolding judge_words
    words_part e = rw (ne_eqb (length words) 0 some, ne_eqb (length words % 17) 0 e)

    module _ (whole : length words % 17 ≡ 0) where
      pub words_many : 300 < length words / 17 → Err (TooMany 0) ≡ judge_words words
      unfolding judge_words
      words_many h = rw (ne_eqb (length words) 0 some, eq-eqb (length words % 17) 0 whole, lt-ltb 300 (length words / 17) h)

      pub words_few : length words / 17 ≤ 300 → judge_batches words ≡ judge_words words
      unfolding judge_words
      words_few h = rw (ne_eqb (length words) 0 some, eq-eqb (length words % 17) 0 whole, le-ltb 300 (length words / 17) h)

pub sound_batches : SoundBatches
sound_batches words b e synced =
    let all : length words / 17 ≡ first_unsynced words = none_unsynced words (length words / 17) refl (λ q l. synced q (omega arith)) in
    sym (batches_sound words (omega arith))

pub sound_words : SoundWords
sound_words words b some few e synced =
    sym (words_few words (λ z. omega arith) (omega arith) (omega arith)) ∙ sound_batches words b e synced

-- ---- words that can be read

faulty_sound : {why : Fault} → ◌≡◌ {A = Verdict} (Err why) (Ok tt) → ⊥
faulty_sound e = let z : ◌≡◌ {A = ℕ} 0 1 = cc in omega arith

batches_synced : (words : List ℕ) → judge_batches words ≡ Ok tt → length words / 17 ≤ first_unsynced words
unfolding judge_batches
batches_synced words = go (ltb (first_unsynced words) (length words / 17)) refl
  where
    go : (b : Bool) → ltb (first_unsynced words) (length words / 17) ≡ b → ◌≡◌ {A = Verdict} (cond b (Err (Unsynced (first_unsynced words + 1))) (Ok tt)) (Ok tt)
        → length words / 17 ≤ first_unsynced words
    go true e s = absurd (faulty_sound s)
    go false e s = ltb-false (first_unsynced words) (length words / 17) e

words_readable : (words : List ℕ) → judge_words words ≡ Ok tt → Readable words
unfolding judge_words
words_readable words = go (eqb (length words) 0) (eqb (length words % 17) 0) refl (ltb 300 (length words / 17)) refl
  where
    go : (a b : Bool) → eqb (length words % 17) 0 ≡ b → (c : Bool) → ltb 300 (length words / 17) ≡ c
        → ◌≡◌ {A = Verdict} (cond (a || not b) (Err (Malformed 0)) (cond c (Err (TooMany 0)) (judge_batches words))) (Ok tt) → Readable words
    go true b e c f s = absurd (faulty_sound s)
    go false false e c f s = absurd (faulty_sound s)
    go false true e true f s = absurd (faulty_sound s)
    go false true e false f s = record {
      few = omega (arith, eqb-true (length words % 17) 0 e, ltb-false 300 (length words / 17) f);
      synced = batches_synced words s;
    }

listing_readable : (s : List ℕ) → judge_listing s ≡ Ok tt → Readable (words_of s)
unfolding judge_listing
listing_readable s = go (listing_of s) refl
  where
    go : (l : Listing) → listing_of s ≡ l → judge_decoded l (words_of s) ≡ Ok tt → Readable (words_of s)
    go (Ok shape) e f =
        let there = formed s shape.preamble shape.batches e in
        record { few = omega (arith, there.count, there.limits.few); synced = batches_synced (words_of s) f }
    go (Err why) e f = absurd (faulty_sound f)

module _ (s : List ℕ) {d : Decoded} (e : d ≡ decoded_of s) where
  decoded_first : batches_first d.listing d.words ≡ words_of s
  decoded_first = ap (λ (x : Decoded). batches_first x.listing x.words) e ∙ (front s).words

  decoded_verdict : judge_decoded d.listing (words_of s) ≡ judge_listing s
  unfolding judge_listing
  decoded_verdict = ap (λ (x : Decoded). judge_decoded x.listing (words_of s)) e

  decoded_readable : Decoding d.listing d.words
  decoded_readable = record {
    few = rw e (front s).few;
    inside = rw e (front s).inside;
    sound = rw decoded_first (λ f. listing_readable s (sym decoded_verdict ∙ f));
  }

pub readable : AllReadable
readable = record {
  of_words = words_readable;
  of_listing = listing_readable;
  of_decoded = decoded_readable;
  first = decoded_first;
  verdict = decoded_verdict;
}
