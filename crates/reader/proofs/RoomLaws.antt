-- How much can be heard: no more than one page, lost word or orphan a slot, and ten bytes of lines a slot. Assumes nothing.
use mathlib.Core.Path.{◌≡◌, refl, ap}
use mathlib.Core.Bool.{Bool, true, false, cond}
use mathlib.Core.List.{List, [], ◌∷◌}
use mathlib.Core.Option.{Option, none, some}
use Prim.Native.Nat.{ℕ, zero, suc, ◌+◌, ◌*◌, ◌/◌, ◌≤◌}
use native.Mathlib.Omega.{arith}
use lib.ListN.{length, length-append}
use lib.Dec.{ltb}
use borrow.Author.Tests.{le-ltb}
use Rattle.std.specs.Prelude.{Ok, Err}
use Rattle.base.proofs.SearchLaws.{sum_most}
use Rattle.codeword.specs.Answer.{changed}
use Rattle.codeword.specs.Nearest.{nearest}
use Rattle.codeword.proofs.AnswerLaws.{answer_few}
use Rattle.job.specs.Print.{ending}
use Rattle.job.proofs.PrintLaws.{ending_few}
use Rattle.listing.specs.Words.{words_of}
use Rattle.reader.specs.Meaning.{meaning}
use Rattle.reader.specs.Reading.{Hearing, State, Heard, closed_as, close, take, hear, read_at, slot_word, sync_word, heard_stretch, heard_in}
use Rattle.reader.specs.Lines.{kind_heard, line_heard, lines_heard}
use Rattle.reader.specs.Answers.{judge_words, judge_listing, printed_into, answered, read_stretch, read_listing, bytes_read, number_of, Verdict}
use Rattle.reader.specs.Readable.{Readable}
use Rattle.reader.specs.Enough.{Enough}
use Rattle.reader.specs.Most.{AllWithin, PagesFew}
use Rattle.reader.specs.Changed.{slot_changed}
use Rattle.reader.specs.declared.Fault.TheVariants.{Malformed, TooMany, Unsynced}
use Rattle.reader.specs.declared.Read.{Read}
use Rattle.reader.specs.declared.ReadError.TheVariants.{NoRoom}
use Rattle.reader.specs.declared.Meaning.{Meaning}
use Rattle.reader.specs.declared.Meaning.TheVariants.{Lost, Idle, Address, Message}
use Rattle.reader.proofs.AnswerLaws.{readable}
use Rattle.reader.proofs.Blocks.{lines_more}
use Rattle.reader.proofs.ChangeLaws.{slot_few}
use Rattle.reader.proofs.PageLaws.{line_short}

-- ten bytes for each slot that the open page has taken
abbrev due : Option Hearing → ℕ
due none = 0
due (some h) = 10 * (length h.groups + 1)

-- a line cut short takes one byte more: the lost word has a slot of its own
close_short : (cut : Bool) (pages : List Hearing) (held : Option Hearing) → length (lines_heard (close cut pages held)) + 1 ≤ length (lines_heard pages) + due held + length (ending cut)
unfolding close
close_short true pages none = omega arith
close_short false pages none = omega arith
close_short cut pages (some h) =
    omega (
      arith,
      ap length (lines_more pages (closed_as cut h)),
      length-append (lines_heard pages) (line_heard (closed_as cut h)),
      line_short h.identity (kind_heard h.function h.groups) h.function h.groups cut,
    )

-- the bytes of the closed pages, and those of the open one
abbrev bytes : State → ℕ
bytes st = length (lines_heard st.pages) + due st.held

take_short : (b : ℕ) (r : State) (held : Option Hearing) → bytes (take b r held) ≤ length (lines_heard r.pages) + due held + 10
unfolding take
take_short b r none = omega arith
take_short b r (some p) = omega (arith, length-append p.groups (b ∷ []))

hear_short : (s : ℕ) (r : State) (m : Meaning) → bytes (hear s r m) ≤ bytes r + 10
unfolding hear
hear_short s r Lost = omega (arith, close_short true r.pages r.held)
hear_short s r Idle = omega (arith, close_short false r.pages r.held)
hear_short s r (Address u f) = omega (arith, close_short false r.pages r.held)
hear_short s r (Message b) = take_short b r r.held

read_short : (word : ℕ → ℕ) (s : ℕ) → bytes (read_at word s) ≤ 10 * s
unfolding read_at lines_heard
read_short word zero = omega arith
read_short word (suc s) = omega (arith, hear_short s (read_at word s) (meaning (nearest (word s))), read_short word s)

-- what is heard of whole batches takes ten bytes of lines a slot, and one byte more where the end cuts
lines_short : (cut : Bool) (words : List ℕ)
    → length (lines_heard (heard_stretch cut words).pages) + 1 ≤ 160 * (length words / 17) + length (ending cut)
unfolding heard_stretch
lines_short cut words =
    let n = 16 * (length words / 17) in
    let st = read_at (slot_word words) n in
    omega (arith, close_short cut st.pages st.held, read_short (slot_word words) n)

-- ---- how many pages, lost words and orphans

abbrev one : Option Hearing → ℕ
one none = 0
one (some h) = 1

close_count : (cut : Bool) (pages : List Hearing) (held : Option Hearing) → length (close cut pages held) ≡ length pages + one held
unfolding close
close_count cut pages none = omega arith
close_count cut pages (some h) = length-append pages (closed_as cut h ∷ [])

-- each of them has a slot of its own
abbrev count : State → ℕ
count st = length st.pages + one st.held + st.lost + st.orphans

take_count : (b : ℕ) (r : State) (held : Option Hearing) → count (take b r held) ≤ length r.pages + one held + r.lost + r.orphans + 1
unfolding take
take_count b r none = omega arith
take_count b r (some p) = omega arith

hear_count : (s : ℕ) (r : State) (m : Meaning) → count (hear s r m) ≤ count r + 1
unfolding hear
hear_count s r Lost = omega (arith, close_count true r.pages r.held)
hear_count s r Idle = omega (arith, close_count false r.pages r.held)
hear_count s r (Address u f) = omega (arith, close_count false r.pages r.held)
hear_count s r (Message b) = take_count b r r.held

read_count : (word : ℕ → ℕ) (s : ℕ) → count (read_at word s) ≤ s
unfolding read_at
read_count word zero = omega arith
read_count word (suc s) = omega (arith, hear_count s (read_at word s) (meaning (nearest (word s))), read_count word s)

pub pages_few : PagesFew
pages_few word s = omega (arith, read_count word s)

-- ---- all together

pub all_within : AllWithin
unfolding heard_stretch
all_within cut words =
    let n = length words / 17 in
    let st = read_at (slot_word words) (16 * n) in
    let few = read_count (slot_word words) (16 * n) in
    record {
      pages = omega (arith, few, close_count cut st.pages st.held);
      lost = omega (arith, few);
      orphans = omega (arith, few);
      slots = omega (arith, sum_most (λ s. slot_changed (slot_word words s)) 32 (16 * n) (λ s. slot_few (slot_word words s)));
      syncs = sum_most (λ q. changed (sync_word words q)) 32 n (λ q. answer_few (sync_word words q) (nearest (sync_word words q)));
      lines = omega (arith, lines_short cut words, ending_few cut);
    }

-- ---- number 10

module _ (words : List ℕ) (room : ℕ) (h : 48000 ≤ room) where
  abbrev lines : ℕ
  lines = length (lines_heard (heard_in words).pages)

  answer_fits : (v : Verdict) → (v ≡ Ok tt → Readable words) → number_of (answered v (heard_in words) room) ≡ 10 → ⊥
  answer_fits (Err (Malformed line)) r e = omega arith
  answer_fits (Err (TooMany line)) r e = omega arith
  answer_fits (Err (Unsynced batch)) r e = omega arith
  answer_fits (Ok v) r e =
      let zero : number_of (printed_into (heard_in words) room) ≡ 0 = rw (le-ltb room lines (omega (arith, lines_short false words, (r refl).few))) in
      omega arith

  -- more room changes nothing
  answer_same : (v : Verdict) → (v ≡ Ok tt → Readable words) → answered v (heard_in words) room ≡ answered v (heard_in words) 48000
  answer_same (Err why) r = refl
  answer_same (Ok v) r =
      let few = (r refl).few in
      rw (le-ltb room lines (omega (arith, lines_short false words)), le-ltb 48000 lines (omega (arith, lines_short false words)))

pub enough : Enough
unfolding read_stretch read_listing
enough = record {
  of_words = λ words room h. answer_fits words room h (judge_words words) (readable.of_words words);
  of_listing = λ s room h. answer_fits (words_of s) room h (judge_listing s) (readable.of_listing s);
}

pub listing_same : (s : List ℕ) (room : ℕ) → 48000 ≤ room → read_listing s room ≡ read_listing s 48000
unfolding read_listing
listing_same s room h = answer_same (words_of s) room h (judge_listing s) (readable.of_listing s)

-- ---- how many bytes are written

module _ (h : Heard) (room : ℕ) {r : Read} where
  answer_size : (v : Verdict) → Ok r ≡ answered v h room → r.bytes ≡ length (lines_heard h.pages)
  answer_size (Err why) e = let z : ◌≡◌ {A = ℕ} 0 1 = cc in absurd (omega arith)
  answer_size (Ok v) e = go (ltb room (length (lines_heard h.pages))) e
    where
      go : (b : Bool) → Ok r ≡ cond b (Err NoRoom) (Ok (record { pages = length h.pages; lost = h.lost; orphans = h.orphans; changed = h.changed; bytes = length (lines_heard h.pages) }))
          → r.bytes ≡ length (lines_heard h.pages)
      go true f = let z : ◌≡◌ {A = ℕ} 0 1 = cc in absurd (omega arith)
      go false f = ap bytes_read f

-- the lines of a reading that isn't declined have as many bytes as it answers
pub bytes_read_lem : (s : List ℕ) (room : ℕ) {r : Read} → Ok r ≡ read_listing s room → r.bytes ≡ length (lines_heard (heard_in (words_of s)).pages)
unfolding read_listing
bytes_read_lem s room e = answer_size (heard_in (words_of s)) room (judge_listing s) e
