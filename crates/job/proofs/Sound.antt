-- The tests that a good line has passed, and what they say of a text. Assumes nothing.
use Prim.Native.Nat.{ℕ, ◌+◌, ◌/◌, ◌%◌, ◌≤◌, ◌<◌}
use mathlib.Core.Path.{◌≡◌, refl}
use mathlib.Core.List.{List}
use mathlib.Core.Bool.{Bool, true, false, cond, ◌&&◌}
use mathlib.Core.Logic.{◌⊎◌, inl, inr, ⊎_elim}
use native.Mathlib.Omega.{arith}
use lib.ListN.{length}
use lib.Dec.{leb, ltb, eqb}
use borrow.Author.Tests.{ltb-false, leb-true, eqb-true, eqb-false, ne_eqb}
use Rattle.std.specs.Prelude.{Result, Ok, Err}
use Rattle.base.specs.Hex.{between, bytes_of}
use Rattle.base.proofs.Bools.{and_true}
use Rattle.base.proofs.HexLaws.{bytes_length}
use Rattle.base.proofs.SearchLaws.{le_or_lt}
use Rattle.text.specs.Coding.{ends_in_space, groups_of}
use Rattle.text.specs.declared.Coding.TheVariants.{Numeric, Alphanumeric}
use Rattle.phrases.specs.Book.{has_book, phrase_for}
use Rattle.phrases.specs.declared.Phrase.{Phrase}
use Rattle.std.specs.Prelude.{Option, Some, None}
use Rattle.job.specs.Line.{well_formed, is_reserved, is_data, longest_of, coding_of, function_of, good_run, tone_page_of, text_page_of, data_page_of, phrase_page_of, kind_page_of, page_of, line_of, identity_of, kind_of, text_digits, page_from}
use Rattle.job.specs.Message.{count_from}
use Rattle.job.specs.Accepted.{TextSound, DataSound, Sound}
use Rattle.job.specs.declared.Refusal.{Refusal}
use Rattle.job.specs.declared.Refusal.TheVariants.{Malformed, IdentityRange, IdentityReserved, UnknownKind, PartialGroup, ToneWithText, TextMissing, TextTooLong, Character, TrailingSpace}
use Rattle.job.specs.declared.Page.{Page}
use Rattle.job.proofs.Laws.{text_even}
use Rattle.job.proofs.Message.{is_data_lem, no_data, data_kind, count_data, count_text}

-- a page comes past a test only where the test failed, or where it passed
past : (b : Bool) (w : Refusal) (r : Result Page Refusal) {p : Page} → cond b (Err w) r ≡ Ok p → (b ≡ false) × (r ≡ Ok p)
past true w r e = let z : ◌≡◌ {A = ℕ} 0 1 = cc in absurd (omega arith)
past false w r e = (refl, e)

kept : (b : Bool) (w : Refusal) (r : Result Page Refusal) {p : Page} → cond b r (Err w) ≡ Ok p → (b ≡ true) × (r ≡ Ok p)
kept true w r e = (refl, e)
kept false w r e = let z : ◌≡◌ {A = ℕ} 0 1 = cc in absurd (omega arith)

-- a tone's text has no bytes, whatever its coding
tone_sound : (kind : ℕ) (bytes : List ℕ) → kind ≤ 3 → length bytes ≡ 0 → TextSound kind bytes
unfolding coding_of ends_in_space
tone_sound kind bytes low e =
    record {
      tone = λ _. e;
      some = λ h. omega arith;
      most = omega arith;
      chars = omega arith;
      unspaced = rw (ne_eqb kind 4 (λ z. omega arith));
    }

text_sound : (page : Page) (bytes : List ℕ) → 4 ≤ page.kind → {p : Page} → text_page_of page bytes ≡ Ok p → TextSound page.kind bytes × (page ≡ p)
unfolding text_page_of
text_sound page bytes low e =
    let kind = page.kind in
    let p1 = past (eqb (length bytes) 0) TextMissing _ e in
    let p2 = past (ltb (longest_of kind) (length bytes)) TextTooLong _ p1.1 in
    let p3 = past (ltb (good_run kind bytes) (length bytes)) (Character (good_run kind bytes + 1)) _ p2.1 in
    let p4 = past (ends_in_space (coding_of kind) bytes) TrailingSpace _ p3.1 in
    let some : length bytes ≡ 0 → ⊥ = eqb-false (length bytes) 0 p1.0 in (
      record {
        tone = λ h. absurd (omega arith);
        some = λ _. omega arith;
        most = ltb-false _ _ p2.0;
        chars = ltb-false _ _ p3.0;
        unspaced = p4.0;
      },
      (let same = p4.1 in cc),
    )

data_sound : (page : Page) (digits : List ℕ) {p : Page} → data_page_of page digits ≡ Ok p → DataSound digits × (page ≡ p)
unfolding data_page_of
data_sound page digits e =
    let p1 = past (ltb 0 (length digits % 5)) PartialGroup _ e in
    let p2 = past (eqb (length digits) 0) TextMissing _ p1.1 in
    let p3 = past (ltb 84 (length digits / 5)) TextTooLong _ p2.1 in
    let whole : length digits % 5 ≤ 0 = ltb-false 0 (length digits % 5) p1.0 in
    let some : length digits ≡ 0 → ⊥ = eqb-false (length digits) 0 p2.0 in
    let most : length digits / 5 ≤ 84 = ltb-false 84 (length digits / 5) p3.0 in
    (record { whole = omega arith; some = omega arith; most = omega arith }, (let same = p3.1 in cc))

-- what the kind and the digits of a page have
pub record KindSound (kind : ℕ) (digits : List ℕ) : Type 0 where
  pub known : kind ≤ 7
  pub text : kind ≤ 5 → TextSound kind (bytes_of digits)
  pub grouped : 6 ≤ kind → DataSound digits

-- of kind 9: where the phrase stands that the digits name
pub record Named (b : List ℕ) (page : Page) (digits : List ℕ) (p : Page) : Type 0 where
  pub kind : page.kind ≡ 9
  pub place : Phrase
  pub found : phrase_for b digits ≡ Some place
  pub same : phrase_page_of page (Some place) ≡ Ok p

named : (b : List ℕ) (page : Page) (digits : List ℕ) (f : Option Phrase) {p : Page} → page.kind ≡ 9 → phrase_for b digits ≡ f → phrase_page_of page f ≡ Ok p → Named b page digits p
named b page digits (Some f) k e g = record { kind = k; place = f; found = e; same = g }
named b page digits None k e g = let z : ◌≡◌ {A = ℕ} 0 1 = cc in absurd (omega arith)

-- a good page is that of its line, or it has a phrase
abbrev pub KindGood : List ℕ → Page → List ℕ → Page → Type 0
KindGood b page digits p = (KindSound page.kind digits × (page ≡ p)) ⊎ Named b page digits p

kind_good : (b : List ℕ) (page : Page) (digits : List ℕ) {p : Page} → kind_page_of b page digits ≡ Ok p → KindGood b page digits p
unfolding kind_page_of tone_page_of
kind_good b page digits {p} = go (between 0 3 page.kind) (between 4 5 page.kind) (is_data page.kind) (eqb page.kind 9 && has_book b) refl refl refl refl
  where
    go : (t u d v : Bool) → between 0 3 page.kind ≡ t → between 4 5 page.kind ≡ u → is_data page.kind ≡ d → eqb page.kind 9 && has_book b ≡ v
        → cond t (tone_page_of page digits) (cond u (text_page_of page (bytes_of digits)) (cond d (data_page_of page digits) (cond v (phrase_page_of page (phrase_for b digits)) (Err UnknownKind)))) ≡ Ok p
        → KindGood b page digits p
    go true u d v e f h k g =
        let kind = page.kind in
        let p = kept (eqb (length digits) 0) ToneWithText _ g in
        let none : length digits ≡ 0 = eqb-true (length digits) 0 p.0 in
        let low : kind ≤ 3 = leb-true kind 3 (and_true (leb 0 kind) (leb kind 3) e).1 in
        inl (
          record { known = omega arith; text = λ _. tone_sound kind (bytes_of digits) low (omega (arith, bytes_length digits)); grouped = λ z. absurd (omega arith) },
          (let same = p.1 in cc),
        )
    go false true d v e f h k g =
        let kind = page.kind in
        let x = and_true (leb 4 kind) (leb kind 5) f in
        let low : 4 ≤ kind = leb-true 4 kind x.0 in
        let high : kind ≤ 5 = leb-true kind 5 x.1 in
        let t = text_sound page (bytes_of digits) low g in
        inl (record { known = omega arith; text = λ _. t.0; grouped = λ z. absurd (omega arith) }, t.1)
    go false false true v e f h k g =
        let kind = page.kind in
        let x = data_kind kind h in
        let t = data_sound page digits g in
        inl (record { known = x.1; text = λ z. absurd (omega (arith, x.0)); grouped = λ _. t.0 }, t.1)
    go false false false true e f h k g = inr (named b page digits (phrase_for b digits) (eqb-true page.kind 9 (and_true (eqb page.kind 9) (has_book b) k).0) refl g)
    go false false false false e f h k g = let z : ◌≡◌ {A = ℕ} 0 1 = cc in absurd (omega arith)

-- how many message codewords the longest texts take
few_groups : (kind n : ℕ) → n ≤ longest_of kind → groups_of (coding_of kind) n ≤ 84
unfolding longest_of coding_of
few_groups kind n h = go (leb kind 3) (eqb kind 4) h
  where
    go : (t u : Bool) → n ≤ cond t 0 (cond u 60 240) → groups_of (cond u Numeric Alphanumeric) n ≤ 84
    go true true h = omega arith
    go true false h = omega arith
    go false true h = omega arith
    go false false h = omega arith

few_codewords : (kind : ℕ) (digits : List ℕ) → KindSound kind digits → count_from kind (length digits) ≤ 84
few_codewords kind digits k =
    ⊎_elim
    (λ (h : kind ≤ 5). rw (count_text kind (length digits) (no_data kind h), ← bytes_length digits) (few_groups kind (length (bytes_of digits)) (k.text h).most))
    (λ (h : 5 < kind). rw (count_data kind (length digits) (is_data_lem kind h k.known)) (omega (arith, (k.grouped h).most)))
    (le_or_lt kind 5)

longest_few : (kind : ℕ) → longest_of kind ≤ 240
unfolding longest_of
longest_few kind = go (leb kind 3) (eqb kind 4)
  where
    go : (t u : Bool) → cond t 0 (cond u 60 240) ≤ 240
    go true u = omega arith
    go false true = omega arith
    go false false = omega arith

-- and how many digits they have
few_digits : (l : List ℕ) → well_formed l ≡ true → KindSound (kind_of l) (text_digits l) → length (text_digits l) ≤ 480
few_digits l formed k =
    ⊎_elim
    (λ (h : kind_of l ≤ 5). omega (arith, text_even l (no_data (kind_of l) h) formed, bytes_length (text_digits l), (k.text h).most, longest_few (kind_of l)))
    (λ (h : 5 < kind_of l). omega (arith, (k.grouped h).most))
    (le_or_lt (kind_of l) 5)

function_small : (kind : ℕ) → kind ≤ 7 → function_of kind < 4
unfolding function_of
function_small kind h = go (eqb kind 4) (eqb kind 5) (eqb kind 6) (eqb kind 7) refl refl refl refl
  where
    go : (t u v w : Bool) → eqb kind 4 ≡ t → eqb kind 5 ≡ u → eqb kind 6 ≡ v → eqb kind 7 ≡ w → cond t 0 (cond u 3 (cond v 1 (cond w 2 kind))) < 4
    go true u v w d e f g = omega arith
    go false true v w d e f g = omega arith
    go false false true w d e f g = omega arith
    go false false false true d e f g = omega arith
    go false false false false d e f g =
        let four : kind ≡ 4 → ⊥ = eqb-false kind 4 d in
        let five : kind ≡ 5 → ⊥ = eqb-false kind 5 e in
        let six : kind ≡ 6 → ⊥ = eqb-false kind 6 f in
        let seven : kind ≡ 7 → ⊥ = eqb-false kind 7 g in
        omega arith

-- the tests of a line that is good with the book b
pub record Passed (b : List ℕ) (at : ℕ) (l : List ℕ) (p : Page) : Type 0 where
  pub formed : well_formed l ≡ true
  pub in_range : identity_of l ≤ 0x1FFFFF
  pub free : is_reserved (identity_of l) ≡ false
  pub kinds : KindGood b (page_from at l) (text_digits l) p

pub passed : (b : List ℕ) (at : ℕ) (l : List ℕ) {p : Page} → line_of b at l ≡ Ok p → Passed b at l p
unfolding line_of page_of
passed b at l e =
    let p1 = kept (well_formed l) Malformed _ e in
    let p2 = past (ltb 0x1FFFFF (identity_of l)) IdentityRange _ p1.1 in
    let p3 = past (is_reserved (identity_of l)) IdentityReserved _ p2.1 in
    record { formed = p1.0; in_range = ltb-false _ _ p2.0; free = p3.0; kinds = kind_good b (page_from at l) (text_digits l) p3.1 }

-- a line with a text of its own
pub sound : (l : List ℕ) → well_formed l ≡ true → identity_of l ≤ 0x1FFFFF → is_reserved (identity_of l) ≡ false → KindSound (kind_of l) (text_digits l) → Sound l
sound l formed in_range free kinds =
    record {
      formed = formed;
      in_range = in_range;
      free = free;
      known = kinds.known;
      text = kinds.text;
      grouped = kinds.grouped;
      function = function_small (kind_of l) kinds.known;
      brief = few_codewords (kind_of l) (text_digits l) kinds;
      short = few_digits l formed kinds;
    }
