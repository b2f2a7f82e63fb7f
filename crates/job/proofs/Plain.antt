-- What a good line stands for is sound, and its page has it. Assumes nothing.
use Prim.Native.Nat.{ℕ, ◌≤◌}
use mathlib.Core.Path.{◌≡◌, refl, sym, ap, ◌∙◌}
use mathlib.Core.List.{List, [], ◌∷◌}
use mathlib.Core.Bool.{true}
use mathlib.Core.Logic.{⊎_elim}
use native.Mathlib.Omega.{arith}
use lib.ListN.{length, take, drop, length-drop}
use lib.Seq.{drop-drop}
use lib.Dec.{leb, eqb}
use borrow.Author.Tests.{eq-eqb, ne_eqb, le-leb}
use Rattle.std.specs.Prelude.{Ok}
use Rattle.base.specs.Hex.{is_hex, hex_of, bytes_of}
use Rattle.base.proofs.Bools.{and_true, and_both}
use Rattle.base.proofs.ListLaws.{drop_take}
use Rattle.phrases.specs.Book.{book_fault, phrase_of}
use Rattle.phrases.proofs.Found.{found}
use Rattle.phrases.proofs.Phrases.{two_digits}
use Rattle.job.specs.Submission.{with_book}
use Rattle.job.specs.Line.{is_data, kind_sent, all_hex, is_pairs, head_formed, text_formed, tail_formed, well_formed, identity_of, kind_of, text_digits, page_from, line_of}
use Rattle.job.specs.Pages.{digits_in, phrased, plain}
use Rattle.job.specs.Accepted.{TextSound, Sound}
use Rattle.job.specs.declared.Page.{Page}
use Rattle.job.proofs.Laws.{head_long}
use Rattle.job.proofs.PhraseText.{phrase_text}
use Rattle.job.proofs.Sound.{KindSound, Named, Passed, passed, sound}

-- what is known of a good line that starts at byte `at`, of its page p, and of the line x that it stands for
pub record Fine (b : List ℕ) (at : ℕ) (l : List ℕ) (p : Page) (x : List ℕ) : Type 0 where
  pub sounds : Sound x
  pub short : length l ≤ 489
  pub identity_is : p.identity ≡ identity_of x
  pub kind_is : kind_sent p.kind ≡ kind_of x
  pub length_is : p.length ≡ length (text_digits x)
  pub digits_are : (job : List ℕ) → take (length l) (drop at job) ≡ l → digits_in (with_book job b) p ≡ text_digits x
  pub line_kind : p.kind ≡ kind_of l
  pub phrased : kind_of l ≡ 9 → (kind_of x ≡ 5) × (text_digits x ≡ phrase_of b (text_digits l))

-- ---- a line with a text of its own

sent_own : (kind : ℕ) → kind ≤ 7 → kind_sent kind ≡ kind
unfolding kind_sent
sent_own kind h = rw (ne_eqb kind 9 (λ e. omega arith))

plain_own : (b l : List ℕ) → kind_of l ≤ 7 → plain b l ≡ l
unfolding plain
plain_own b l h = rw (ne_eqb (kind_of l) 9 (λ e. omega arith))

fine_own : (b : List ℕ) (at : ℕ) (l : List ℕ) {p : Page} → Sound l → page_from at l ≡ p → Fine b at l p l
fine_own b at l s e =
    rw (← e)
    (record {
      sounds = s;
      short = omega (arith, s.short, length-drop 9 l);
      identity_is = refl;
      kind_is = sent_own (kind_of l) s.known;
      length_is = sym (length-drop 9 l);
      digits_are = λ job there. rw (ne_eqb (kind_of l) 9 (λ e. omega (arith, s.known)), ← drop-drop 9 at job, ← drop_take 9 (length l) (drop at job), there);
      line_kind = refl;
      phrased = λ e. absurd (omega (arith, s.known));
    })

-- ---- a line of kind 9

-- a line of at least eight bytes
data Eight : List ℕ → Type 0 where
  eight : (a b c d e f g h : ℕ) (r : List ℕ) → Eight (a ∷ b ∷ c ∷ d ∷ e ∷ f ∷ g ∷ h ∷ r)

view : (l : List ℕ) → 8 ≤ length l → Eight l
view [] n = absurd (omega arith)
view (a ∷ []) n = absurd (omega arith)
view (a ∷ b ∷ []) n = absurd (omega arith)
view (a ∷ b ∷ c ∷ []) n = absurd (omega arith)
view (a ∷ b ∷ c ∷ d ∷ []) n = absurd (omega arith)
view (a ∷ b ∷ c ∷ d ∷ e ∷ []) n = absurd (omega arith)
view (a ∷ b ∷ c ∷ d ∷ e ∷ f ∷ []) n = absurd (omega arith)
view (a ∷ b ∷ c ∷ d ∷ e ∷ f ∷ g ∷ []) n = absurd (omega arith)
view (a ∷ b ∷ c ∷ d ∷ e ∷ f ∷ g ∷ h ∷ r) n = eight a b c d e f g h r

record Phrased (l ds : List ℕ) : Type 0 where
  formed : well_formed (phrased l ds) ≡ true
  identity : identity_of (phrased l ds) ≡ identity_of l
  kind : kind_of (phrased l ds) ≡ 5
  digits : text_digits (phrased l ds) ≡ ds

phrased_is : (l ds : List ℕ) → Eight l → head_formed l ≡ true → is_pairs ds ≡ true → Phrased l ds
unfolding well_formed head_formed tail_formed text_formed is_data is_hex hex_of
phrased_is l ds (eight a b c d e f g h r) w p =
    let head = (and_true (leb 8 (length (a ∷ b ∷ c ∷ d ∷ e ∷ f ∷ g ∷ h ∷ r))) _ w).1 in
    let six = and_true (all_hex (a ∷ b ∷ c ∷ d ∷ e ∷ f ∷ [])) _ head in
    let space = (and_true (eqb g 32) _ six.1).0 in
    record {
      formed = and_both (and_both (le-leb 8 (length (a ∷ b ∷ c ∷ d ∷ e ∷ f ∷ g ∷ 53 ∷ 32 ∷ ds)) (omega arith)) (and_both six.0 (and_both space refl))) (rw (ne_eqb (length (32 ∷ ds)) 0 (λ z. omega arith)) p);
      identity = refl;
      kind = refl;
      digits = refl;
    }

phrase_kind : (ds : List ℕ) → TextSound 5 (bytes_of ds) → KindSound 5 ds
phrase_kind ds t = record { known = omega arith; text = λ _. t; grouped = λ h. absurd (omega arith) }

plain_phrase : (b l : List ℕ) → kind_of l ≡ 9 → plain b l ≡ phrased l (phrase_of b (text_digits l))
unfolding plain
plain_phrase b l h = rw (eq-eqb (kind_of l) 9 h)

fine_phrase : (b : List ℕ) (at : ℕ) (l : List ℕ) {p : Page} → book_fault b ≡ 0 → Passed b at l p → Named b (page_from at l) (text_digits l) p → Fine b at l p (phrased l (phrase_of b (text_digits l)))
unfolding well_formed kind_sent
fine_phrase b at l {p} ok t n =
    let ds = phrase_of b (text_digits l) in
    let f = found b (text_digits l) ok n.found in
    let head = (and_true (head_formed l) _ t.formed).0 in
    let text = (phrase_text ds).text f.phrase in
    let x = phrased_is l ds (view l (head_long l head)) head text.0 in
    let same = n.same in
    let is : record { identity = identity_of l; kind = kind_of l; start = n.place.start; length = n.place.length } ≡ p = cc in
    rw (← is)
    (record {
      sounds = sound (phrased l ds) x.formed (rw x.identity t.in_range) (rw x.identity t.free) (rw (x.kind, x.digits) (phrase_kind ds text.1));
      short = omega (arith, two_digits (text_digits l) f.named, length-drop 9 l);
      identity_is = sym x.identity;
      kind_is = ap kind_sent n.kind ∙ sym x.kind;
      length_is = f.size ∙ ap length (sym x.digits);
      digits_are = λ job there. rw (eq-eqb (kind_of l) 9 n.kind) (f.there ∙ sym x.digits);
      line_kind = refl;
      phrased = λ _. (x.kind, x.digits);
    })

-- ---- every good line

pub fine : (b : List ℕ) (at : ℕ) (l : List ℕ) {p : Page} → book_fault b ≡ 0 → line_of b at l ≡ Ok p → Fine b at l p (plain b l)
fine b at l ok e =
    let t = passed b at l e in
    ⊎_elim
    (λ k. rw (plain_own b l k.0.known) (fine_own b at l (sound l t.formed t.in_range t.free k.0) (let same = k.1 in cc)))
    (λ k. rw (plain_phrase b l k.kind) (fine_phrase b at l ok t k))
    t.kinds
