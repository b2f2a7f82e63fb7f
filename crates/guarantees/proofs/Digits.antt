-- The kind and the digits that are heard of groups, by the kind of the page that was sent. Assumes nothing.
use mathlib.Core.Path.{◌≡◌, refl, sym, ◌∙◌}
use mathlib.Core.Bool.{Bool, true, false, cond}
use mathlib.Core.List.{List, [], ◌∷◌}
use mathlib.Core.Logic.{⊎_elim}
use Prim.Native.Nat.{ℕ, ◌+◌, ◌%◌, ◌≤◌, ◌<◌}
use native.Mathlib.Nat.{eq-or-lt_of_le}
use native.Mathlib.Omega.{arith}
use lib.Dec.{eqb}
use lib.ListN.{length, take}
use Rattle.base.specs.Hex.{pairs_of}
use Rattle.base.specs.Lists.{tab, Begins, has}
use Rattle.base.proofs.HexLaws.{pairs_length, pairs_begin, pairs_lack}
use Rattle.base.proofs.SearchLaws.{le_or_lt}
use Rattle.text.specs.Fives.{fives}
use Rattle.text.specs.Heard.{trimmed, heard_text}
use Rattle.text.specs.declared.Coding.{Coding}
use Rattle.text.specs.declared.Coding.TheVariants.{Numeric, Alphanumeric}
use Rattle.text.proofs.FivesBack.{fives_length, fives_begin, fives_lack}
use Rattle.text.proofs.TextFront.{text_front}
use Rattle.job.specs.Line.{is_data, coding_of, function_of}
use Rattle.job.specs.Print.{ending, printed}
use Rattle.job.proofs.Message.{no_data}
use Rattle.job.proofs.PrintLaws.{printed_has}
use Rattle.reader.specs.Lines.{kind_heard, digits_heard}
use Rattle.guarantees.specs.NothingFalse.{has_dash, together}

-- ---- the digits of a kind's groups

abbrev pub digits_from : ℕ → List ℕ → List ℕ
digits_from kind gs = cond (is_data kind) (fives gs) (pairs_of (heard_text (coding_of kind) gs))

-- those of the first groups begin those of all
pub digits_begin : (kind k : ℕ) (gs : List ℕ) → Begins (digits_from kind (take k gs)) (digits_from kind gs)
digits_begin kind k gs = go (is_data kind)
  where
    go : (d : Bool) → Begins (cond d (fives (take k gs)) (pairs_of (heard_text (coding_of kind) (take k gs)))) (cond d (fives gs) (pairs_of (heard_text (coding_of kind) gs)))
    go true = fives_begin k gs
    go false = pairs_begin (heard_text (coding_of kind) (take k gs)) (heard_text (coding_of kind) gs) (text_front (coding_of kind) k gs)

-- they are whole characters or groups, without `-`
pub digits_whole : (kind : ℕ) (gs : List ℕ) → length (digits_from kind gs) % together kind ≡ 0
digits_whole kind gs = go (is_data kind)
  where
    go : (d : Bool) → length (cond d (fives gs) (pairs_of (heard_text (coding_of kind) gs))) % cond d 5 2 ≡ 0
    go true = omega (arith, fives_length gs)
    go false = omega (arith, pairs_length (heard_text (coding_of kind) gs))

pub digits_undashed : (kind : ℕ) (gs : List ℕ) → has_dash (digits_from kind gs) ≡ false
digits_undashed kind gs = go (is_data kind)
  where
    go : (d : Bool) → has_dash (cond d (fives gs) (pairs_of (heard_text (coding_of kind) gs))) ≡ false
    go true = fives_lack 45 (omega arith) gs
    go false = pairs_lack 45 (omega arith) (heard_text (coding_of kind) gs)

-- so a line has `-` exactly where it is cut short
pub printed_dash : (identity kind : ℕ) (digits : List ℕ) (cut : Bool) → has_dash digits ≡ false → has_dash (printed identity kind digits cut) ≡ cut
unfolding has
printed_dash identity kind digits cut none = printed_has 45 (omega arith) refl identity kind digits cut none ∙ go cut
  where
    go : (x : Bool) → has_dash (ending x) ≡ x
    go true = refl
    go false = refl

-- ---- what is heard

-- with groups the kind is the page's, with none the function's tone, and the digits are the kind's
pub record Shown (kind : ℕ) (gs : List ℕ) : Type 0 where
  pub tone_is : length gs ≡ 0 → kind_heard (function_of kind) gs ≡ function_of kind
  pub kind_is : 0 < length gs → kind_heard (function_of kind) gs ≡ kind
  pub digits_are : digits_heard (function_of kind) gs ≡ digits_from kind gs

tone_kind : (f : ℕ) (gs : List ℕ) → length gs ≡ 0 → kind_heard f gs ≡ f
tone_kind f [] e = refl
tone_kind f (g ∷ gs) e = absurd (omega arith)

text_kind : (f : ℕ) (gs : List ℕ) → 0 < length gs → kind_heard f gs ≡ cond (eqb f 0) 4 (cond (eqb f 3) 5 (f + 5))
text_kind f [] h = absurd (omega arith)
text_kind f (g ∷ gs) h = refl

-- a tone
no_text : (c : Coding) → heard_text c [] ≡ []
unfolding heard_text trimmed tab
no_text Numeric = refl
no_text Alphanumeric = refl

no_digits : (f : ℕ) → digits_heard f [] ≡ []
unfolding fives pairs_of
no_digits f = rw (no_text Numeric, no_text Alphanumeric) (go (eqb f 0) (eqb f 3))
  where
    go : (t u : Bool) → cond {A = List ℕ} t [] (cond u [] []) ≡ []
    go true u = refl
    go false true = refl
    go false false = refl

shown_tone : (kind : ℕ) (gs : List ℕ) → kind ≤ 3 → length gs ≡ 0 → Shown kind gs
unfolding pairs_of
shown_tone kind [] h e =
    record {
      tone_is = λ _. refl;
      kind_is = λ z. absurd (omega arith);
      digits_are = no_digits (function_of kind) ∙ sym (rw (no_data kind (omega arith), no_text (coding_of kind)));
    }
shown_tone kind (g ∷ gs) h e = absurd (omega arith)

shown_numeric : (gs : List ℕ) → Shown 4 gs
unfolding function_of coding_of is_data
shown_numeric gs = record { tone_is = tone_kind 0 gs; kind_is = text_kind 0 gs; digits_are = refl }

shown_alphanumeric : (gs : List ℕ) → Shown 5 gs
unfolding function_of coding_of is_data
shown_alphanumeric gs = record { tone_is = tone_kind 3 gs; kind_is = text_kind 3 gs; digits_are = refl }

shown_six : (gs : List ℕ) → Shown 6 gs
unfolding function_of is_data
shown_six gs = record { tone_is = tone_kind 1 gs; kind_is = text_kind 1 gs; digits_are = refl }

shown_seven : (gs : List ℕ) → Shown 7 gs
unfolding function_of is_data
shown_seven gs = record { tone_is = tone_kind 2 gs; kind_is = text_kind 2 gs; digits_are = refl }

pub shown : (kind : ℕ) (gs : List ℕ) → kind ≤ 7 → (kind ≤ 3 → length gs ≡ 0) → Shown kind gs
shown kind gs most tone =
    ⊎_elim
    (λ h. shown_tone kind gs h (tone h))
    (λ h. ⊎_elim
    (λ (e : 4 ≡ kind). rw (← e) (shown_numeric gs))
    (λ l. ⊎_elim
    (λ (e : 5 ≡ kind). rw (← e) (shown_alphanumeric gs))
    (λ m. ⊎_elim
    (λ (e : 6 ≡ kind). rw (← e) (shown_six gs))
    (λ o. let e : 7 ≡ kind = omega arith in rw (← e) (shown_seven gs))
    (eq-or-lt_of_le m))
    (eq-or-lt_of_le l))
    (eq-or-lt_of_le h))
    (le_or_lt kind 3)
