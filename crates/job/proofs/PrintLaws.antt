-- Laws of the printed line: its length, its parts, that it is one line of a text, and what printing answers. Assumes nothing.
use Prim.Native.Nat.{ℕ, ◌+◌, ◌/◌, ◌%◌, ◌^◌, ◌≤◌, ◌<◌}
use mathlib.Core.Path.{◌≡◌, refl, ap, sym, ◌∙◌}
use mathlib.Core.Bool.{Bool, true, false}
use mathlib.Core.List.{List, [], ◌∷◌, ◌++◌, append_assoc}
use native.Mathlib.Omega.{arith}
use lib.Dec.{eqb}
use lib.ListN.{length, length-append}
use Rattle.base.specs.Hex.{digit_of, hex_number, digits_of}
use Rattle.base.specs.Lines.{line, split}
use Rattle.base.specs.Lists.{has}
use Rattle.base.proofs.HexLaws.{digits_length, digits_back, digit_not, digits_lack}
use Rattle.base.proofs.LinesLaws.{split_whole}
use Rattle.base.proofs.ListLaws.{has_append}
use Rattle.job.specs.Line.{identity_of}
use Rattle.job.specs.Print.{head_of, spaced, ending, printed}

pub spaced_none : (ds : List ℕ) → length ds ≡ 0 → spaced ds ≡ []
spaced_none [] h = refl
spaced_none (d ∷ ds) h = absurd (omega arith)

pub spaced_some : (ds : List ℕ) → 0 < length ds → spaced ds ≡ 32 ∷ ds
spaced_some [] h = absurd (omega arith)
spaced_some (d ∷ ds) h = refl

pub spaced_few : (ds : List ℕ) → length (spaced ds) ≤ length ds + 1
spaced_few [] = omega arith
spaced_few (d ∷ ds) = omega arith

pub ending_few : (cut : Bool) → length (ending cut) ≤ 2
ending_few true = omega arith
ending_few false = omega arith

pub head_length : (identity kind : ℕ) → length (head_of identity kind) ≡ 8
head_length identity kind = omega (arith, length-append (digits_of 6 identity) (32 ∷ digit_of (kind % 16) ∷ []), digits_length 6 identity)

pub printed_length : (identity kind : ℕ) (ds : List ℕ) (cut : Bool) → length (printed identity kind ds cut) ≡ 8 + length (spaced ds) + length (ending cut)
unfolding printed
printed_length identity kind ds cut =
    omega (arith, length-append (head_of identity kind) (spaced ds ++ ending cut), length-append (spaced ds) (ending cut), head_length identity kind)

-- the three parts, one behind the other
pub whole : (identity kind : ℕ) (ds : List ℕ) (cut : Bool) → (head_of identity kind ++ spaced ds) ++ ending cut ≡ printed identity kind ds cut
unfolding printed
whole identity kind ds cut = append_assoc (head_of identity kind) (spaced ds) (ending cut)

-- ---- a value below that of '0', and no space: the line has it only in its ending, where the text's digits have it not

module _ (x : ℕ) (low : x < 48) (other : eqb 32 x ≡ false) where
  spaced_lack : (ds : List ℕ) → has x ds ≡ false → has x (spaced ds) ≡ false
  unfolding has
  spaced_lack [] e = refl
  spaced_lack (d ∷ ds) e = rw other e

  front_lack : (identity kind : ℕ) (ds : List ℕ) → has x ds ≡ false → has x (head_of identity kind ++ spaced ds) ≡ false
  unfolding has
  front_lack identity kind ds e =
      rw (
        has_append x (head_of identity kind) (spaced ds),
        has_append x (digits_of 6 identity) (32 ∷ digit_of (kind % 16) ∷ []),
        digits_lack x low 6 identity,
        other,
        digit_not x low (kind % 16),
      )
      (spaced_lack ds e)

  pub printed_has : (identity kind : ℕ) (ds : List ℕ) (cut : Bool) → has x ds ≡ false → has x (printed identity kind ds cut) ≡ has x (ending cut)
  printed_has identity kind ds cut e =
      rw (← whole identity kind ds cut, has_append x (head_of identity kind ++ spaced ds) (ending cut), front_lack identity kind ds e)

-- ---- one line of a text

-- without its newline
abbrev pub unended : ℕ → ℕ → List ℕ → Bool → List ℕ
unended identity kind ds true = (head_of identity kind ++ spaced ds) ++ (45 ∷ [])
unended identity kind ds false = head_of identity kind ++ spaced ds

module _ (identity kind : ℕ) (ds : List ℕ) where
  pub printed_unended : (cut : Bool) → printed identity kind ds cut ≡ unended identity kind ds cut ++ (10 ∷ [])
  printed_unended true = sym (whole identity kind ds true) ∙ sym (append_assoc (head_of identity kind ++ spaced ds) (45 ∷ []) (10 ∷ []))
  printed_unended false = sym (whole identity kind ds false)

  -- no other newline is in it
  unended_lack : (cut : Bool) → has 10 ds ≡ false → has 10 (unended identity kind ds cut) ≡ false
  unfolding has
  unended_lack true e = rw (has_append 10 (head_of identity kind ++ spaced ds) (45 ∷ []), front_lack 10 (omega arith) refl identity kind ds e)
  unended_lack false e = front_lack 10 (omega arith) refl identity kind ds e

  pub printed_split : (cut : Bool) (rest : List ℕ) → has 10 ds ≡ false → split (printed identity kind ds cut ++ rest) ≡ line (unended identity kind ds cut) (split rest)
  printed_split cut rest e =
      ap (λ (t : List ℕ). split (t ++ rest)) (printed_unended cut)
      ∙ ap split (append_assoc (unended identity kind ds cut) (10 ∷ []) rest)
      ∙ split_whole (unended identity kind ds cut) rest (unended_lack cut e)

  -- its first six digits write the identity
  six : (cut : Bool) → identity_of (unended identity kind ds cut) ≡ hex_number 0 (digits_of 6 identity)
  unfolding digits_of
  six true = refl
  six false = refl

  pub unended_identity : (cut : Bool) → identity < 16 ^ 6 → identity_of (unended identity kind ds cut) ≡ identity
  unended_identity cut h =
      let none : identity / 16 ^ 6 ≡ 0 = omega arith in
      six cut ∙ ap (λ (n : ℕ). hex_number n (digits_of 6 identity)) (sym none) ∙ digits_back 6 identity
