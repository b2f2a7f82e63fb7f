-- Laws of the text of groups: it is a front part of the characters. Assumes nothing.
use mathlib.Core.Path.{◌≡◌, refl, sym, ap, ◌∙◌}
use mathlib.Core.Bool.{Bool, true, false, cond, not}
use mathlib.Core.List.{List, [], ◌∷◌, ◌++◌}
use Prim.Native.Nat.{ℕ, zero, suc, ◌+◌, ◌-◌, ◌*◌, ◌/◌, ◌≤◌, ◌<◌}
use native.Mathlib.Omega.{arith}
use lib.Dec.{eqb}
use borrow.Author.Tests.{ne_eqb}
use lib.ListN.{length, get_or, take, drop, length-take}
use lib.Seq.{length-take-le}
use Rattle.base.specs.Leading.{leading}
use Rattle.base.specs.Lists.{tab, Begins}
use Rattle.base.proofs.LeadingLaws.{leading_more, leading_stop, leading_end, leading_le}
use Rattle.base.proofs.ListLaws.{tab-length, tab-at}
use Rattle.text.specs.Heard.{char_heard, whole_in, chars_in, ahead, trimmed, ends, goes_on, heard_text}
use Rattle.text.specs.declared.Coding.{Coding}
use Rattle.text.specs.declared.Coding.TheVariants.{Numeric, Alphanumeric}

ahead_front : (b : ℕ) (s t : List ℕ) → Begins t s → Begins (ahead b t) (b ∷ s)
ahead_front b s [] e = go (eqb b 32)
  where
    go : (x : Bool) → Begins (cond x [] (b ∷ [])) (b ∷ s)
    go true = refl
    go false = refl
ahead_front b s (x ∷ t) e = ap (λ (l : List ℕ). b ∷ l) e

trim_front : (s : List ℕ) → Begins (trimmed s) s
unfolding trimmed
trim_front [] = refl
trim_front (b ∷ s) = ahead_front b s (trimmed s) (trim_front s)

pub heard_front : (c : Coding) (gs : List ℕ) → Begins (heard_text c gs) (chars_in c gs)
unfolding heard_text
heard_front Numeric gs = trim_front (chars_in Numeric gs)
heard_front Alphanumeric gs =
    let s = chars_in Alphanumeric gs in
    ap (λ (n : ℕ). take n s) (sym (length-take-le (leading goes_on s) s (leading_le goes_on s)))

-- it is no longer than the groups have whole characters
pub heard_fits : (c : Coding) (gs : List ℕ) → length (heard_text c gs) ≤ whole_in c (length gs)
heard_fits c gs =
    omega (
      arith,
      ap length (heard_front c gs) ∙ length-take (length (heard_text c gs)) (chars_in c gs),
      tab-length (char_heard c gs) (whole_in c (length gs)),
    )

-- ---- the length of a numeric text: the loop that goes back over its trailing spaces

tab_end : (f : ℕ → ℕ) (n : ℕ) → tab f (suc n) ≡ tab f n ++ (f n ∷ [])
unfolding tab
tab_end f zero = refl
tab_end f (suc n) = ap (λ (t : List ℕ). f 0 ∷ t) (tab_end (λ k. f (suc k)) n)

trim_space : (s : List ℕ) → trimmed (s ++ (32 ∷ [])) ≡ trimmed s
unfolding trimmed
trim_space [] = refl
trim_space (b ∷ s) = ap (ahead b) (trim_space s)

ahead_some : (b x : ℕ) (s : List ℕ) → ahead b (s ++ (x ∷ [])) ≡ b ∷ (s ++ (x ∷ []))
ahead_some b x [] = refl
ahead_some b x (y ∷ s) = refl

trim_other : (s : List ℕ) (x : ℕ) → eqb x 32 ≡ false → trimmed (s ++ (x ∷ [])) ≡ s ++ (x ∷ [])
unfolding trimmed
trim_other [] x e = rw e
trim_other (b ∷ s) x e = ap (ahead b) (trim_other s x e) ∙ ahead_some b x s

pub numeric_start : (gs : List ℕ) → length (heard_text Numeric gs) ≡ length (trimmed (tab (char_heard Numeric gs) (5 * length gs)))
unfolding heard_text
numeric_start gs = let e : 20 * length gs / 4 ≡ 5 * length gs = omega arith in rw e

module _ (f : ℕ → ℕ) (n : ℕ) (some : 0 < n) where
  last : tab f n ≡ tab f (n - 1) ++ (f (n - 1) ∷ [])
  last = let e : n ≡ suc (n - 1) = omega arith in ap (tab f) e ∙ tab_end f (n - 1)

  pub trim_more : f (n - 1) ≡ 32 → trimmed (tab f n) ≡ trimmed (tab f (n - 1))
  trim_more h = ap trimmed (last ∙ ap (λ (x : ℕ). tab f (n - 1) ++ (x ∷ [])) h) ∙ trim_space (tab f (n - 1))

  pub trim_stop : (f (n - 1) ≡ 32 → ⊥) → length (trimmed (tab f n)) ≡ n
  trim_stop h = ap length (ap trimmed last ∙ trim_other (tab f (n - 1)) (f (n - 1)) (ne_eqb (f (n - 1)) 32 h) ∙ sym last) ∙ tab-length f n

-- the loop of the numeric length stops behind a character that is no space
pub numeric_stop : (gs : List ℕ) (n : ℕ) → 0 < n → (char_heard Numeric gs (n - 1) ≡ 32 → ⊥) → length (trimmed (tab (char_heard Numeric gs) n)) ≡ n
numeric_stop gs n some h = trim_stop (char_heard Numeric gs) n some h

pub trim_none : (f : ℕ → ℕ) (n : ℕ) → n ≤ 0 → length (trimmed (tab f n)) ≡ n
unfolding trimmed tab
trim_none f n h = let e : n ≡ 0 = omega arith in rw e

-- ---- the length of an alphanumeric text: the loop that goes on to its end

pub alphanumeric_length : (gs : List ℕ) → length (heard_text Alphanumeric gs) ≡ leading goes_on (chars_in Alphanumeric gs)
unfolding heard_text
alphanumeric_length gs = let s = chars_in Alphanumeric gs in length-take-le (leading goes_on s) s (leading_le goes_on s)

module _ (gs : List ℕ) (i : ℕ) where
  at : i < whole_in Alphanumeric (length gs) → (x : Bool) → ends (char_heard Alphanumeric gs i) ≡ x → goes_on (get_or (chars_in Alphanumeric gs) i 0) ≡ not x
  at h x e = ap goes_on (tab-at (char_heard Alphanumeric gs) (whole_in Alphanumeric (length gs)) i 0 h) ∙ ap not e

  inside : i < whole_in Alphanumeric (length gs) → i < length (chars_in Alphanumeric gs)
  inside h = omega (arith, tab-length (char_heard Alphanumeric gs) (whole_in Alphanumeric (length gs)))

  pub end_more : i < whole_in Alphanumeric (length gs) → ends (char_heard Alphanumeric gs i) ≡ false
      → leading goes_on (drop i (chars_in Alphanumeric gs)) ≡ suc (leading goes_on (drop (i + 1) (chars_in Alphanumeric gs)))
  end_more h e = leading_more goes_on (chars_in Alphanumeric gs) i (inside h) (at h false e)

  pub end_stop : i < whole_in Alphanumeric (length gs) → ends (char_heard Alphanumeric gs i) ≡ true → leading goes_on (drop i (chars_in Alphanumeric gs)) ≡ 0
  end_stop h e = leading_stop goes_on (chars_in Alphanumeric gs) i (inside h) (at h true e)

  pub end_none : whole_in Alphanumeric (length gs) ≤ i → leading goes_on (drop i (chars_in Alphanumeric gs)) ≡ 0
  end_none h = leading_end goes_on (chars_in Alphanumeric gs) i (omega (arith, tab-length (char_heard Alphanumeric gs) (whole_in Alphanumeric (length gs))))
