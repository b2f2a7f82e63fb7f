-- The text of the first groups begins the text of all. Assumes nothing.
use mathlib.Core.Path.{◌≡◌, refl, sym, ap, ◌∙◌}
use mathlib.Core.Bool.{Bool, true, false, cond}
use mathlib.Core.List.{List, [], ◌∷◌}
use Prim.Native.Nat.{ℕ, zero, suc, ◌+◌, ◌*◌, ◌/◌, ◌%◌, ◌^◌, ◌-◌, ◌≤◌, ◌<◌}
use native.Mathlib.Omega.{arith}
use lib.Dec.{eqb}
use lib.ListN.{length, take, length-take}
use lib.Seq.{get_or-take}
use Rattle.base.specs.Leading.{leading}
use Rattle.base.specs.Lists.{Begins}
use Rattle.base.proofs.ListLaws.{tab-same, tab_take}
use Rattle.text.specs.Coding.{width_of}
use Rattle.text.specs.Heard.{bit_in, shown, char_heard, whole_in, chars_in, ahead, trimmed, goes_on, until_end, heard_text}
use Rattle.text.specs.Front.{Front}
use Rattle.text.specs.declared.Coding.{Coding}
use Rattle.text.specs.declared.Coding.TheVariants.{Numeric, Alphanumeric}
use Rattle.text.proofs.BitLaws.{low_same}
use Rattle.text.proofs.TextBack.{inside}

-- ---- the characters of the first groups are the first characters

fewer : (c : Coding) (m n : ℕ) → m ≤ n → whole_in c m ≤ whole_in c n
fewer Numeric m n h = omega arith
fewer Alphanumeric m n h = omega arith

module _ (c : Coding) (k : ℕ) (gs : List ℕ) where
  char_front : (i : ℕ) → i < whole_in c (length (take k gs)) → char_heard c (take k gs) i ≡ char_heard c gs i
  char_front i h =
      let l = inside c (length (take k gs)) i h in
      ap (shown c)
      (low_same (λ b. bit_in (take k gs) (width_of c * i + b)) (λ b. bit_in gs (width_of c * i + b)) (width_of c)
      (λ b m.
      let p = width_of c * i + b in
      let q : p / 20 < k = omega (arith, length-take k gs) in
      ap (λ (g : ℕ). g / 2 ^ (19 - p % 20) % 2) (get_or-take k gs (p / 20) 0 q)))

  chars_front : chars_in c (take k gs) ≡ take (whole_in c (length (take k gs))) (chars_in c gs)
  chars_front =
      let m = whole_in c (length (take k gs)) in
      let l : length (take k gs) ≤ length gs = omega (arith, length-take k gs) in
      tab-same (char_heard c (take k gs)) (char_heard c gs) m char_front
      ∙ sym (tab_take (char_heard c gs) (whole_in c (length gs)) m (fewer c (length (take k gs)) (length gs) l))

-- ---- what is left of the first characters begins what is left of all

-- numeric: without trailing spaces
ahead_begins : (b : ℕ) (t s : List ℕ) → Begins t s → Begins (ahead b t) (ahead b s)
ahead_begins b [] [] e = go (eqb b 32)
  where
    go : (x : Bool) → Begins (cond x [] (b ∷ [])) (cond x [] (b ∷ []))
    go true = refl
    go false = refl
ahead_begins b [] (y ∷ s) e = go (eqb b 32)
  where
    go : (x : Bool) → Begins (cond x [] (b ∷ [])) (b ∷ y ∷ s)
    go true = refl
    go false = refl
ahead_begins b (x ∷ t) [] e = absurd (let n : suc (length t) ≡ 0 = ap length e in omega arith)
ahead_begins b (x ∷ t) (y ∷ s) e = ap (λ (l : List ℕ). b ∷ l) e

trim_begins : (m : ℕ) (s : List ℕ) → Begins (trimmed (take m s)) (trimmed s)
unfolding trimmed
trim_begins zero s = refl
trim_begins (suc m) [] = refl
trim_begins (suc m) (b ∷ s) = ahead_begins b (trimmed (take m s)) (trimmed s) (trim_begins m s)

-- alphanumeric: up to the end
cons_begins : (b : ℕ) (x : Bool) (m n : ℕ) (t s : List ℕ) → Begins (take m t) (take n s)
    → Begins (take (cond x (suc m) 0) (b ∷ t)) (take (cond x (suc n) 0) (b ∷ s))
cons_begins b true m n t s e = ap (λ (l : List ℕ). b ∷ l) e
cons_begins b false m n t s e = refl

end_begins : (m : ℕ) (s : List ℕ) → Begins (until_end (take m s)) (until_end s)
end_begins zero s = refl
end_begins (suc m) [] = refl
end_begins (suc m) (b ∷ s) = cons_begins b (goes_on b) (leading goes_on (take m s)) (leading goes_on s) (take m s) s (end_begins m s)

pub text_front : Front
unfolding heard_text
text_front Numeric k gs = rw (chars_front Numeric k gs) (trim_begins (whole_in Numeric (length (take k gs))) (chars_in Numeric gs))
text_front Alphanumeric k gs = rw (chars_front Alphanumeric k gs) (end_begins (whole_in Alphanumeric (length (take k gs))) (chars_in Alphanumeric gs))
