-- The characters of groups written as pairs of digits, one behind the other. Assumes nothing.
use mathlib.Core.Path.{◌≡◌, refl, sym, ap, ◌∙◌}
use mathlib.Core.List.{List, [], ◌∷◌, ◌++◌}
use Prim.Native.Nat.{ℕ, ◌+◌, ◌*◌, ◌/◌, ◌%◌, ◌≤◌, ◌<◌}
use native.Mathlib.Numerals.{add-one}
use native.Mathlib.Omega.{arith}
use lib.ListN.{length, set, take, length-set, length-append}
use lib.Seq.{take-suc, length-take-le}
use Rattle.base.specs.Hex.{digit_of, pairs_of}
use Rattle.base.specs.Lists.{over}
use Rattle.base.proofs.HexLaws.{pairs_length}
use Rattle.base.proofs.ListLaws.{over_byte, tab-length, tab-at}
use Rattle.text.specs.Heard.{char_heard, whole_in, chars_in, heard_text}
use Rattle.text.specs.declared.Coding.{Coding}
use Rattle.text.proofs.HeardLaws.{heard_front}

pairs_end : (s : List ℕ) (b : ℕ) → pairs_of (s ++ (b ∷ [])) ≡ (pairs_of s ++ (digit_of (b / 16) ∷ [])) ++ (digit_of (b % 16) ∷ [])
unfolding pairs_of
pairs_end [] b = refl
pairs_end (x ∷ s) b = ap (λ (l : List ℕ). digit_of (x / 16) ∷ digit_of (x % 16) ∷ l) (pairs_end s b)

-- the pairs of the first i characters stand over the front of a slice
pub record Written (c : Coding) (gs old : List ℕ) (i : ℕ) (out : List ℕ) : Type 0 where
  pub size : length out ≡ length old
  pub is : out ≡ over old (pairs_of (take i (chars_in c gs)))

module _ (c : Coding) (gs old : List ℕ) where
  pub written_none : Written c gs old 0 old
  unfolding pairs_of
  written_none = record { size = refl; is = refl }

  module _ (i : ℕ) {out : List ℕ} (w : Written c gs old i out) where
    -- one character more
    pub written_more : {h l : ℕ} → i < whole_in c (length gs) → 2 * i + 2 ≤ length old → h ≡ digit_of (char_heard c gs i / 16) → l ≡ digit_of (char_heard c gs i % 16)
        → Written c gs old (i + 1) (set (set out (2 * i) h) (2 * i + 1) l)
    written_more {h} {l} inside room eh el =
        let t = chars_in c gs in
        let count = tab-length (char_heard c gs) (whole_in c (length gs)) in
        let done : length (pairs_of (take i t)) ≡ 2 * i = pairs_length (take i t) ∙ ap (λ (n : ℕ). 2 * n) (length-take-le i t (omega arith)) in
        let high = over_byte old (pairs_of (take i t)) (2 * i) h w.is done (omega arith) in
        let low = over_byte old (pairs_of (take i t) ++ (h ∷ [])) (2 * i + 1) l high (omega (arith, length-append (pairs_of (take i t)) (h ∷ []))) (omega arith) in
        let more : pairs_of (take (i + 1) t) ≡ (pairs_of (take i t) ++ (h ∷ [])) ++ (l ∷ [])
        = rw (add-one, take-suc t i 0 (omega arith), tab-at (char_heard c gs) (whole_in c (length gs)) i 0 inside, eh, el) (pairs_end (take i t) (char_heard c gs i)) in
        record {
          size = length-set (set out (2 * i) h) (2 * i + 1) l ∙ length-set out (2 * i) h ∙ w.size;
          is = low ∙ ap (over old) (sym more);
        }

    -- the text is written
    pub written_all : i ≡ length (heard_text c gs) → (2 * i ≡ length (pairs_of (heard_text c gs))) × (out ≡ over old (pairs_of (heard_text c gs)))
    written_all e = (
      ap (λ (n : ℕ). 2 * n) e ∙ sym (pairs_length (heard_text c gs)),
      w.is ∙ ap (λ (s : List ℕ). over old (pairs_of s)) (ap (λ (n : ℕ). take n (chars_in c gs)) e ∙ sym (heard_front c gs)),
    )
