-- The line that an accepted page's line stands for prints as it was. Assumes nothing.
use mathlib.Core.Path.{◌≡◌, refl, sym, ap, ap₂, ◌∙◌}
use mathlib.Core.Bool.{true, ◌&&◌}
use mathlib.Core.List.{List, [], ◌∷◌, ◌++◌, append_assoc}
use mathlib.Core.Logic.{⊎_elim}
use Prim.Native.Nat.{ℕ, suc, ◌%◌, ◌≤◌}
use native.Mathlib.Omega.{arith}
use lib.ListN.{length, get_or, take, drop, take-append-drop}
use lib.Seq.{drop-cons, drop-drop, length-take-le}
use lib.Dec.{leb, eqb}
use borrow.Author.Tests.{leb-true, eqb-true}
use Rattle.base.specs.Hex.{is_hex, digit_of, digits_of}
use Rattle.base.specs.Leading.{leading}
use Rattle.base.proofs.Bools.{and_true, or_true}
use Rattle.base.proofs.HexLaws.{hex_small, value_digit, number_digits}
use Rattle.job.specs.Line.{all_hex, head_formed, text_formed, tail_formed, well_formed, identity_of, kind_of, text_digits}
use Rattle.job.specs.Pages.{plain_at}
use Rattle.job.specs.Print.{head_of, spaced, printed}
use Rattle.job.specs.PrintsBack.{LinePrinted, PagePrinted}
use Rattle.job.proofs.Laws.{digits_some, formed_digits}
use Rattle.job.proofs.PrintLaws.{spaced_some}

-- the six digits of identity are those of the number that they write
six_back : (l : List ℕ) → 8 ≤ length l → all_hex (take 6 l) ≡ true → digits_of 6 (identity_of l) ≡ take 6 l
six_back l h e =
    let n : length (take 6 l) ≡ 6 = length-take-le 6 l (omega arith) in
    let all : leading is_hex (take 6 l) ≡ length (take 6 l) = eqb-true _ _ e in
    ap (λ (k : ℕ). digits_of k (identity_of l)) (sym n) ∙ number_digits 0 (take 6 l) (omega arith)

-- behind the kind stands what the text's digits print as
tail_back : (kind : ℕ) (t : List ℕ) → tail_formed kind t ≡ true → spaced (drop 1 t) ≡ t
unfolding tail_formed
tail_back kind [] e = refl
tail_back kind (x ∷ ds) e =
    ⊎_elim
    (λ z. let none : suc (length ds) ≡ 0 = eqb-true (suc (length ds)) 0 z in absurd (omega arith))
    (λ z.
    let h = and_true (eqb x 32) (text_formed kind ds) z in
    let space : x ≡ 32 = eqb-true x 32 h.0 in
    spaced_some ds (digits_some ds (formed_digits kind ds h.1)) ∙ ap (λ (y : ℕ). y ∷ ds) (sym space))
    (or_true (eqb (suc (length ds)) 0) (eqb x 32 && text_formed kind ds) e)

-- a line by its parts
parts : (l : List ℕ) → 8 ≤ length l → l ≡ take 6 l ++ (get_or l 6 0 ∷ get_or l 7 0 ∷ drop 8 l)
parts l h =
    sym (take-append-drop 6 l)
    ∙ ap (λ (t : List ℕ). take 6 l ++ t) (drop-cons l 6 0 (omega arith) ∙ ap (λ (t : List ℕ). get_or l 6 0 ∷ t) (drop-cons l 7 0 (omega arith)))

-- an accepted line, with its newline, is what its identity, its kind and its text's digits print as
pub line_printed : LinePrinted
unfolding printed well_formed head_formed
line_printed l s =
    let w = and_true (head_formed l) (tail_formed (kind_of l) (drop 8 l)) s.formed in
    let h = and_true (leb 8 (length l)) _ w.0 in
    let long : 8 ≤ length l = leb-true 8 (length l) h.0 in
    let i = and_true (all_hex (take 6 l)) _ h.1 in
    let k = and_true (eqb (get_or l 6 0) 32) (is_hex (get_or l 7 0)) i.1 in
    let kind : digit_of (kind_of l % 16) ≡ get_or l 7 0 =
    (let small : kind_of l % 16 ≡ kind_of l = omega (arith, hex_small (get_or l 7 0)) in ap digit_of small ∙ value_digit (get_or l 7 0) k.1) in
    let head : head_of (identity_of l) (kind_of l) ≡ take 6 l ++ (get_or l 6 0 ∷ get_or l 7 0 ∷ []) =
    ap₂ ◌++◌ (six_back l long i.0) (ap₂ ◌∷◌ (sym (eqb-true (get_or l 6 0) 32 k.0)) (ap (λ (d : ℕ). d ∷ []) kind)) in
    let tail : spaced (text_digits l) ≡ drop 8 l = ap spaced (sym (drop-drop 1 8 l)) ∙ tail_back (kind_of l) (drop 8 l) w.1 in
    ap₂ (λ (x y : List ℕ). x ++ (y ++ (10 ∷ []))) head tail
    ∙ append_assoc (take 6 l) (get_or l 6 0 ∷ get_or l 7 0 ∷ []) (drop 8 l ++ (10 ∷ []))
    ∙ sym (append_assoc (take 6 l) (get_or l 6 0 ∷ get_or l 7 0 ∷ drop 8 l) (10 ∷ []))
    ∙ ap (λ (x : List ℕ). x ++ (10 ∷ [])) (sym (parts l long))

pub page_printed : PagePrinted
page_printed s n a p h =
    let r = a.page p h in
    rw (r.identity_is, r.kind_is, r.digits_are) (line_printed (plain_at s p) (a.sound p h))
