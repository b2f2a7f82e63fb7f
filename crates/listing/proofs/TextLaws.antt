-- Laws of a transmission's text: its length, its words by index, one word more. Assumes nothing.
use Prim.Native.Nat.{ℕ, zero, suc, ◌+◌, ◌*◌, ◌≤◌, ◌<◌}
use mathlib.Core.Path.{◌≡◌, refl, ap, sym, ◌∙◌}
use mathlib.Core.List.{List, [], ◌∷◌, ◌++◌, append_assoc}
use native.Mathlib.Numerals.{add-one}
use native.Mathlib.Omega.{arith}
use lib.ListN.{length, get_or, set, take, drop, length-append}
use lib.Seq.{take-suc, length-take-le}
use Rattle.base.specs.Hex.{digits_of}
use Rattle.base.specs.Lists.{over}
use Rattle.base.proofs.HexLaws.{digits_length}
use Rattle.base.proofs.ListLaws.{over_byte, over_part}
use Rattle.listing.specs.Text.{end_of, text_from, text_of}

pub text_length : (k : ℕ) (ws : List ℕ) → length (text_from k ws) ≡ 9 * length ws
unfolding digits_of text_from
text_length k [] = refl
text_length k (w ∷ ws) = let e = text_length (k + 1) ws in omega arith

pub text_digits_lem : (k : ℕ) (ws : List ℕ) (i : ℕ) → i < length ws → take 8 (drop (9 * i) (text_from k ws)) ≡ digits_of 8 (get_or ws i 0)
unfolding digits_of text_from
text_digits_lem k [] i h = absurd (omega arith)
text_digits_lem k (w ∷ ws) zero h = refl
text_digits_lem k (w ∷ ws) (suc i) h =
    let e : 9 * suc i ≡ suc (suc (suc (suc (suc (suc (suc (suc (suc (9 * i))))))))) = omega arith in
    rw e (text_digits_lem (k + 1) ws i (omega arith))

pub text_end : (k : ℕ) (ws : List ℕ) (i : ℕ) → i < length ws → get_or (text_from k ws) (9 * i + 8) 0 ≡ end_of (k + i)
unfolding digits_of text_from
text_end k [] i h = absurd (omega arith)
text_end k (w ∷ ws) zero h = let z : k + 0 ≡ k = omega arith in rw z
text_end k (w ∷ ws) (suc i) h =
    let e : 9 * suc i + 8 ≡ suc (suc (suc (suc (suc (suc (suc (suc (suc (9 * i + 8))))))))) = omega arith in
    let f : k + suc i ≡ k + 1 + i = omega arith in
    rw (e, f) (text_end (k + 1) ws i (omega arith))

-- a word behind others
text_snoc : (k : ℕ) (ws : List ℕ) (w : ℕ) → text_from k (ws ++ (w ∷ [])) ≡ text_from k ws ++ (digits_of 8 w ++ (end_of (k + length ws) ∷ []))
unfolding text_from
text_snoc k [] w = let z : k + 0 ≡ k = omega arith in rw z
text_snoc k (v ∷ ws) w =
    let z : k + suc (length ws) ≡ k + 1 + length ws = omega arith in
    rw (text_snoc (k + 1) ws w, z) (sym (append_assoc (digits_of 8 v) (end_of k ∷ text_from (k + 1) ws) (digits_of 8 w ++ (end_of (k + 1 + length ws) ∷ []))))

-- the text up to word k, and one word more
pub text_more : (ws : List ℕ) (k : ℕ) → k < length ws → text_of (take (k + 1) ws) ≡ (text_of (take k ws) ++ digits_of 8 (get_or ws k 0)) ++ (end_of k ∷ [])
text_more ws k h =
    let z : 0 + k ≡ k = omega arith in
    rw (add-one, take-suc ws k 0, text_snoc 0 (take k ws) (get_or ws k 0), length-take-le k ws (omega arith), z)
    (sym (append_assoc (text_of (take k ws)) (digits_of 8 (get_or ws k 0)) (end_of k ∷ [])))

-- word k is written behind those before it
pub text_written : (old ws : List ℕ) (k n : ℕ) {out p : List ℕ} {v : ℕ} → out ≡ over old (text_of (take k ws)) → k < length ws → 9 * length ws ≤ length old
    → p ≡ digits_of 8 (get_or ws k 0) → n ≡ 8 → v ≡ end_of k → set (take (9 * k) out ++ (p ++ drop n (drop (9 * k) out))) (9 * k + 8) v ≡ over old (text_of (take (k + 1) ws))
text_written old ws k n {out} {p} {v} e h room digits eight end =
    let before = text_of (take k ws) in
    let size : length before ≡ 9 * k = text_length 0 (take k ws) ∙ ap (λ (m : ℕ). 9 * m) (length-take-le k ws (omega arith)) in
    let long : length p ≡ 8 = ap length digits ∙ digits_length 8 (get_or ws k 0) in
    let part = over_part old before p (9 * k) n e size (omega arith) in
    over_byte old (before ++ p) (9 * k + 8) v part (omega (arith, length-append before p)) (omega arith)
    ∙ rw (text_more ws k h, digits, end)
