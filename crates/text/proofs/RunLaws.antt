-- Laws of `char_run`: the pairs that it counts, and where nothing but digits stands. Assumes nothing.
use Prim.Native.Nat.{ℕ, suc, ◌*◌, ◌/◌, ◌≤◌}
use mathlib.Core.Path.{◌≡◌, refl, sym, ◌∙◌}
use mathlib.Core.List.{List, [], ◌∷◌, ◌++◌}
use mathlib.Core.Bool.{Bool, true, false}
use mathlib.Core.Logic.{⊎_elim}
use native.Mathlib.Omega.{arith}
use lib.ListN.{length, get_or, length-append}
use lib.Seq.{take_at, drop_at}
use Rattle.std.specs.List.{prefix_len}
use Rattle.std.specs.Slice.Iter.{chunks_exact_rest, chunks_exact_size, chunks_exact_steps}
use Rattle.std.specs.Simd.{first_chunks}
use Rattle.std.proofs.lemmas.Iterator.{YieldsList}
use Rattle.std.proofs.lemmas.Iterator.Splits.{YieldsList-from_shown_while}
use Rattle.base.specs.Hex.{is_hex, bytes_of}
use Rattle.base.specs.Leading.{leading}
use Rattle.base.proofs.Bools.{either, and_true}
use Rattle.base.proofs.LeadingLaws.{leading_cons}
use Rattle.text.specs.Coding.{char_ok, pair_ok, char_run}
use Rattle.text.specs.declared.Coding.{Coding}

module _ (c : Coding) where
  -- its pairs are digits
  pub run_digits : (t : List ℕ) → 2 * char_run c t ≤ leading is_hex t
  unfolding char_run
  run_digits [] = omega arith
  run_digits (h ∷ []) = omega arith
  run_digits (h ∷ l ∷ s) =
      ⊎_elim
      (λ (e : pair_ok c h l ≡ true).
      let p = and_true (is_hex h) _ e in
      let q = and_true (is_hex l) _ p.1 in
      rw (e, p.0, q.0) (omega (arith, run_digits s)))
      (λ (e : pair_ok c h l ≡ false). rw e (omega arith))
      (either (pair_ok c h l))

  -- of nothing but digits, it counts the characters that the bytes begin with
  pub run_chars : (t : List ℕ) → length t ≤ leading is_hex t → char_run c t ≡ leading (char_ok c) (bytes_of t)
  unfolding char_run
  run_chars [] e = refl
  run_chars (h ∷ []) e = refl
  run_chars (h ∷ l ∷ s) e =
      let p = leading_cons is_hex h (l ∷ s) e in
      let q = leading_cons is_hex l s p.1 in
      rw (p.0, q.0, run_chars s q.1)

  -- whether the two bytes of a piece are a pair
  abbrev pub is_one : List ℕ → Bool
  is_one p = pair_ok c (get_or p 0 0) (get_or p 1 0)

  -- it counts the pieces of two bytes that are pairs
  pub run_pairs : (t : List ℕ) → prefix_len is_one (first_chunks 2 (length t / 2) t) ≡ char_run c t
  unfolding char_run
  run_pairs [] = refl
  run_pairs (h ∷ []) = refl
  run_pairs (h ∷ l ∷ s) =
      let z : suc (suc (length s)) / 2 ≡ suc (length s / 2) = omega arith in
      ⊎_elim
      (λ (e : pair_ok c h l ≡ true). rw (z, e) (omega (arith, run_pairs s)))
      (λ (e : pair_ok c h l ≡ false). rw (z, e))
      (either (pair_ok c h l))

-- the pieces, as `chunks_exact` gives them
pub pairs_given : {s : _} (d : List ℕ) → chunks_exact_rest s ≡ d → chunks_exact_size s ≡ 2 → YieldsList chunks_exact_steps (λ x. x.now) s (first_chunks 2 (length d / 2) d)
pairs_given {s} d rest size =
    let shown = λ (t : _). first_chunks 2 (length (chunks_exact_rest t) / 2) (chunks_exact_rest t) in
    rw (sym rest) (YieldsList-from_shown_while chunks_exact_steps (λ x. x.now) shown (λ t. chunks_exact_size t ≡ 2)
    (λ t u h k. let z : length (chunks_exact_rest t) / 2 ≡ 0 = omega (arith, k.1.0) in rw z)
    (λ t x u h k.
    let cut = k.1.0 in
    let long : length x.now ≡ 2 = k.1.1 ∙ h in
    let z : length (x.now ++ chunks_exact_rest u) / 2 ≡ suc (length (chunks_exact_rest u) / 2) = omega (arith, length-append x.now (chunks_exact_rest u)) in
    (k.0 ∙ h, rw (cut, z, take_at x.now (chunks_exact_rest u) 2 long, drop_at x.now (chunks_exact_rest u) 2 long)))
    s size)
