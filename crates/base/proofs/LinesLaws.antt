-- Laws of lines: what is left of a text from a byte on, by where its first line ends. Assumes nothing.
use Prim.Native.Nat.{ℕ, zero, suc, ◌+◌, ◌-◌, ◌≤◌, ◌<◌, min}
use mathlib.Core.Path.{◌≡◌, refl, ap}
use mathlib.Core.List.{List, [], ◌∷◌, ◌++◌}
use mathlib.Core.Bool.{true, false}
use mathlib.Core.Logic.{⊎_elim}
use native.Mathlib.Nat.{eq-or-lt_of_le}
use native.Mathlib.Omega.{arith}
use lib.ListN.{length, take, drop, length-drop, drop_of_length-le}
use lib.Seq.{length-take-le, drop-drop}
use lib.Dec.{eqb}
use Rattle.base.specs.Leading.{leading}
use Rattle.base.specs.Lists.{has}
use Rattle.base.specs.Lines.{behind, line, split, line_at, line_count, line_start, not_newline, line_end}
use Rattle.base.proofs.Bools.{either, or_false}
use Rattle.base.proofs.LeadingLaws.{leading_le, leading_take}

-- the first line of a text that has a newline
split_line : (s : List ℕ) → leading not_newline s < length s → split s ≡ line (take (leading not_newline s) s) (split (drop (suc (leading not_newline s)) s))
unfolding split
split_line [] h = absurd (omega arith)
split_line (b ∷ s) h =
    ⊎_elim
    (λ (e : eqb b 10 ≡ true). simp e)
    (λ (e : eqb b 10 ≡ false). let h' = simp e at h in simp (e, split_line s (omega arith)))
    (either (eqb b 10))

-- bytes without a newline, with one behind them, are a line
pub split_whole : (l rest : List ℕ) → has 10 l ≡ false → split (l ++ (10 ∷ rest)) ≡ line l (split rest)
unfolding has split
split_whole [] rest e = refl
split_whole (b ∷ l) rest e = let (x, y) = or_false (eqb b 10) (has 10 l) e in rw (x, split_whole l rest y)

-- a text that has none
split_last : (s : List ℕ) → leading not_newline s ≡ length s → split s ≡ behind s
unfolding split
split_last [] h = refl
split_last (b ∷ s) h =
    ⊎_elim
    (λ (e : eqb b 10 ≡ true). absurd (let h' = simp e at h in omega arith))
    (λ (e : eqb b 10 ≡ false). let h' = simp e at h in simp (e, split_last s (omega arith)))
    (either (eqb b 10))

module _ (s : List ℕ) (at : ℕ) where
  pub end_after : at ≤ line_end s at
  unfolding line_end
  end_after = omega arith

  pub end_inside : at ≤ length s → line_end s at ≤ length s
  unfolding line_end
  end_inside h = omega (arith, leading_le not_newline (drop at s), length-drop at s)

  -- nothing is left
  pub none_left : length s ≤ at → split (drop at s) ≡ behind []
  unfolding split
  none_left h = rw (drop_of_length-le s h)

  -- the first line that is left
  abbrev pub first : List ℕ
  first = take (line_end s at - at) (drop at s)

  -- what is left has a newline
  pub cut : line_end s at < length s → split (drop at s) ≡ line first (split (drop (line_end s at + 1) s))
  unfolding line_end
  cut h =
      let n = leading not_newline (drop at s) in
      let t : at + n - at ≡ n = omega arith in
      let u : at + suc n ≡ at + n + 1 = omega arith in
      rw (split_line (drop at s) (omega (arith, length-drop at s)), t, drop-drop (suc n) at s, u)

  -- it has none
  pub uncut : at ≤ length s → length s ≤ line_end s at → split (drop at s) ≡ behind (drop at s)
  unfolding line_end
  uncut h u = split_last (drop at s) (omega (arith, leading_le not_newline (drop at s), length-drop at s))

  pub first_length : line_end s at < length s → length first ≡ line_end s at - at
  first_length h = length-take-le (line_end s at - at) (drop at s) (omega (arith, length-drop at s))

  -- what stands behind it starts behind its newline
  pub first_next : line_end s at < length s → at + length first + 1 ≡ line_end s at + 1
  first_next h = omega (arith, first_length h, end_after)

-- where the first line of a text's first m bytes ends
pub end_take : (s : List ℕ) (m : ℕ) → line_end (take m s) 0 ≡ min m (line_end s 0)
unfolding line_end
end_take s m = omega (arith, leading_take not_newline s m)

-- a text with a line has a newline
some_line : (s : List ℕ) → 0 < line_count (split s) → line_end s 0 < length s
unfolding line_count
some_line s h =
    ⊎_elim (λ u. absurd (omega (arith, ap line_count (uncut s 0 (omega arith) (omega arith))))) (λ c. c) (eq-or-lt_of_le (end_inside s 0 (omega arith)))

-- its lines stand where `line_start` says
pub line_there : (p : ℕ) (s : List ℕ) → p < line_count (split s) → take (length (line_at p (split s))) (drop (line_start p (split s)) s) ≡ line_at p (split s)
unfolding line_count line_start line_at
line_there zero s h =
    let c = some_line s h in
    rw (cut s 0 c) (ap (λ (n : ℕ). take n s) (first_length s 0 c))
line_there (suc p) s h =
    let c = some_line s (omega arith) in
    let rest = drop (line_end s 0 + 1) s in
    let e : line_end s 0 + 1 + line_start p (split rest) ≡ length (first s 0) + 1 + line_start p (split rest) = omega (arith, first_length s 0 c) in
    rw (cut s 0 c, ← e, ← drop-drop (line_start p (split rest)) (line_end s 0 + 1) s) (line_there p rest (omega (arith, ap line_count (cut s 0 c))))
