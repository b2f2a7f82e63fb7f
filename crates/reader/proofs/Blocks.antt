-- Lists made of one block for each element: the digits of texts, the lines of pages. Assumes nothing.
use mathlib.Core.Path.{◌≡◌, refl, sym, ap, ◌∙◌}
use mathlib.Core.List.{List, [], ◌∷◌, ◌++◌, flat_map, append_assoc, append-nil}
use Prim.Native.Nat.{ℕ, ◌+◌, ◌*◌, ◌≤◌, ◌<◌}
use native.Mathlib.Nat.{mul-suc, mul-le-mul_left}
use native.Mathlib.Numerals.{add-one}
use native.Mathlib.Omega.{arith}
use lib.ListN.{length, get_or, take, drop, length-append, length-drop}
use lib.Seq.{take-suc, take_all, length-take-le}
use Rattle.base.specs.Hex.{digits_of}
use Rattle.base.specs.Lists.{over}
use Rattle.base.proofs.ListLaws.{over_part, over_length}
use Rattle.text.specs.Fives.{fives}
use Rattle.reader.specs.Reading.{Hearing}
use Rattle.reader.specs.Lines.{line_heard, lines_heard, LinesAppend, LinesMore}

pub flat_append : {A : Type 0} (f : A → List ℕ) (xs ys : List A) → flat_map f (xs ++ ys) ≡ flat_map f xs ++ flat_map f ys
unfolding flat_map
flat_append f [] ys = refl
flat_append f (x ∷ xs) ys = ap (λ (l : List ℕ). f x ++ l) (flat_append f xs ys) ∙ sym (append_assoc (f x) (flat_map f xs) (flat_map f ys))

flat_one : {A : Type 0} (f : A → List ℕ) (x : A) → flat_map f (x ∷ []) ≡ f x
unfolding flat_map
flat_one f x = append-nil (f x)

-- ---- blocks of w digits, written one behind the other

-- the blocks of the first i elements of t stand over the front of a slice that has room for those of all
pub record Written (f : ℕ → List ℕ) (w : ℕ) (old t : List ℕ) (i : ℕ) (out : List ℕ) : Type 0 where
  pub inside : i ≤ length t
  pub room : w * length t ≤ length old
  pub size : length out ≡ length old
  pub is : out ≡ over old (flat_map f (take i t))

module _ (f : ℕ → List ℕ) (w : ℕ) (each : (x : ℕ) → length (f x) ≡ w) where
  flat_length : (t : List ℕ) → length (flat_map f t) ≡ w * length t
  unfolding flat_map
  flat_length [] = omega arith
  flat_length (x ∷ t) = omega (arith, length-append (f x) (flat_map f t), each x, flat_length t, mul-suc w (length t))

  module _ (old t : List ℕ) where
    pub written_none : w * length t ≤ length old → Written f w old t 0 old
    unfolding flat_map
    written_none h = record { inside = omega arith; room = h; size = refl; is = refl }

    module _ (i : ℕ) {out : List ℕ} (x : Written f w old t i out) where
      -- the place of the next block
      pub place_length : (n : ℕ) → n ≡ w → i < length t → length (take n (drop (w * i) out)) ≡ n
      place_length n e h =
          let more : w * i + w ≤ w * length t = rw (← (mul-suc w i)) (mul-le-mul_left w (omega arith)) in
          length-take-le n (drop (w * i) out) (omega (arith, length-drop (w * i) out, x.room, x.size))

      -- one block more
      pub written_more : {p : List ℕ} (n : ℕ) → n ≡ w → i < length t → p ≡ f (get_or t i 0)
          → Written f w old t (i + 1) (take (w * i) out ++ (p ++ drop n (drop (w * i) out)))
      written_more {p} n e h q =
          let done : length (flat_map f (take i t)) ≡ w * i = flat_length (take i t) ∙ ap (λ (m : ℕ). w * m) (length-take-le i t (omega arith)) in
          let all : length (flat_map f (take (i + 1) t)) ≡ w * (i + 1) = flat_length (take (i + 1) t) ∙ ap (λ (m : ℕ). w * m) (length-take-le (i + 1) t (omega arith)) in
          let more : flat_map f (take (i + 1) t) ≡ flat_map f (take i t) ++ p
          = rw (add-one, take-suc t i 0, flat_append f (take i t) (get_or t i 0 ∷ []), flat_one f (get_or t i 0), q) in
          let next = over_part old (flat_map f (take i t)) p (w * i) n x.is done (ap length q ∙ each (get_or t i 0) ∙ sym e) ∙ ap (over old) (sym more) in
          let fits : w * (i + 1) ≤ w * length t = mul-le-mul_left w (omega arith) in
          record {
            inside = omega arith;
            room = x.room;
            size = ap length next ∙ over_length old (flat_map f (take (i + 1) t)) (omega (arith, x.room));
            is = next;
          }

      -- all are written
      pub written_all : length t ≤ i → (w * length t ≡ length (flat_map f t)) × (out ≡ over old (flat_map f t))
      written_all h = (sym (flat_length t), x.is ∙ ap (λ (s : List ℕ). over old (flat_map f s)) (take_all i t h))

-- ---- five digits a group, lines

pub fives_flat : (gs : List ℕ) → fives gs ≡ flat_map (digits_of 5) gs
unfolding fives flat_map
fives_flat [] = refl
fives_flat (g ∷ gs) = ap (λ (l : List ℕ). digits_of 5 g ++ l) (fives_flat gs)

lines_flat : (hs : List Hearing) → lines_heard hs ≡ flat_map line_heard hs
unfolding lines_heard flat_map
lines_flat [] = refl
lines_flat (h ∷ hs) = ap (λ (l : List ℕ). line_heard h ++ l) (lines_flat hs)

pub lines_append : LinesAppend
lines_append hs gs = rw (lines_flat (hs ++ gs), lines_flat hs, lines_flat gs) (flat_append line_heard hs gs)

pub lines_more : LinesMore
unfolding lines_heard
lines_more hs h = lines_append hs (h ∷ []) ∙ ap (λ (l : List ℕ). lines_heard hs ++ l) (append-nil (line_heard h))
