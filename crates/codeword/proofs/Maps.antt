-- Maps of words made of shifts, low bits and sums modulo 2 are linear; and two linear maps are the same on all words of k bits
-- when they are the same at 0 and at the k words of a single one, which antt computes. Assumes nothing.
use mathlib.Core.Path.{◌≡◌, refl, sym, ap, ap₂, ◌∙◌, subst}
use mathlib.Core.Bool.{Bool, ◌&&◌}
use mathlib.Core.Logic.{◌⊎◌, inl, inr, ⊎_elim}
use Prim.Native.Nat.{ℕ, zero, suc, ◌+◌, ◌*◌, ◌/◌, ◌%◌, ◌^◌, ◌<◌}
use native.Mathlib.Nat.{mod-lt, add-zero, one-mul, zero-mul, zero-add}
use native.Mathlib.Omega.{arith}
use lib.Bits.{bit_xor, xor_shr, xor_mod, xor_block, xor_shifted}
use lib.Dec.{T, eqb, eqb→eq}
use lib.Pow.{pow_pos, shr_lt, split}
use Rattle.codeword.proofs.XorLaws.{bit, xor_swap}
use Rattle.base.proofs.Bools.{and_left, and_right}

-- a map made of shifts to the left by k places in w bits, shifts to the right, low bits and sums
pub data Map : Type 0 where
  word : Map
  left : ℕ → ℕ → Map → Map
  right : ℕ → Map → Map
  low : ℕ → Map → Map
  sum : Map → Map → Map

unfoldable pub run : Map → ℕ → ℕ
run word p = p
run (left w k m) p = run m p * 2 ^ k % 2 ^ w
run (right k m) p = run m p / 2 ^ k
run (low k m) p = run m p % 2 ^ k
run (sum m n) p = bit_xor (run m p) (run n p)

abbrev pub Linear : (ℕ → ℕ) → Type 0
Linear f = (a b : ℕ) → f (bit_xor a b) ≡ bit_xor (f a) (f b)

times_xor : (k a b : ℕ) → bit_xor a b * 2 ^ k ≡ bit_xor (a * 2 ^ k) (b * 2 ^ k)
times_xor k a b =
    sym (add-zero (bit_xor a b * 2 ^ k))
    ∙ sym (xor_block k a b 0 0 (pow_pos k) (pow_pos k))
    ∙ ap₂ bit_xor (add-zero (a * 2 ^ k)) (add-zero (b * 2 ^ k))

pub linear : (m : Map) → Linear (run m)
unfolding run
linear word a b = refl
linear (left w k m) a b =
    ap (λ (x : ℕ). x * 2 ^ k % 2 ^ w) (linear m a b)
    ∙ ap (λ (x : ℕ). x % 2 ^ w) (times_xor k (run m a) (run m b))
    ∙ xor_mod (run m a * 2 ^ k) (run m b * 2 ^ k) w
linear (right k m) a b = ap (λ (x : ℕ). x / 2 ^ k) (linear m a b) ∙ xor_shr (run m a) (run m b) k
linear (low k m) a b = ap (λ (x : ℕ). x % 2 ^ k) (linear m a b) ∙ xor_mod (run m a) (run m b) k
linear (sum m n) a b = ap₂ bit_xor (linear m a b) (linear n a b) ∙ xor_swap (run m a) (run m b) (run n a) (run n b)

-- the same at 0 and at each of the k words of a single one
unfoldable pub agree : (ℕ → ℕ) → (ℕ → ℕ) → ℕ → Bool
agree f g zero = eqb (f 0) (g 0)
agree f g (suc k) = eqb (f (2 ^ k)) (g (2 ^ k)) && agree f g k

-- a word of k + 1 bits is one of k bits, or the sum of one and of the word with the top bit alone
upper : (k p : ℕ) → p < 2 ^ suc k → (p < 2 ^ k) ⊎ (p ≡ bit_xor (2 ^ k) (p % 2 ^ k))
upper k p h =
    let top : p / 2 ^ k < 2 = shr_lt 1 k (subst (λ (m : ℕ). p < 2 ^ m) (omega arith) h) in
    let whole : p / 2 ^ k * 2 ^ k + p % 2 ^ k ≡ p = split p k in
    let rest : p % 2 ^ k < 2 ^ k = mod-lt p (pow_pos k) in
    ⊎_elim
    (λ e.
    let none : p / 2 ^ k ≡ 0 = omega arith in
    inl (subst (λ (m : ℕ). m < 2 ^ k) (sym (zero-add (p % 2 ^ k)) ∙ ap (λ (m : ℕ). m + p % 2 ^ k) (sym (zero-mul (2 ^ k)) ∙ ap (λ (m : ℕ). m * 2 ^ k) (sym none)) ∙ whole) rest))
    (λ e.
    let one : p / 2 ^ k ≡ 1 = omega arith in
    inr
    (sym whole
    ∙ ap (λ (m : ℕ). m * 2 ^ k + p % 2 ^ k) one
    ∙ sym (xor_shifted 1 k (p % 2 ^ k) rest)
    ∙ ap (λ (m : ℕ). bit_xor m (p % 2 ^ k)) (one-mul (2 ^ k))))
    (bit (p / 2 ^ k))

module _ (f g : ℕ → ℕ) (hf : Linear f) (hg : Linear g) where
  pub equal : (k : ℕ) → T (agree f g k) → (p : ℕ) → p < 2 ^ k → f p ≡ g p
  unfolding agree
  equal zero t p h = let z : p ≡ 0 = omega arith in ap f z ∙ eqb→eq (f 0) (g 0) t ∙ ap g (sym z)
  equal (suc k) t p h =
      let here : f (2 ^ k) ≡ g (2 ^ k) = eqb→eq (f (2 ^ k)) (g (2 ^ k)) (and_left (eqb (f (2 ^ k)) (g (2 ^ k))) (agree f g k) t) in
      let others : T (agree f g k) = and_right (eqb (f (2 ^ k)) (g (2 ^ k))) (agree f g k) t in
      ⊎_elim (λ small. equal k others p small)
      (λ e.
      ap f e
      ∙ hf (2 ^ k) (p % 2 ^ k)
      ∙ ap₂ bit_xor here (equal k others (p % 2 ^ k) (mod-lt p (pow_pos k)))
      ∙ sym (hg (2 ^ k) (p % 2 ^ k))
      ∙ ap g (sym e))
      (upper k p h)
