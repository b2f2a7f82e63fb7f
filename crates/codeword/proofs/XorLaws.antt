-- Laws of sums modulo 2. Assumes nothing.
use mathlib.Core.Path.{◌≡◌, refl, sym, ap, ap₂, ◌∙◌}
use mathlib.Core.Logic.{◌⊎◌, inl, inr, ⊎_elim}
use Prim.Native.Nat.{ℕ, zero, suc, ◌+◌, ◌*◌, ◌/◌, ◌%◌, ◌<◌}
use native.Mathlib.Nat.{mod-lt, add-mod, add_assoc}
use native.Mathlib.Omega.{arith}
use lib.Arith.{bin_ind, digits_mod}
use lib.Bits.{bit_xor, differ, xor_step, xor_comm, xor_self, xor_zero_r, xor_shr}
use lib.Dec.{lit<}

-- a number below 2 is 0 or 1
pub two : (x : ℕ) → x < 2 → (x ≡ 0) ⊎ (x ≡ 1)
two zero h = inl refl
two (suc zero) h = inr refl
two (suc (suc x)) h = absurd (omega arith)

pub bit : (n : ℕ) → (n % 2 ≡ 0) ⊎ (n % 2 ≡ 1)
bit n = two (n % 2) (mod-lt n (lit< tt))

-- the parity of a sum
pub odd_sum : (x x' y y' : ℕ) → x % 2 ≡ x' % 2 → y % 2 ≡ y' % 2 → (x + y) % 2 ≡ (x' + y') % 2
odd_sum x x' y y' e f = add-mod x y 2 ∙ ap₂ (λ (p q : ℕ). (p + q) % 2) e f ∙ sym (add-mod x' y' 2)

-- the digits' sum without its carry
differ_sum : (a b : ℕ) → differ (a % 2) (b % 2) ≡ (a + b) % 2
differ_sum a b =
    ⊎_elim
    (λ e. ⊎_elim (λ f. ap₂ differ e f ∙ omega arith) (λ f. ap₂ differ e f ∙ omega arith) (bit b))
    (λ e. ⊎_elim (λ f. ap₂ differ e f ∙ omega arith) (λ f. ap₂ differ e f ∙ omega arith) (bit b))
    (bit a)

-- a sum, its last digit apart
xor_digits : (a b : ℕ) → bit_xor a b ≡ bit_xor (a / 2) (b / 2) * 2 + (a + b) % 2
xor_digits a b = xor_step a b ∙ ap (λ (x : ℕ). bit_xor (a / 2) (b / 2) * 2 + x) (differ_sum a b)

pub xor_odd : (a b : ℕ) → bit_xor a b % 2 ≡ (a + b) % 2
xor_odd a b = ap (λ (x : ℕ). x % 2) (xor_digits a b) ∙ digits_mod (bit_xor (a / 2) (b / 2)) (mod-lt (a + b) (lit< tt))

pub xor_assoc : (a b c : ℕ) → bit_xor (bit_xor a b) c ≡ bit_xor a (bit_xor b c)
xor_assoc a =
    bin_ind (λ (n : ℕ). (b c : ℕ) → bit_xor (bit_xor n b) c ≡ bit_xor n (bit_xor b c)) (λ b c. refl)
    (λ n ih b c.
    xor_digits (bit_xor n b) c
    ∙ ap₂ (λ (x y : ℕ). x * 2 + y)
    (ap (λ (x : ℕ). bit_xor x (c / 2)) (xor_shr n b 1) ∙ ih (b / 2) (c / 2) ∙ ap (bit_xor (n / 2)) (sym (xor_shr b c 1)))
    (odd_sum (bit_xor n b) (n + b) c c (xor_odd n b) refl
    ∙ ap (λ (x : ℕ). x % 2) (add_assoc n b c)
    ∙ sym (odd_sum n n (bit_xor b c) (b + c) refl (xor_odd b c)))
    ∙ sym (xor_digits n (bit_xor b c)))
    a

-- the sum of two sums, taken the other way
pub xor_swap : (a b c d : ℕ) → bit_xor (bit_xor a b) (bit_xor c d) ≡ bit_xor (bit_xor a c) (bit_xor b d)
xor_swap a b c d =
    xor_assoc a b (bit_xor c d)
    ∙ ap (bit_xor a) (sym (xor_assoc b c d) ∙ ap (λ (x : ℕ). bit_xor x d) (xor_comm b c) ∙ xor_assoc c b d)
    ∙ sym (xor_assoc a c (bit_xor b d))

-- adding a word twice changes nothing
pub xor_cancel : (a b : ℕ) → bit_xor a (bit_xor a b) ≡ b
xor_cancel a b = sym (xor_assoc a a b) ∙ ap (λ (x : ℕ). bit_xor x b) (xor_self a)

pub xor_zero_eq : (a b : ℕ) → bit_xor a b ≡ 0 → a ≡ b
xor_zero_eq a b e = sym (xor_zero_r a) ∙ ap (bit_xor a) (sym e) ∙ xor_cancel a b
