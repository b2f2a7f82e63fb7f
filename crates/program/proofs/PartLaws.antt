-- Decimal numbers, and parts of a text written behind each other. Assumes nothing.
use mathlib.Core.Path.{◌≡◌, refl, sym, ap, ◌∙◌}
use mathlib.Core.List.{[], ◌∷◌}
use Prim.Native.Nat.{ℕ, zero, suc, ◌-◌, ◌/◌, ◌%◌, ◌^◌, ◌≤◌, ◌<◌}
use native.Mathlib.Omega.{arith}
use native.Mathlib.Numerals.{add-one}
use native.Mathlib.Nat.{pow-le-pow_right}
use mathlib.Core.Logic.{⊎_elim}
use lib.ListN.{length, length-append}
use lib.Dec.{ltb}
use borrow.Author.Tests.{lt-ltb, le-ltb}
use Rattle.io.specs.Digits.{hex_digit_ascii, last_digits, IsDigitCount}
use Rattle.base.proofs.SearchLaws.{le_or_lt, least_is, least_only}
use Rattle.program.specs.Decimal.{decimal_length, decimal}

-- ---- decimal numbers

digits_length : (k n : ℕ) → length (last_digits 10 k n) ≡ k
digits_length zero n = refl
digits_length (suc k) n = length-append (last_digits 10 k (n / 10)) (hex_digit_ascii (n % 10) ∷ []) ∙ rw (digits_length k (n / 10)) (add-one k)

rising : (j k : ℕ) → j ≤ k → 10 ^ j ≤ 10 ^ k
rising j k h = pow-le-pow_right (omega arith) h

-- as many digits as `io::decimal` writes
length_is : (n k : ℕ) → n < 10 ^ 20 → n < 10 ^ suc k → (0 < k → 10 ^ k ≤ n) → suc k ≡ decimal_length n
length_is n k small high low =
    ap suc (sym (least_only (λ j. ltb n (10 ^ suc j)) 19 k (record {
      within = ⊎_elim (λ (l : k ≤ 19). l) (λ (l : 19 < k). absurd (omega (arith, low (omega arith), rising 20 k (omega arith)))) (le_or_lt k 19);
      before = λ j l. le-ltb n (10 ^ suc j) (omega (arith, low (omega arith), rising (suc j) k (omega arith)));
      here = λ _. lt-ltb n (10 ^ suc k) high;
    })))

pub decimal_is : (n k : ℕ) → n < 10 ^ 20 → IsDigitCount 10 1 n k → last_digits 10 k n ≡ decimal n
unfolding decimal
decimal_is n zero small f = absurd (omega (arith, f.0))
decimal_is n (suc k) small f =
    let less : suc k - 1 ≡ k = omega arith in
    ap (λ (m : ℕ). last_digits 10 m n) (length_is n k small f.1 (λ l. rw less at (f.2 (omega arith))))

pub decimal_short : (n : ℕ) → length (decimal n) ≤ 20
unfolding decimal
decimal_short n = omega (arith, digits_length (decimal_length n) n, (least_is (λ k. ltb n (10 ^ suc k)) 19).within)
