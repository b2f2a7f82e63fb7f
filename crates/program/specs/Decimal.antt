-- Numbers in decimal, as the programs print them.
use Rattle.std.specs.Prelude.{ℕ, suc, ◌^◌, List, ltb}
use Rattle.io.specs.Digits.{last_digits}
use Rattle.base.specs.Search.{least}

-- how many digits a number below 10^20 has in decimal; 0 has one
abbrev pub decimal_length : ℕ → ℕ
decimal_length n = suc (least (λ k. ltb n (10 ^ suc k)) 19)

-- such a number in decimal
unfoldable pub decimal : ℕ → List ℕ
decimal n = last_digits 10 (decimal_length n) n
