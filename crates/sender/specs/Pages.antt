-- What the looks at all pages of a table promise.
use Rattle.std.specs.Prelude.{ℕ, ◌^◌, ◌<◌, Bool, cond, ltb, Option, Some, None}
use Rattle.base.specs.Search.{least}

-- r is below a power of two exactly when each of f 0, .. , f (n - 1) is, as their bits are when they are joined
pub record Joined (f : ℕ → ℕ) (n r : ℕ) : Type 0 where
  pub each_below : (k : ℕ) → r < 2 ^ k → (i : ℕ) → i < n → f i < 2 ^ k
  pub all_below : (k : ℕ) → ((i : ℕ) → i < n → f i < 2 ^ k) → r < 2 ^ k

-- the first number below n that passes the test t, where one does
abbrev pub first_below : (ℕ → Bool) → ℕ → Option ℕ
first_below t n = cond (ltb (least t n) n) (Some (least t n)) None
