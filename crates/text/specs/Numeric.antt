-- Table III: the numeric characters, both ways.
use Rattle.std.specs.Prelude.{ℕ, ◌+◌, ◌-◌, cond, eqb, Option, Some, None}
use Rattle.base.specs.Hex.{between}

-- 0-9 are themselves, 11 is U, 12 space, 13 hyphen, 14 ], 15 [
unfoldable pub numeric_of : ℕ → Option ℕ
numeric_of b =
    cond (between 48 57 b) (Some (b - 48))
    (cond (eqb b 85) (Some 11)
    (cond (eqb b 32) (Some 12)
    (cond (eqb b 45) (Some 13)
    (cond (eqb b 93) (Some 14)
    (cond (eqb b 91) (Some 15)
    None)))))

-- the character of a value; the spare, and what is no four-bit value, is *
unfoldable pub numeric_byte : ℕ → ℕ
numeric_byte v =
    cond (between 0 9 v) (v + 48)
    (cond (eqb v 11) 85
    (cond (eqb v 12) 32
    (cond (eqb v 13) 45
    (cond (eqb v 14) 93
    (cond (eqb v 15) 91
    42)))))
