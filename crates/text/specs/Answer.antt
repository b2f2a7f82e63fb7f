-- What writing the text of groups into a lent slice answers.
use Rattle.std.specs.Prelude.{ℕ, ◌*◌, cond, List, ltb, length, Option, Some, None}
use Rattle.base.specs.Hex.{pairs_of}
use Rattle.text.specs.Heard.{heard_text}
use Rattle.text.specs.declared.Coding.{Coding}

-- the text of groups as pairs of digits
abbrev pub heard_digits : Coding → List ℕ → List ℕ
heard_digits c gs = pairs_of (heard_text c gs)

-- into room for so many digits: all of them, or none where there is room for fewer than ten a group, which document 01's table has no
-- number for
abbrev pub heard_into : Coding → List ℕ → ℕ → Option ℕ
heard_into c gs room = cond (ltb room (10 * length gs)) None (Some (length (heard_digits c gs)))

-- how many digits are written
abbrev pub count_of : Option ℕ → ℕ
count_of (Some n) = n
count_of None = 0
