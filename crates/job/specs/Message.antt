-- The message of a page: the 20-bit groups of its text, by its kind and its digits (document 01, "Texts"; request R-11).
use Rattle.std.specs.Prelude.{ℕ, ◌/◌, List, cond, length}
use Rattle.base.specs.Hex.{bytes_of}
use Rattle.base.specs.Lists.{tab}
use Rattle.text.specs.Coding.{group_of, groups_of}
use Rattle.text.specs.Fives.{five_at}
use Rattle.job.specs.Line.{is_data, coding_of}

-- the group at index g: five digits of data; any other text's digits are pairs, and its characters are coded
abbrev pub group_from : ℕ → List ℕ → ℕ → ℕ
group_from kind digits g = cond (is_data kind) (five_at digits g) (group_of (coding_of kind) (bytes_of digits) g)

-- how many groups so many digits take
unfoldable pub count_from : ℕ → ℕ → ℕ
count_from kind n = cond (is_data kind) (n / 5) (groups_of (coding_of kind) (n / 2))

-- all groups
unfoldable pub groups_from : ℕ → List ℕ → List ℕ
groups_from kind digits = tab (group_from kind digits) (count_from kind (length digits))
