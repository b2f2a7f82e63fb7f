-- What the search for a page that may start answers, over a job as the code has it.
use Rattle.std.specs.Prelude.{◌≡◌, Bool, true, false, List, ℕ, ◌≤◌, ◌<◌, get_or, Option, MatchOption}
use Rattle.placement.specs.Placement.{may_start}

-- page i may start in slot s, by the pages' marks, frames and numbers of message codewords
abbrev pub starts_at : (marks frames words : List ℕ) → Bool → ℕ → ℕ → Bool
starts_at marks frames words pause s i = may_start (get_or marks i 0) (get_or frames i 0) (get_or words i 0) pause s

-- no number from `from` to below n passes p
abbrev pub NoneFrom : (ℕ → Bool) → ℕ → ℕ → Type 0
NoneFrom p from n = (k : ℕ) → from ≤ k → k < n → p k ≡ false

-- the first of these numbers that passes, or nothing where none does
abbrev pub FirstFrom : (ℕ → Bool) → ℕ → ℕ → Option ℕ → Type 0
FirstFrom p from n r = MatchOption r (NoneFrom p from n) (λ i. (from ≤ i) × (i < n) × (p i ≡ true) × NoneFrom p from i)
