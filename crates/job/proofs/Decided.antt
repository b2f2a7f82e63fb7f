-- What single tests of the code decide, for the attributes in src/ that name them. Assumes nothing.
use Prim.Native.Nat.{ℕ, ◌+◌, ◌-◌, ◌%◌, ◌≤◌, ◌<◌}
use mathlib.Core.Path.{◌≡◌, sym}
use mathlib.Core.List.{List, []}
use mathlib.Core.Bool.{false}
use native.Mathlib.Omega.{arith}
use lib.ListN.{length, take, drop}
use lib.Dec.{eqb}
use borrow.Author.Tests.{lt-ltb, eq-eqb, ne_eqb}
use Rattle.job.specs.Refusal.{refused}
use Rattle.std.specs.Prelude.{Err}
use Rattle.base.specs.Hex.{is_hex}
use Rattle.base.specs.Leading.{leading}
use Rattle.base.specs.Lines.{split}
use Rattle.base.proofs.LeadingLaws.{leading_behind}
use Rattle.base.proofs.ListLaws.{to_end}
use Rattle.job.specs.Line.{is_digits, is_pairs, page_of}
use Rattle.job.specs.Job.{judge, table_of, answer_with}
use Rattle.job.specs.declared.Page.{Page}
use Rattle.job.specs.declared.Refusal.TheVariants.{IdentityRange, TooManyLines}
use Rattle.job.proofs.Laws.{judge_many}
use Rattle.job.proofs.Keeping.{answer_refused}

-- an odd number of bytes is no pairs
pub pairs_odd : (t : List ℕ) → (length t % 2 ≡ 0 → ⊥) → is_pairs t ≡ false
unfolding is_pairs
pairs_odd t odd = simp (ne_eqb _ _ odd)

-- an even number is pairs where all are digits
pub pairs_even : (t : List ℕ) → (length t ≡ 0 → ⊥) → length t % 2 ≡ 0 → is_pairs t ≡ eqb (leading is_hex t) (length t)
unfolding is_pairs is_digits
pairs_even t some even = simp (eq-eqb _ _ even, ne_eqb _ _ some)

-- the digits of the whole are those known, and those behind them
pub digits_behind : (t : List ℕ) (n : ℕ) → n ≤ leading is_hex t → leading is_hex (take (length t - n) (drop n t)) + n ≡ leading is_hex t
digits_behind t n h = let e = leading_behind is_hex t n h in rw (to_end n t) (omega (arith, e))

-- an identity above 1FFFFF is number 2
pub identity_high : (b : List ℕ) (page : Page) (digits : List ℕ) → 0x1FFFFF < page.identity → page_of b page digits ≡ Err IdentityRange
unfolding page_of
identity_high b page digits h = simp (lt-ltb 0x1FFFFF page.identity h)

-- a job that goes on behind 48 lines is number 8
pub many_refused : (b job : List ℕ) (at k : ℕ) (ps : List Page) → at < length job → 48 ≤ k
    → answer_with (judge b at k (split (drop at job))) ps ≡ table_of (refused TooManyLines 49) []
many_refused b job at k ps inside many = sym (answer_refused _ ps (judge_many b job at k inside many))
