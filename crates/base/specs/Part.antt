-- A part of a lent slice: where a returned reference points, which no copy does.
use Rattle.std.specs.Prelude.{ℕ, ◌+◌, ◌≡◌, cond, List, length, ltb}
use Rattle.std.specs.Borrow.{Bor}

-- an index inside a slice: its end where the index lies beyond it
abbrev pub index_in : List ℕ → ℕ → ℕ
index_in s start = cond (ltb (length s) start) (length s) start

-- the reference r points into the slice s, at this index
abbrev pub PointsInto : Bor (List ℕ) → Bor (List ℕ) → ℕ → Type 0
PointsInto r s start = r.ref_ptr ≡ (s.ref_ptr.0, s.ref_ptr.1 + index_in s.now start)
