-- The answers case by case, as the code goes. Assumes nothing.
use mathlib.Core.Path.{◌≡◌, ap, ap₂}
use mathlib.Core.List.{List}
use Prim.Native.Nat.{ℕ, ◌≤◌, ◌<◌}
use native.Mathlib.Omega.{arith}
use lib.ListN.{length}
use borrow.Author.Tests.{lt-ltb, le-ltb}
use Rattle.reader.specs.Reading.{Hearing}
use Rattle.reader.specs.Lines.{lines_heard}
use Rattle.follower.specs.Answers.{lines_into}
use Rattle.follower.specs.Progress.{Kept}
use Rattle.std.specs.declared.result.Result.TheVariants.{Ok, Err}
use Rattle.follower.specs.declared.Followed.{Followed}
use Rattle.follower.specs.declared.FollowError.TheVariants.{NoRoom}

-- ---- the lines, printed into a buffer of their own

module _ {hs : List Hearing} {p : Followed} {lines : List ℕ} (k : Kept hs p lines) (room : ℕ) where
  -- they are longer than the lent slice
  pub too_long : room < p.bytes → Err NoRoom ≡ lines_into hs room
  too_long h = rw (lt-ltb room (length (lines_heard hs)) (omega (arith, k.size)))

  -- they go over its front
  pub all_followed : p.bytes ≤ room → Ok p ≡ lines_into hs room
  all_followed h =
      let same : p ≡ record { lines = length hs; bytes = length (lines_heard hs) } = ap₂ (λ (n m : ℕ). record { lines = n; bytes = m }) k.count k.size in
      rw (le-ltb room (length (lines_heard hs)) (omega (arith, k.size))) (ap Ok same)
