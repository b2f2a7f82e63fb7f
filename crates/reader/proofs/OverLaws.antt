-- What stands at the front of a slice that was written over. Assumes nothing.
use mathlib.Core.Path.{◌≡◌, sym, ap, ◌∙◌}
use mathlib.Core.List.{List}
use Prim.Native.Nat.{ℕ, ◌≤◌}
use native.Mathlib.Omega.{arith}
use lib.ListN.{length, take, drop, length-append}
use lib.Seq.{take_at}
use Rattle.base.specs.Lists.{over}

module _ (old new : List ℕ) (n : ℕ) {out : List ℕ} (size : n ≡ length new) (e : out ≡ over old new) where
  pub front_inside : n ≤ length out
  front_inside = omega (arith, ap length e, length-append new (drop (length new) old))

  pub front_is : take n out ≡ new
  front_is = ap (take n) e ∙ take_at new (drop (length new) old) n (sym size)
