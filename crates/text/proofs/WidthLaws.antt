-- Bounds on a character's width, and on what is reckoned with it. Assumes nothing.
use Prim.Native.Nat.{ℕ, ◌*◌, ◌≤◌, ◌<◌}
use native.Mathlib.Omega.{arith}
use Rattle.text.specs.Coding.{width_of}
use Rattle.text.specs.declared.Coding.{Coding}
use Rattle.text.specs.declared.Coding.TheVariants.{Numeric, Alphanumeric}

pub width_pos : (c : Coding) → 0 < width_of c
width_pos Numeric = omega arith
width_pos Alphanumeric = omega arith

pub width_small : (c : Coding) → width_of c ≤ 7
width_small Numeric = omega arith
width_small Alphanumeric = omega arith

pub width_room : (c : Coding) (n : ℕ) → n < 65536 → n * width_of c ≤ 458745
width_room Numeric n h = omega arith
width_room Alphanumeric n h = omega arith
