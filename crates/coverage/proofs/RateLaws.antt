-- The theorem of the rates, proved. Assumes nothing.
use mathlib.Core.Path.{◌≡◌, refl}
use Prim.Native.Nat.{ℕ, ◌+◌, ◌*◌, ◌<◌}
use native.Mathlib.Nat.{div-add-mod', mod-lt}
use native.Mathlib.Omega.{arith}
use borrow.Author.Tests.{eq-eqb, ne_eqb}
use Rattle.coverage.specs.Rates.{mended_bits, received_bits, per_million, RateTheorem}
use Rattle.coverage.specs.declared.Coverage.{Coverage}

module _ (m b : ℕ) where
  million_divided : 0 < b → ((per_million m b).rate * b + (per_million m b).remainder ≡ 1000000 * m) × ((per_million m b).remainder < b)
  unfolding per_million
  million_divided h = rw (ne_eqb b 0 (λ e. omega arith)) (div-add-mod' (1000000 * m) b, mod-lt (1000000 * m) h)

  million_none : b ≡ 0 → ((per_million m b).rate ≡ 0) × ((per_million m b).remainder ≡ 0)
  unfolding per_million
  million_none e = rw (eq-eqb b 0 e) (refl, refl)

pub rates : (c : Coverage) (r : ℕ) → RateTheorem c r
rates c r = record {
  divided = million_divided (mended_bits c r) (received_bits c r);
  none_received = million_none (mended_bits c r) (received_bits c r);
}
