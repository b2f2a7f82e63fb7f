-- Mended bits per million received (document 02, R-12). `Rate` is src/lib.rt's struct.
use Rattle.std.specs.Prelude.{◌≡◌, cond, ℕ, ◌+◌, ◌*◌, ◌/◌, ◌%◌, ◌<◌, eqb, ltb, get_or}
use Rattle.coverage.specs.declared.Coverage.{Coverage}
use Rattle.coverage.specs.declared.Rate.{Rate}

-- the words of class k in row r: a frame's in rows 0 to 7, sync's in row 8, which has no lost ones; none in any other
abbrev pub in_class : Coverage → ℕ → ℕ → ℕ
in_class c r k = cond (ltb r 8) (get_or c.frames (4 * r + k) 0) (cond (eqb r 8) (get_or c.sync k 0) 0)

-- the bits mended in a row
abbrev pub mended_bits : Coverage → ℕ → ℕ
mended_bits c r = in_class c r 1 + 2 * in_class c r 2

-- the bits received in it: 32 a word, lost ones included
abbrev pub received_bits : Coverage → ℕ → ℕ
received_bits c r = 32 * (in_class c r 0 + in_class c r 1 + in_class c r 2 + in_class c r 3)

-- so many per million, rounded down, with the remainder; zero and zero with no bits received
unfoldable pub per_million : ℕ → ℕ → Rate
per_million mended received =
    cond (eqb received 0) (record { rate = 0; remainder = 0 })
    (record { rate = 1000000 * mended / received; remainder = 1000000 * mended % received })

-- the rate of a row
abbrev pub rate_of : Coverage → ℕ → Rate
rate_of c r = per_million (mended_bits c r) (received_bits c r)

-- what a rate says: the greatest number of millionths that the mended bits reach, and what is left. `rates` in proofs/RateLaws.antt proves it
pub record RateTheorem (c : Coverage) (r : ℕ) : Type 0 where
  pub divided : 0 < received_bits c r
      → ((rate_of c r).rate * received_bits c r + (rate_of c r).remainder ≡ 1000000 * mended_bits c r)
      × ((rate_of c r).remainder < received_bits c r)
  pub none_received : received_bits c r ≡ 0 → ((rate_of c r).rate ≡ 0) × ((rate_of c r).remainder ≡ 0)
