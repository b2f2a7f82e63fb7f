-- What the code knows on its way through a recording. No public promise needs this.
use Rattle.std.specs.Prelude.{◌≡◌, List, ℕ, ◌+◌, ◌-◌, ◌*◌, ◌≤◌, length}
use Rattle.receiver.specs.Bits.{bit_count}
use Rattle.receiver.specs.Stretches.{Stretch, batches_from, stretches_in}
use Rattle.receiver.specs.declared.Totals.{Totals}

-- the stretches from position p on
abbrev pub stretches_from : List ℕ → ℕ → List Stretch
stretches_from s p = stretches_in s (bit_count s - p) p

-- there is a stretch of b batches, 300 at most, at position p, and room for its words and its lines
pub record Ahead (s : List ℕ) (p b words room : ℕ) : Type 0 where
  pub short : length s ≤ 65536
  pub inside : p ≤ bit_count s
  pub count : b ≡ batches_from s p
  pub some : 1 ≤ b
  pub few : b ≤ 300
  pub whole : 17 * b ≤ words
  pub space : 161 * b ≤ room

-- no more is reported than so many batches can have
pub record Most (t : Totals) : Type 0 where
  pub pages : t.pages ≤ 16 * t.batches
  pub lost : t.lost ≤ 16 * t.batches
  pub orphans : t.orphans ≤ 16 * t.batches
  pub slots : t.changed.slots ≤ 512 * t.batches
  pub syncs : t.changed.syncs ≤ 32 * t.batches
  pub bytes : t.bytes ≤ 161 * t.batches

-- two reports that can be added: on 300 batches at most
pub record Addable (t u : Totals) : Type 0 where
  pub first : Most t
  pub second : Most u
  pub few : t.batches + u.batches ≤ 300

-- two reports as one
abbrev pub added : Totals → Totals → Totals
added t u = record {
  batches = t.batches + u.batches;
  pages = t.pages + u.pages;
  lost = t.lost + u.lost;
  orphans = t.orphans + u.orphans;
  changed = record { slots = t.changed.slots + u.changed.slots; syncs = t.changed.syncs + u.changed.syncs };
  bytes = t.bytes + u.bytes;
}
