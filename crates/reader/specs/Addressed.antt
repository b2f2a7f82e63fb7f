-- What an address says. `addressed` in proofs/AddressLaws.antt proves it.
use Rattle.std.specs.Prelude.{◌≡◌, ℕ, ◌%◌, ◌^◌, ◌<◌, Option}
use Rattle.reader.specs.Meaning.{meaning}
use Rattle.reader.specs.declared.Meaning.TheVariants.{Address}

-- its upper value has 21 bits, the low three of them 0; its function has two
pub record Addressed (u f : ℕ) : Type 0 where
  pub low : u % 8 ≡ 0
  pub high : u < 2 ^ 21
  pub function : f < 4

-- whatever word was received
abbrev pub AllAddressed : Type 0
AllAddressed = (o : Option ℕ) (u f : ℕ) → meaning o ≡ Address u f → Addressed u f
