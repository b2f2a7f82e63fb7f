-- The pages of one identity among those that the full reader hears (document 02, R-4).
use Rattle.std.specs.Prelude.{List, ℕ, eqb}
use Rattle.base.specs.Passing.{passing}
use Rattle.reader.specs.Reading.{Hearing, heard_in}

-- the pages of identity i among these, in their order
abbrev pub of_identity : ℕ → List Hearing → List Hearing
of_identity i hs = passing (λ h. eqb h.identity i) hs

-- those that are heard in whole batches
unfoldable pub pages_for : ℕ → List ℕ → List Hearing
pages_for i words = of_identity i (heard_in words).pages
