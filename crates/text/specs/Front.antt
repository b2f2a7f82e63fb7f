-- The promise that the text of a message's first groups begins the text of all of them (document 02, R-9).
use Rattle.std.specs.Prelude.{ℕ, List, take}
use Rattle.base.specs.Lists.{Begins}
use Rattle.text.specs.Heard.{heard_text}
use Rattle.text.specs.declared.Coding.{Coding}

-- whatever the groups are: an incomplete last character and trailing spaces go, and nothing else comes in
abbrev pub Front : Type 0
Front = (c : Coding) (k : ℕ) (gs : List ℕ) → Begins (heard_text c (take k gs)) (heard_text c gs)
