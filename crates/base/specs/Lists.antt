-- Lists: what a lent slice holds once something was written over its front, lists given by index, lists filled up with zeros, fronts
-- of lists, and whether a list has a value.
use Rattle.std.specs.Prelude.{◌≡◌, Bool, false, ◌||◌, List, [], ◌∷◌, ◌++◌, ℕ, zero, suc, ◌-◌, eqb, length, take, drop, replicate}

-- new elements over the front of old ones: what stands behind the last one written keeps its value
abbrev pub over : List ℕ → List ℕ → List ℕ
over old new = new ++ drop (length new) old

-- f 0, f 1, .. , f (n - 1)
unfoldable pub tab {ℓ} : {A : Type ℓ} → (ℕ → A) → ℕ → List A
tab f zero = []
tab f (suc n) = f 0 ∷ tab (λ k. f (suc k)) n

-- a list in an array of n places, zeros behind it
abbrev pub padded : ℕ → List ℕ → List ℕ
padded n xs = xs ++ replicate (n - length xs) 0

-- t begins s: it is the front of s that is as long as t; the empty list begins every list
abbrev pub Begins : List ℕ → List ℕ → Type 0
Begins t s = t ≡ take (length t) s

-- x is among these
unfoldable pub has : ℕ → List ℕ → Bool
has x [] = false
has x (b ∷ s) = eqb b x || has x s
