-- Those of a list's elements that pass a test, in their order.
use Rattle.std.specs.Prelude.{List, [], ◌∷◌, Bool, cond}

unfoldable pub passing : {A : Type 0} → (A → Bool) → List A → List A
passing f [] = []
passing f (x ∷ xs) = cond (f x) (x ∷ passing f xs) (passing f xs)
