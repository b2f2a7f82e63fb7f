-- A transmission's words as text (document 01, "Listings and reading"): eight upper-case digits a word, one frame a line.
use Rattle.std.specs.Prelude.{ℕ, ◌+◌, ◌-◌, ◌%◌, List, [], ◌∷◌, ◌++◌, Bool, cond, ltb, eqb}
use Rattle.base.specs.Hex.{digits_of}

-- word k, from 0, is the first of a frame: each even one of the preamble's 18; in a batch, whose sync word is alone, each odd one
unfoldable pub opens_frame : ℕ → Bool
opens_frame k = cond (ltb k 18) (eqb (k % 2) 0) (eqb ((k - 18) % 17 % 2) 1)

-- the byte behind word k: a space between the two words of a frame, and every line ends with a newline
unfoldable pub end_of : ℕ → ℕ
end_of k = cond (opens_frame k) 32 10

-- the text of words of which the first is word k: the eight digits of each, and the byte behind it
unfoldable pub text_from : ℕ → List ℕ → List ℕ
text_from k [] = []
text_from k (w ∷ ws) = digits_of 8 w ++ (end_of k ∷ text_from (k + 1) ws)

-- the listing of a transmission's words: nine preamble lines, then nine lines a batch
abbrev pub text_of : List ℕ → List ℕ
text_of ws = text_from 0 ws
