-- The words of a listing (document 01, "Listings and reading").
use Rattle.std.specs.Prelude.{ℕ, List, [], ◌∷◌, ◌++◌, cond, take, drop, Ok, Err}
use Rattle.base.specs.Hex.{hex_number}
use Rattle.base.specs.Lines.{Lines, behind, line, split}
use Rattle.listing.specs.Listing.{has_one, skip, listing_of, Listing}

-- the words of a line: the sync word alone, or the two of a frame
unfoldable pub line_words : List ℕ → List ℕ
line_words l = cond (has_one l) (hex_number 0 l ∷ []) (hex_number 0 (take 8 l) ∷ hex_number 0 (drop 9 l) ∷ [])

-- the words of lines, in order
unfoldable pub words_in : Lines → List ℕ
words_in (behind t) = []
words_in (line l ls) = line_words l ++ words_in ls

-- the words that are read: those of the batches, behind the preamble; none of a listing that is declined
abbrev pub batch_words : List ℕ → Listing → List ℕ
batch_words s (Ok shape) = words_in (skip shape.preamble (split s))
batch_words s (Err why) = []

-- the words of a listing's batches
abbrev pub words_of : List ℕ → List ℕ
words_of s = batch_words s (listing_of s)
