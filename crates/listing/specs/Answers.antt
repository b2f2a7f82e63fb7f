-- What a byte string is as a listing: the number, place and values of each answer, and what decoding returns.
use Rattle.std.specs.Prelude.{ℕ, List, Ok, Err}
use Rattle.base.specs.Lists.{padded}
use Rattle.listing.specs.Listing.{listing_of, Listing}
use Rattle.listing.specs.Words.{words_of}
use Rattle.listing.specs.declared.Decoded.{Decoded}
use Rattle.listing.specs.declared.Fault.TheVariants.{Malformed, TooMany}

-- the number in document 01's table, 0 for a listing that is well formed
abbrev pub number_of : Listing → ℕ
number_of (Ok shape) = 0
number_of (Err (Malformed line)) = 21
number_of (Err (TooMany line)) = 23

-- its place: a line
abbrev pub place_of : Listing → ℕ
place_of (Ok shape) = 0
place_of (Err (Malformed line)) = line
place_of (Err (TooMany line)) = line

-- how many preamble lines it has, and how many batches; none where it is declined
abbrev pub preamble_lines : Listing → ℕ
preamble_lines (Ok shape) = shape.preamble
preamble_lines (Err why) = 0

abbrev pub batches_of : Listing → ℕ
batches_of (Ok shape) = shape.batches
batches_of (Err why) = 0

-- what decoding a text returns: the words of its batches, zeros behind them; all zeros where it is declined
abbrev pub decoded_of : List ℕ → Decoded
decoded_of s = record { listing = listing_of s; words = padded 5100 (words_of s) }
