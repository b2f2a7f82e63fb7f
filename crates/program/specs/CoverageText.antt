-- The text of a report (document 02, R-12), line by line: eight lines `frame F unchanged U one O two T lost L whole W cut C rate R remainder M`,
-- then `sync unchanged U one O two T rate R remainder M`, then `listings N refused21 A refused22 B refused23 C`.
use Rattle.std.specs.Prelude.{ℕ, zero, suc, ◌+◌, ◌*◌, List, [], ◌∷◌, ◌++◌, get_or}
use Rattle.coverage.specs.Rates.{in_class, rate_of}
use Rattle.coverage.specs.declared.Coverage.{Coverage}
use Rattle.coverage.specs.declared.Rate.{Rate}
use Rattle.program.specs.Decimal.{decimal}

-- `frame `
abbrev pub frame_label : List ℕ
frame_label = 102 ∷ 114 ∷ 97 ∷ 109 ∷ 101 ∷ 32 ∷ []

-- ` unchanged `
abbrev pub unchanged_label : List ℕ
unchanged_label = 32 ∷ 117 ∷ 110 ∷ 99 ∷ 104 ∷ 97 ∷ 110 ∷ 103 ∷ 101 ∷ 100 ∷ 32 ∷ []

-- ` one `
abbrev pub one_label : List ℕ
one_label = 32 ∷ 111 ∷ 110 ∷ 101 ∷ 32 ∷ []

-- ` two `
abbrev pub two_label : List ℕ
two_label = 32 ∷ 116 ∷ 119 ∷ 111 ∷ 32 ∷ []

-- ` lost `
abbrev pub lost_label : List ℕ
lost_label = 32 ∷ 108 ∷ 111 ∷ 115 ∷ 116 ∷ 32 ∷ []

-- ` whole `
abbrev pub whole_label : List ℕ
whole_label = 32 ∷ 119 ∷ 104 ∷ 111 ∷ 108 ∷ 101 ∷ 32 ∷ []

-- ` cut `
abbrev pub cut_label : List ℕ
cut_label = 32 ∷ 99 ∷ 117 ∷ 116 ∷ 32 ∷ []

-- ` rate `
abbrev pub rate_label : List ℕ
rate_label = 32 ∷ 114 ∷ 97 ∷ 116 ∷ 101 ∷ 32 ∷ []

-- ` remainder `
abbrev pub remainder_label : List ℕ
remainder_label = 32 ∷ 114 ∷ 101 ∷ 109 ∷ 97 ∷ 105 ∷ 110 ∷ 100 ∷ 101 ∷ 114 ∷ 32 ∷ []

-- `sync`
abbrev pub sync_label : List ℕ
sync_label = 115 ∷ 121 ∷ 110 ∷ 99 ∷ []

-- `listings `
abbrev pub listings_label : List ℕ
listings_label = 108 ∷ 105 ∷ 115 ∷ 116 ∷ 105 ∷ 110 ∷ 103 ∷ 115 ∷ 32 ∷ []

-- ` refused21 `
abbrev pub refused21_label : List ℕ
refused21_label = 32 ∷ 114 ∷ 101 ∷ 102 ∷ 117 ∷ 115 ∷ 101 ∷ 100 ∷ 50 ∷ 49 ∷ 32 ∷ []

-- ` refused22 `
abbrev pub refused22_label : List ℕ
refused22_label = 32 ∷ 114 ∷ 101 ∷ 102 ∷ 117 ∷ 115 ∷ 101 ∷ 100 ∷ 50 ∷ 50 ∷ 32 ∷ []

-- ` refused23 `
abbrev pub refused23_label : List ℕ
refused23_label = 32 ∷ 114 ∷ 101 ∷ 102 ∷ 117 ∷ 115 ∷ 101 ∷ 100 ∷ 50 ∷ 51 ∷ 32 ∷ []

-- a label and a number behind it
unfoldable pub labelled : List ℕ → ℕ → List ℕ
labelled label n = label ++ decimal n

-- ` unchanged U one O two T`: words that were read, by their mended bits
unfoldable pub read_part : ℕ → ℕ → ℕ → List ℕ
read_part u o t = labelled unchanged_label u ++ (labelled one_label o ++ labelled two_label t)

-- ` lost L whole W cut C`: lost words, and pages
unfoldable pub lost_part : ℕ → ℕ → ℕ → List ℕ
lost_part l w c = labelled lost_label l ++ (labelled whole_label w ++ labelled cut_label c)

-- ` rate R remainder M` and the newline
unfoldable pub rate_part : Rate → List ℕ
rate_part r = labelled rate_label r.rate ++ (labelled remainder_label r.remainder ++ (10 ∷ []))

-- ` refused21 A refused22 B refused23 C`: refused listings, by their number
unfoldable pub refused_part : ℕ → ℕ → ℕ → List ℕ
refused_part a b c = labelled refused21_label a ++ (labelled refused22_label b ++ labelled refused23_label c)

-- the line of frame f
unfoldable pub frame_line : Coverage → ℕ → List ℕ
frame_line c f =
    labelled frame_label f
    ++ (read_part (in_class c f 0) (in_class c f 1) (in_class c f 2)
    ++ (lost_part (in_class c f 3) (get_or c.pages (2 * f) 0) (get_or c.pages (2 * f + 1) 0)
    ++ rate_part (rate_of c f)))

-- the lines of the first n frames
unfoldable pub frame_lines : Coverage → ℕ → List ℕ
frame_lines c zero = []
frame_lines c (suc n) = frame_lines c n ++ frame_line c n

-- the line of sync, which is row 8
unfoldable pub sync_line : Coverage → List ℕ
sync_line c = sync_label ++ (read_part (in_class c 8 0) (in_class c 8 1) (in_class c 8 2) ++ rate_part (rate_of c 8))

-- the line of the listings
unfoldable pub listings_line : Coverage → List ℕ
listings_line c =
    labelled listings_label c.listings
    ++ (refused_part (get_or c.refused 0 0) (get_or c.refused 1 0) (get_or c.refused 2 0) ++ (10 ∷ []))

-- all ten lines
unfoldable pub coverage_text : Coverage → List ℕ
coverage_text c = frame_lines c 8 ++ (sync_line c ++ listings_line c)
