-- A heard page's kind, text and line: case by case, as the code goes, how long they are, that there is room for them or not, and that a
-- message word's symbol will do for its group.
-- Assumes nothing.
use mathlib.Core.Path.{◌≡◌, refl, sym, ap, ap₂, ◌∙◌}
use mathlib.Core.Bool.{Bool, true, false, cond}
use mathlib.Core.List.{List, [], ◌∷◌, ◌++◌}
use Prim.Native.Nat.{ℕ, ◌+◌, ◌-◌, ◌*◌, ◌/◌, ◌%◌, ◌^◌, ◌≤◌, ◌<◌}
use native.Mathlib.Omega.{arith}
use lib.Dec.{eqb}
use lib.Pow.{field, mod-mod-pow}
use lib.ListN.{length, get_or, take, drop, length-drop, length-map, get_or-map}
use lib.Seq.{length-take-le, take-length}
use borrow.Author.Tests.{le-ltb, le-leb, lt-leb}
use Rattle.std.specs.Prelude.{Option, Some, None}
use Rattle.base.specs.Hex.{digits_of, pairs_of}
use Rattle.base.specs.Lists.{over, tab}
use Rattle.base.proofs.HexLaws.{pairs_length}
use Rattle.base.proofs.ListLaws.{tab-same}
use Rattle.text.specs.Coding.{width_of}
use Rattle.text.specs.Fives.{fives}
use Rattle.text.specs.Heard.{bit_in, char_heard, shown, chars_in, whole_in, trimmed, until_end, heard_text}
use Rattle.text.specs.declared.Coding.{Coding}
use Rattle.text.specs.declared.Coding.TheVariants.{Numeric, Alphanumeric}
use Rattle.text.proofs.BitLaws.{low_same, cut_bit}
use Rattle.text.proofs.FivesBack.{fives_length}
use Rattle.text.proofs.HeardLaws.{heard_fits}
use Rattle.job.specs.Print.{ending, printed, printing_of, bytes_printed}
use Rattle.job.proofs.PrintLaws.{spaced_few, ending_few, printed_length}
use Rattle.placement.specs.Placement.{frame_of}
use Rattle.reader.specs.Reading.{Hearing, closed_as}
use Rattle.reader.specs.Lines.{kind_heard, digits_heard, line_heard, heard_page, room_for, printing_heard, digits_written, line_written, LinesShort, RoomEnough}
use Rattle.reader.specs.Symbols.{groups_said, page_in}

-- ---- how long the text and the line are

-- at most five characters a group
pairs_short : (c : Coding) (gs : List ℕ) → length (pairs_of (heard_text c gs)) ≤ 10 * length gs
pairs_short Numeric gs = omega (arith, pairs_length (heard_text Numeric gs), heard_fits Numeric gs)
pairs_short Alphanumeric gs = omega (arith, pairs_length (heard_text Alphanumeric gs), heard_fits Alphanumeric gs)

pub digits_short : (f : ℕ) (gs : List ℕ) → length (digits_heard f gs) ≤ 10 * length gs
digits_short f gs = go (eqb f 0) (eqb f 3)
  where
    go : (x y : Bool) → length (cond x (pairs_of (heard_text Numeric gs)) (cond y (pairs_of (heard_text Alphanumeric gs)) (fives gs))) ≤ 10 * length gs
    go true y = pairs_short Numeric gs
    go false true = pairs_short Alphanumeric gs
    go false false = omega (arith, fives_length gs)

-- ten digits a group, and its identity, kind, spaces and end
pub line_short : (identity kind f : ℕ) (gs : List ℕ) (cut : Bool) → length (printed identity kind (digits_heard f gs) cut) ≤ 10 * length gs + 9 + length (ending cut)
line_short identity kind f gs cut =
    let ds = digits_heard f gs in
    omega (arith, printed_length identity kind ds cut, spaced_few ds, digits_short f gs)

pub lines_short : LinesShort
lines_short h =
    omega (arith, line_short h.identity (kind_heard h.function h.groups) h.function h.groups h.cut, ending_few h.cut)

-- ---- one page by itself

pub room_enough : RoomEnough
unfolding room_for
room_enough digits room h d r = rw (le-leb (10 * length h.groups) digits d, le-leb (11 * (length h.groups + 1)) room r)

-- a line that there is room for is printed
line_printed : (old line : List ℕ) {given out : List ℕ} {answer : Option ℕ} → length line ≤ length old → given ≡ line
    → answer ≡ printing_of (length old) given → out ≡ over old (take (bytes_printed answer) given) → (answer ≡ Some (length line)) × (out ≡ over old line)
line_printed old line h e a o =
    let printed : printing_of (length old) line ≡ Some (length line) = rw (le-ltb (length old) (length line) h) in
    let all = a ∙ ap (printing_of (length old)) e ∙ printed in
    (all, o ∙ ap (over old) (ap₂ (λ (p : Option ℕ) (l : List ℕ). take (bytes_printed p) l) all e ∙ take-length line))

module _ (old out : List ℕ) (h : Hearing) where
  -- with too few digits or bytes nothing is written
  pub few_digits : length old / 10 < length h.groups → room_for (length old) (length out) h ≡ false
  unfolding room_for
  few_digits l = rw (lt-leb (10 * length h.groups) (length old) (omega arith))

  pub few_bytes : length h.groups ≤ length old / 10 → length out / 11 ≤ length h.groups → room_for (length old) (length out) h ≡ false
  unfolding room_for
  few_bytes d l =
      rw (le-leb (10 * length h.groups) (length old) (omega arith), lt-leb (11 * (length h.groups + 1)) (length out) (omega arith))

  pub nothing_heard : room_for (length old) (length out) h ≡ false
      → (None ≡ printing_heard (length old) (length out) h)
      × ((old ≡ over old (digits_written (length old) (length out) h)) × (out ≡ over out (line_written (length old) (length out) h)))
  nothing_heard e = rw e (refl, (refl, refl))

  -- with enough of both the digits of its text are written and its line is printed
  pub page_heard : {answer : Option ℕ} {given digits bytes : List ℕ} → length h.groups ≤ length old / 10 → length h.groups < length out / 11
      → given ≡ line_heard h → digits ≡ over old (digits_heard h.function h.groups)
      → answer ≡ printing_of (length out) given → bytes ≡ over out (take (bytes_printed answer) given)
      → (answer ≡ printing_heard (length old) (length out) h)
      × ((digits ≡ over old (digits_written (length old) (length out) h)) × (bytes ≡ over out (line_written (length old) (length out) h)))
  page_heard d r e w a o =
      let there = line_printed out (line_heard h) (omega (arith, lines_short h)) e a o in
      rw (room_enough (length old) (length out) h (omega arith) (omega arith)) (there.0, (w, there.1))

  -- what a caller has who lends enough of both
  pub heard_whole : {answer : Option ℕ} {bytes : List ℕ} → 10 * length h.groups ≤ length old → 11 * (length h.groups + 1) ≤ length out
      → answer ≡ printing_heard (length old) (length out) h → bytes ≡ over out (line_written (length old) (length out) h)
      → (answer ≡ Some (length (line_heard h))) × (bytes ≡ over out (line_heard h))
  heard_whole d r a o = let enough = room_enough (length old) (length out) h d r in (rw enough at a, rw enough at o)

-- ---- a message word's symbol in the place of its group

bit_said : (xs : List ℕ) (p : ℕ) → bit_in (groups_said xs) p ≡ bit_in xs p
bit_said xs p =
    ap (λ (g : ℕ). g / 2 ^ (19 - p % 20) % 2) (get_or-map (λ x. x % 2 ^ 20) xs (p / 20) 0)
    ∙ cut_bit (get_or xs (p / 20) 0) 20 (19 - p % 20) (omega arith)

char_said : (c : Coding) (xs : List ℕ) (i : ℕ) → char_heard c (groups_said xs) i ≡ char_heard c xs i
char_said c xs i =
    ap (shown c) (low_same (λ b. bit_in (groups_said xs) (width_of c * i + b)) (λ b. bit_in xs (width_of c * i + b)) (width_of c) (λ b h. bit_said xs (width_of c * i + b)))

chars_said : (c : Coding) (xs : List ℕ) → chars_in c (groups_said xs) ≡ chars_in c xs
chars_said c xs =
    ap (λ (n : ℕ). tab (char_heard c (groups_said xs)) (whole_in c n)) (length-map xs (λ x. x % 2 ^ 20))
    ∙ tab-same (char_heard c (groups_said xs)) (char_heard c xs) (whole_in c (length xs)) (λ i h. char_said c xs i)

text_said : (c : Coding) (xs : List ℕ) → heard_text c (groups_said xs) ≡ heard_text c xs
unfolding heard_text
text_said Numeric xs = ap trimmed (chars_said Numeric xs)
text_said Alphanumeric xs = ap until_end (chars_said Alphanumeric xs)

digit_said : (x j k : ℕ) → x % 2 ^ (j + 4 + k) / 2 ^ k % 16 ≡ x / 2 ^ k % 16
digit_said x j k = ap (λ (y : ℕ). y % 16) (field x (j + 4) k) ∙ mod-mod-pow (x / 2 ^ k) j 4

five_said : (x : ℕ) → digits_of 5 (x % 2 ^ 20) ≡ digits_of 5 x
unfolding digits_of
five_said x = rw (digit_said x 0 16, digit_said x 4 12, digit_said x 8 8, digit_said x 12 4, digit_said x 16 0)

fives_said : (xs : List ℕ) → fives (groups_said xs) ≡ fives xs
unfolding fives
fives_said [] = refl
fives_said (x ∷ xs) = ap₂ ◌++◌ (five_said x) (fives_said xs)

pub digits_said : (f : ℕ) (xs : List ℕ) → digits_heard f (groups_said xs) ≡ digits_heard f xs
digits_said f xs = simp (text_said Numeric xs, text_said Alphanumeric xs, fives_said xs)

pub kind_said : (f : ℕ) (xs : List ℕ) → kind_heard f (groups_said xs) ≡ kind_heard f xs
kind_said f [] = refl
kind_said f (x ∷ xs) = refl

-- ---- the page in slots a to s

module _ (symbols : List ℕ) (a s : ℕ) (cut : Bool) where
  abbrev address : ℕ
  address = get_or symbols a 0

  -- the symbols of its message words
  abbrev words : List ℕ
  words = take (s - (a + 1)) (drop (a + 1) symbols)

  abbrev line : List ℕ
  line = line_heard (closed_as cut (page_in symbols a s))

  -- the page of its symbols, which has the same line
  abbrev heard : Hearing
  heard = heard_page (address / 4 * 8 + frame_of a) address words cut

  page_line_lem : line_heard heard ≡ line
  page_line_lem =
      ap₂ (λ (k : ℕ) (ds : List ℕ). printed (address / 4 * 8 + frame_of a) k ds cut) (sym (kind_said (address % 4) words)) (sym (digits_said (address % 4) words))

  module _ (behind : a < s) (inside : s ≤ length symbols) where
    count : length words ≡ s - (a + 1)
    count = length-take-le (s - (a + 1)) (drop (a + 1) symbols) (omega (arith, length-drop (a + 1) symbols))

    pub page_short : length line ≤ 11 * (s - a)
    page_short = omega (arith, lines_short (closed_as cut (page_in symbols a s)), length-map words (λ x. x % 2 ^ 20), count)

    -- with room for its slots it is printed
    pub page_printed : (old out : List ℕ) {answer : Option ℕ} {bytes : List ℕ} → 10 * (s - a) ≤ length old → 11 * (s - a) ≤ length out
        → answer ≡ printing_heard (length old) (length out) heard → bytes ≡ over out (line_written (length old) (length out) heard)
        → (answer ≡ Some (length line)) × (bytes ≡ over out line)
    page_printed old out d r a o =
        let there = heard_whole old out heard (omega (arith, count)) (omega (arith, count)) a o in
        (there.0 ∙ ap (λ (l : List ℕ). Some (length l)) page_line_lem, there.1 ∙ ap (over out) page_line_lem)
