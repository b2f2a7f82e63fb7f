-- The lines of one identity among those of the full reader's text. Assumes nothing.
use mathlib.Core.Path.{◌≡◌, refl, sym, ap, ◌∙◌}
use mathlib.Core.Bool.{Bool, true, false, cond}
use mathlib.Core.List.{List, [], ◌∷◌, ◌++◌}
use Prim.Native.Nat.{ℕ, zero, suc, ◌^◌, ◌<◌}
use native.Mathlib.Omega.{arith}
use lib.Dec.{eqb}
use lib.ListN.{length}
use Rattle.base.specs.Lines.{line, split, line_count}
use Rattle.base.specs.Lists.{has}
use Rattle.base.specs.Passing.{passing}
use Rattle.base.proofs.HexLaws.{pairs_lack}
use Rattle.codeword.specs.Nearest.{nearest}
use Rattle.text.specs.Answer.{heard_digits}
use Rattle.text.specs.Fives.{fives}
use Rattle.text.specs.Heard.{heard_text}
use Rattle.text.specs.declared.Coding.TheVariants.{Numeric, Alphanumeric}
use Rattle.text.proofs.FivesBack.{fives_lack}
use Rattle.job.proofs.PrintLaws.{unended, printed_unended, printed_split, unended_identity}
use Rattle.listing.specs.Words.{words_of}
use Rattle.reader.specs.Meaning.{meaning}
use Rattle.reader.specs.Reading.{Hearing, Heard, opened, slot_word, heard_in}
use Rattle.reader.specs.Lines.{kind_heard, digits_heard, line_heard, lines_heard}
use Rattle.reader.specs.Answers.{Reading, read_words, read_listing, lines_of, lines_read, number_of}
use Rattle.reader.specs.declared.Fault.TheVariants.{Malformed, TooMany, Unsynced}
use Rattle.reader.specs.declared.Meaning.{Meaning}
use Rattle.reader.specs.declared.Meaning.TheVariants.{Lost, Idle, Address, Message}
use Rattle.reader.specs.declared.ReadError.TheVariants.{Fault as Faulty, NoRoom}
use Rattle.std.specs.Prelude.{Ok, Err}
use Rattle.reader.proofs.Laws.{addressed}
use Rattle.follower.specs.Pages.{of_identity, pages_for}
use Rattle.follower.specs.Following.{followed, opened_by, pages_from, slot_count}
use Rattle.follower.specs.SameLines.{lines_for, SameLines}
use Rattle.follower.proofs.Follows.{same_identity, follows}

-- ---- one page

-- its text's digits have no newline
heard_lack : (f : ℕ) (gs : List ℕ) → has 10 (digits_heard f gs) ≡ false
heard_lack f gs = go (eqb f 0) (eqb f 3)
  where
    go : (x y : Bool) → has 10 (cond x (heard_digits Numeric gs) (cond y (heard_digits Alphanumeric gs) (fives gs))) ≡ false
    go true y = pairs_lack 10 (omega arith) (heard_text Numeric gs)
    go false true = pairs_lack 10 (omega arith) (heard_text Alphanumeric gs)
    go false false = fives_lack 10 (omega arith) gs

module _ (h : Hearing) where
  abbrev kind : ℕ
  kind = kind_heard h.function h.groups

  abbrev digits : List ℕ
  digits = digits_heard h.function h.groups

  -- its line without its newline
  abbrev body : List ℕ
  body = unended h.identity kind digits h.cut

  line_split : (rest : List ℕ) → split (line_heard h ++ rest) ≡ line body (split rest)
  line_split rest = printed_split h.identity kind digits h.cut rest (heard_lack h.function h.groups)

  -- the line is taken where the page is
  line_taken : (i : ℕ) (rest : List ℕ) → h.identity < 16 ^ 6
      → lines_for i (split (line_heard h ++ rest)) ≡ cond (eqb h.identity i) (line_heard h) [] ++ lines_for i (split rest)
  unfolding lines_for
  line_taken i rest small =
      rw (line_split rest, unended_identity h.identity kind digits h.cut small, printed_unended h.identity kind digits h.cut)

  page_taken : (i : ℕ) (hs : List Hearing) → lines_heard (of_identity i (h ∷ hs)) ≡ cond (eqb h.identity i) (line_heard h) [] ++ lines_heard (of_identity i hs)
  unfolding passing lines_heard
  page_taken i hs = go (eqb h.identity i)
    where
      go : (b : Bool) → lines_heard (cond b (h ∷ of_identity i hs) (of_identity i hs)) ≡ cond b (line_heard h) [] ++ lines_heard (of_identity i hs)
      go true = refl
      go false = refl

-- ---- all of them

line_each : (hs : List Hearing) → line_count (split (lines_heard hs)) ≡ length hs
unfolding lines_heard split line_count
line_each [] = refl
line_each (h ∷ hs) = rw (line_split h (lines_heard hs)) (ap suc (line_each hs))

module _ (word : ℕ → ℕ) (i : ℕ) where
  -- the lines of these pages
  abbrev Same : List Hearing → Type 0
  Same hs = lines_heard (of_identity i hs) ≡ lines_for i (split (lines_heard hs))

  one_more : (s k : ℕ) (hs : List Hearing) (m : Meaning) → ((u f : ℕ) → m ≡ Address u f → u < 2 ^ 21) → Same hs → Same (opened_by word s k m ++ hs)
  unfolding lines_heard
  one_more s k hs Lost high e = e
  one_more s k hs Idle high e = e
  one_more s k hs (Message b) high e = e
  one_more s k hs (Address u f) high e =
      let h = followed word (suc s) k (opened s u f) in
      let small : h.identity < 16 ^ 6 = omega (arith, same_identity word k (suc s) (opened s u f), high u f refl) in
      page_taken h i hs ∙ ap (λ (t : List ℕ). cond (eqb h.identity i) (line_heard h) [] ++ t) e ∙ sym (line_taken h i (lines_heard hs) small)

  all_same : (k s : ℕ) → Same (pages_from word s k)
  unfolding pages_from passing lines_heard lines_for split
  all_same zero s = refl
  all_same (suc k) s = one_more s k (pages_from word (suc s) k) (meaning (nearest (word s))) (λ u f e. (addressed (nearest (word s)) u f e).high) (all_same k (suc s))

heard_same : (i : ℕ) (words : List ℕ) → lines_heard (pages_for i words) ≡ lines_for i (split (lines_heard (heard_in words).pages))
unfolding pages_for
heard_same i words = rw (follows i words).all (all_same (slot_word words) i (slot_count words) 0)

-- a reading that is not declined prints them all
all_printed : (r : Reading) (h : Heard) → number_of r ≡ 0 → lines_of r h ≡ lines_heard h.pages
all_printed (Ok read) h e = refl
all_printed (Err (Faulty (Malformed place))) h e = absurd (omega arith)
all_printed (Err (Faulty (TooMany place))) h e = absurd (omega arith)
all_printed (Err (Faulty (Unsynced place))) h e = absurd (omega arith)
all_printed (Err NoRoom) h e = absurd (omega arith)

read_same : (i : ℕ) (words : List ℕ) (r : Reading) → number_of r ≡ 0 → lines_heard (pages_for i words) ≡ lines_for i (split (lines_read r words))
read_same i words r e = rw (all_printed r (heard_in words) e) (heard_same i words)

pub same_lines : (i : ℕ) → SameLines i
same_lines i =
    record {
      of_pages = heard_same i;
      count = λ words. line_each (pages_for i words);
      of_words = λ words room. read_same i words (read_words words room);
      of_listing = λ s room. read_same i (words_of s) (read_listing s room);
    }
