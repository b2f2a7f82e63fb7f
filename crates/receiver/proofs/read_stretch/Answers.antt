-- `receiver::read_stretch` meets its contract. Assumes nothing.
use mathlib.Core.Path.{◌≡◌, sym, ap, ◌∙◌}
use mathlib.Core.List.{List, ◌++◌}
use Prim.Native.Nat.{ℕ, ◌+◌, ◌*◌}
use native.Mathlib.Omega.{arith}
use lib.ListN.{length, take, drop}
use lib.Dec.{leb}
use lib.Seq.{length-take-le, take_at}
use Rattle.base.specs.Lists.{over, tab}
use Rattle.base.proofs.ListLaws.{tab-length}
use Rattle.receiver.specs.Bits.{bit_count, word_from}
use Rattle.receiver.specs.Stretches.{stretch_at, words_on}
use Rattle.receiver.specs.Answers.{is_cut}
use Rattle.receiver.proofs.ReadLaws.{stretch_answer, stretch_totals, stretch_lines}
use Rattle.receiver.proofs.StretchLaws.{stretch_inside}
use Rattle.receiver.proofs.read_stretch.Goals.{After-fill_words}
use Rattle.receiver.proofs.read_stretch.Goals as goal

abbrev count : After-fill_words → ℕ
count c = 17 * c.args.b

-- ---- what was filled in

abbrev filled : After-fill_words → List ℕ
filled c = c.fill_words.new.words

fills : (c : After-fill_words) → filled c ≡ tab (λ k. word_from c.args.bits.now (c.args.p + 32 * k)) (count c)
fills c =
    c.fill_words.ensures
    ∙ ap (tab (λ k. word_from c.args.bits.now (c.args.p + 32 * k))) (length-take-le (count c) c.args.words.now c.requires.whole)

filled_length : (c : After-fill_words) → length (filled c) ≡ count c
filled_length c = ap length (fills c) ∙ tab-length (λ k. word_from c.args.bits.now (c.args.p + 32 * k)) (count c)

-- the part that is lent on is the same
abbrev part : After-fill_words → List ℕ
part c = take (count c) (filled c ++ drop (count c) c.args.words.now)

part_is : (c : After-fill_words) → part c ≡ filled c
part_is c = take_at (filled c) (drop (count c) c.args.words.now) (count c) (filled_length c)

lent_length : (c : After-fill_words) → length (part c) ≡ count c
lent_length c = ap length (part_is c) ∙ filled_length c

-- they are the words of the stretch, and its end cuts as it should
words_are : (c : After-fill_words) → part c ≡ words_on c.args.bits.now (stretch_at c.args.bits.now c.args.p)
words_are c = part_is c ∙ fills c ∙ ap (λ (b : ℕ). tab (λ k. word_from c.args.bits.now (c.args.p + 32 * k)) (17 * b)) c.requires.count

cut_is : (c : After-fill_words) → leb (c.args.p + 544 * c.args.b + 544) (bit_count c.args.bits.now) ≡ is_cut c.args.bits.now (stretch_at c.args.bits.now c.args.p)
cut_is c = ap (λ (b : ℕ). leb (c.args.p + 544 * b + 544) (bit_count c.args.bits.now)) c.requires.count

-- ---- the needs

pub slice_bounds-fill_words-end-2 : goal.slice_bounds-fill_words-end-2
slice_bounds-fill_words-end-2 c = sym (length-take-le (17 * c.args.b) c.args.words.now c.requires.whole)

pub fill_words-requires : goal.fill_words-requires
fill_words-requires c =
    let a = c.args in
    let pre = c.requires in
    (pre.short, omega (arith, length-take-le (17 * a.b) a.words.now pre.whole, stretch_inside a.bits.now a.p pre.inside, pre.count))

pub slice_bounds-read_stretch-end-2 : goal.slice_bounds-read_stretch-end-2
slice_bounds-read_stretch-end-2 c = sym (lent_length (goal.at.slice_bounds-read_stretch-end-2 c).After-fill_words)

pub returns-in_default : goal.returns-in_default
returns-in_default c =
    let w = (goal.at.returns-in_default c).After-fill_words in
    let a = c.args in
    let e = stretch_answer a.bits.now a.p a.b (length a.words.now) (length a.out.now) c.requires c.read_stretch.ensures.value (cut_is w) (words_are w) in
    absurd (c.in_default.not-Ok _ e)

pub returns : goal.returns
returns c =
    let w = (goal.at.returns c).After-fill_words in
    let a = c.args in record {
      value = stretch_totals a.bits.now a.p a.b (length a.words.now) (length a.out.now) c.requires c.read_stretch.ensures.value (cut_is w) (words_are w) c.in-Ok.is;
      out_after = c.read_stretch.ensures.out_after ∙ ap (over a.out.now) (stretch_lines a.bits.now a.p a.b (length a.words.now) (length a.out.now) c.requires c.read_stretch.ensures.value (cut_is w) (words_are w));
    }
