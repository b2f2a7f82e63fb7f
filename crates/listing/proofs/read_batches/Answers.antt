use Prim.Native.Nat.{ℕ, ◌+◌, ◌-◌, ◌≤◌, ◌<◌}
use mathlib.Core.Path.{◌≡◌, sym, ap, ◌∙◌}
use mathlib.Core.List.{List}
use native.Mathlib.Omega.{arith}
use lib.ListN.{length, take, drop, length-drop}
use lib.Seq.{take_all}
use Rattle.std.specs.Prelude.{Err}
use Rattle.std.proofs.Common.{rules, Some, None}
use Rattle.base.specs.Lists.{over}
use Rattle.listing.specs.Listing.{is_due}
use Rattle.listing.specs.Scan.{line_from, count_if, words_if}
use Rattle.listing.proofs.BatchLaws.{batches_full, batches_stray, batches_end, met_end, whole_yes, whole_none, whole_part}
use Rattle.listing.proofs.Decoding.{read_on, met, read_none, none_read, some_read}
use Rattle.listing.proofs.read_batches.Goals.{After-read_line, At-loop-at, In_ok-n}
use Rattle.listing.proofs.read_batches.Goals as goal

-- the slice from a byte on is what is left there
here : (s : List ℕ) (at : ℕ) → take (length s - at) (drop at s) ≡ drop at s
here s at = take_all (length s - at) (drop at s) (omega (arith, length-drop at s))

-- before a line
module _ (l : At-loop-at) where
  abbrev s : List ℕ
  s = l.args.s.now

  abbrev p : ℕ
  p = l.args.p

  abbrev q : ℕ
  q = l.loop-at.q

  -- the line, and what is left with it
  abbrev line : List ℕ
  line = line_from s l.loop-at.at

  abbrev d : List ℕ
  d = drop l.loop-at.at s

  room : 5100 ≤ length l.args.words.now
  room = l.requires.2

  more : l.loop-at.at < length s → 0 < length d
  more h = omega (arith, length-drop l.loop-at.at s)

  none : length s ≤ l.loop-at.at → length d ≡ 0
  none h = omega (arith, length-drop l.loop-at.at s)

-- how many words are read tells whether the line is right
module _ (c : After-read_line) where
  abbrev now : List ℕ
  now = line_from c.args.s.now c.loop-at.at

  count : c.read_line.result ≡ count_if (is_due c.loop-at.q now) now
  count = rw (here c.args.s.now c.loop-at.at) at c.read_line.ensures.value

  part : c.read_line.new.words ≡ over (take (length c.loop-at.words - c.loop-at.k) (drop c.loop-at.k c.loop-at.words)) (words_if (is_due c.loop-at.q now) now)
  part = rw (here c.args.s.now c.loop-at.at) at c.read_line.ensures.words_after

pub returns-then-q-eq2700-clause-value : goal.returns-then-q-eq2700-clause-value
returns-then-q-eq2700-clause-value c =
    let l = (goal.at.returns-then-q-eq2700-clause-value c).At-loop-at in
    let fault = rw (here (s l) c.loop-at.at) at c.fault_behind.ensures in
    ap Err fault ∙ sym (c.loop-at.invariant.left ∙ batches_full (p l) (q l) (d l) c.if-q-eq2700.true (more l c.loop-at-test.true))

pub returns-in_err-n : goal.returns-in_err-n
returns-in_err-n c =
    let few : c.loop-at.q ≡ 2700 → ⊥ = λ e. omega arith in
    let l = (goal.at.returns-in_err-n c).At-loop-at in
    let r = (goal.at.returns-in_err-n c).After-read_line in
    let nothing : c.read_line.result ≡ None = search rules in
    let other = none_read (line l) (sym (count r) ∙ nothing) in
    let stray = c.loop-at.invariant.left ∙ batches_stray (p l) (q l) (d l) other (more l c.loop-at-test.true) in
    record {
      value = search rules;
      words_after = read_none (room l) c.loop-at.invariant few other (part r);
    }

-- behind a line that is read
pub loop-at-preserved : goal.loop-at-preserved
loop-at-preserved c =
    let few : c.loop-at.q ≡ 2700 → ⊥ = λ e. omega arith in
    let l = (goal.at.loop-at-preserved c).At-loop-at in
    let r = (goal.at.loop-at-preserved c).After-read_line in
    let read : c.read_line.result ≡ Some c.in_ok-n.n = search rules in
    let right = some_read (line l) (sym (count r) ∙ read) in
    read_on (room l) c.loop-at.invariant few right.0 right.1 (part r)

pub overflow_mul-at-in-loop-at : goal.overflow_mul-at-in-loop-at
overflow_mul-at-in-loop-at c = omega (arith, (loop-at-preserved (goal.at.overflow_mul-at-in-loop-at c).In_ok-n).inside)

pub overflow_add-at : goal.overflow_add-at
overflow_add-at c = omega (arith, (loop-at-preserved (goal.at.overflow_add-at c).In_ok-n).inside)

pub returns-then-q-eq0 : goal.returns-then-q-eq0
returns-then-q-eq0 c =
    let l = (goal.at.returns-then-q-eq0 c).At-loop-at in
    let over = c.loop-at-test.false in
    let first : p l + q l + 1 ≡ p l + 1 = omega arith in
    let end = batches_end (p l) (q l) (d l) (none l over) in
    record {
      value = sym (c.loop-at.invariant.left ∙ end ∙ rw (whole_none (q l) c.if-q-eq0.true, first));
      words_after = met (room l) c.loop-at.invariant (met_end (q l) (s l) c.loop-at.at over);
    }

pub returns-then-q-ne0 : goal.returns-then-q-ne0
returns-then-q-ne0 c =
    let l = (goal.at.returns-then-q-ne0 c).At-loop-at in
    let over = c.loop-at-test.false in
    let end = batches_end (p l) (q l) (d l) (none l over) in
    record {
      value = sym (c.loop-at.invariant.left ∙ end ∙ rw (whole_part (q l) c.if-q-ne0.true));
      words_after = met (room l) c.loop-at.invariant (met_end (q l) (s l) c.loop-at.at over);
    }

pub returns : goal.returns
returns c =
    let l = (goal.at.returns c).At-loop-at in
    let over = c.loop-at-test.false in
    let end = batches_end (p l) (q l) (d l) (none l over) in
    let some = c.if-q-eq0.false in record {
      value = sym (c.loop-at.invariant.left ∙ end ∙ rw (whole_yes (q l) (omega arith) (omega arith)));
      words_after = met (room l) c.loop-at.invariant (met_end (q l) (s l) c.loop-at.at over);
    }
