-- A stretch is read, where there is room for its lines. Assumes nothing.
use mathlib.Core.Path.{◌≡◌, sym, ap, ap₂, ◌∙◌}
use mathlib.Core.Bool.{Bool, false, not}
use mathlib.Core.List.{List}
use Prim.Native.Nat.{ℕ, ◌+◌, ◌*◌, ◌≤◌, ◌<◌}
use native.Mathlib.Omega.{arith}
use lib.ListN.{length}
use borrow.Author.Tests.{le-ltb}
use Rattle.base.proofs.ListLaws.{tab-length, tab-at}
use Rattle.codeword.specs.Nearest.{nearest}
use Rattle.reader.specs.Meaning.{is_sync}
use Rattle.reader.specs.Reading.{Heard, heard_stretch}
use Rattle.reader.specs.Lines.{lines_heard}
use Rattle.reader.specs.Answers.{Reading, unsynced, read_stretch, lines_of, pages_read, lost_read, orphans_read, changed_read, bytes_read}
use Rattle.reader.specs.declared.Read.{Read}
use Rattle.std.specs.Prelude.{Ok}
use Rattle.reader.proofs.Laws.{sound_words}
use Rattle.receiver.specs.Bits.{word_from}
use Rattle.receiver.specs.Stretches.{Stretch, batches_from, stretch_at, words_on}
use Rattle.receiver.specs.Answers.{is_cut, heard_on, totals_of}
use Rattle.receiver.specs.Progress.{Ahead}
use Rattle.receiver.specs.declared.Totals.{Totals}
use Rattle.receiver.proofs.AddLaws.{most_heard}
use Rattle.receiver.proofs.StretchLaws.{batch_synced, batches_are}

-- what reading answers of what was heard, where there is room
abbrev read_of : Heard → Read
read_of h = record { pages = length h.pages; lost = h.lost; orphans = h.orphans; changed = h.changed; bytes = length (lines_heard h.pages) }

module _ (s : List ℕ) (p : ℕ) where
  abbrev r : Stretch
  r = stretch_at s p

  words_length : length (words_on s r) ≡ 17 * batches_from s p
  words_length = tab-length (λ k. word_from s (p + 32 * k)) (17 * batches_from s p)

  -- each of its batches begins with sync
  stretch_synced : (q : ℕ) → q < batches_from s p → unsynced (words_on s r) q ≡ false
  stretch_synced q l =
      let at : p + 32 * (17 * q) ≡ p + 544 * q = omega arith in
      ap (λ (w : ℕ). not (is_sync (nearest w))) (tab-at (λ k. word_from s (p + 32 * k)) (17 * batches_from s p) (17 * q) 0 (omega arith) ∙ ap (word_from s) at)
      ∙ ap not (batch_synced s (p + 544 * q) (batches_are s p q l))

  module _ (b space room : ℕ) (a : Ahead s p b space room) where
    abbrev h : Heard
    h = heard_on s r

    stretch_read : read_stretch (is_cut s r) (words_on s r) room ≡ Ok (read_of h)
    unfolding read_stretch
    stretch_read =
        let c = a.count in
        let some : 1 ≤ batches_from s p = omega (arith, a.some) in
        let fits : length (lines_heard h.pages) ≤ room = omega (arith, (most_heard s r some).bytes, a.space) in
        rw (sound_words (words_on s r) (batches_from s p) some (omega (arith, a.few)) words_length stretch_synced, le-ltb room (length (lines_heard h.pages)) fits)

    -- whatever is lent on as its words, and as the test that cuts, where these are the same
    module _ {x : Reading} {cut : Bool} {words : List ℕ} (e : x ≡ read_stretch cut words room) (c : cut ≡ is_cut s r) (w : words ≡ words_on s r) where
      pub stretch_answer : x ≡ Ok (read_of h)
      stretch_answer = e ∙ ap₂ (λ (t : Bool) (l : List ℕ). read_stretch t l room) c w ∙ stretch_read

      pub stretch_totals : {read : Read} → x ≡ Ok read
          → ◌≡◌ {A = Totals} (record { batches = b; pages = read.pages; lost = read.lost; orphans = read.orphans; changed = read.changed; bytes = read.bytes }) (totals_of b h)
      stretch_totals f =
          ap (λ (y : Reading). record { batches = b; pages = pages_read y; lost = lost_read y; orphans = orphans_read y; changed = changed_read y; bytes = bytes_read y })
          (sym f ∙ stretch_answer)

      pub stretch_lines : lines_of x (heard_stretch cut words) ≡ lines_heard h.pages
      stretch_lines =
          ap (λ (y : Reading). lines_of y (heard_stretch cut words)) stretch_answer
          ∙ ap₂ (λ (t : Bool) (l : List ℕ). lines_heard (heard_stretch t l).pages) c w
