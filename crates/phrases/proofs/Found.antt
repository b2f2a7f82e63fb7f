-- A phrase that is found in a good book stands there, and is one. Assumes nothing.
use Prim.Native.Nat.{ℕ, zero, suc, ◌+◌, ◌<◌}
use mathlib.Core.Path.{◌≡◌, refl, sym}
use mathlib.Core.List.{List}
use mathlib.Core.Bool.{Bool, true, false, cond, not, ◌||◌}
use native.Mathlib.Omega.{arith}
use lib.ListN.{length}
use lib.Dec.{leb, ltb}
use borrow.Author.Tests.{ltb-true}
use Rattle.std.specs.Prelude.{Option, Some, None}
use Rattle.base.specs.Lines.{Lines, behind, line, split, line_at, line_count, line_start}
use Rattle.base.proofs.LinesLaws.{line_there}
use Rattle.phrases.specs.Book.{is_phrase, fault_from, book_fault, is_two_digits, phrase_at, phrase_for, phrase_number}
use Rattle.phrases.specs.Found.{Found}
use Rattle.phrases.specs.declared.Phrase.{Phrase}
use Rattle.phrases.proofs.Phrases.{stretch}

-- each line of a book without a fault is a phrase
good_step : (t u : Bool) (k x : ℕ) → cond (t || not u) (k + 1) x ≡ 0 → (u ≡ true) × (x ≡ 0)
good_step true u k x e = absurd (omega arith)
good_step false true k x e = (refl, e)
good_step false false k x e = absurd (omega arith)

good_line : (ls : Lines) (k p : ℕ) → fault_from k ls ≡ 0 → p < line_count ls → is_phrase (line_at p ls) ≡ true
unfolding fault_from line_count line_at
good_line (behind s) k p e h = absurd (omega arith)
good_line (line l ls) k zero e h = (good_step (leb 100 k) (is_phrase l) k (fault_from (k + 1) ls) e).0
good_line (line l ls) k (suc p) e h = good_line ls (k + 1) p (good_step (leb 100 k) (is_phrase l) k (fault_from (k + 1) ls) e).1 (omega arith)

-- what is not missing passed the test
there_if : (t : Bool) (x : Option Phrase) {f : Phrase} → cond t x None ≡ Some f → (t ≡ true) × (x ≡ Some f)
there_if true x e = (refl, e)
there_if false x e = cc

pub found : (b ds : List ℕ) {f : Phrase} → book_fault b ≡ 0 → phrase_for b ds ≡ Some f → Found b ds f.start f.length
unfolding book_fault phrase_for phrase_at
found b ds {f} good e =
    let p = phrase_number ds in
    let ls = split b in
    let two = there_if (is_two_digits ds) (phrase_at p ls) e in
    let one = there_if (ltb p (line_count ls)) (Some (stretch (line_start p ls) (length (line_at p ls)))) two.1 in
    let some : p < line_count ls = ltb-true p (line_count ls) one.0 in
    let a : line_start p ls ≡ f.start = cc in
    let m : length (line_at p ls) ≡ f.length = cc in
    record { named = two.0; phrase = good_line ls 0 p good some; size = sym m; there = rw (← a, ← m) (line_there p b some) }
