-- A phrase of a book is a text of kind 5, and every such text is one. Assumes nothing.
use Prim.Native.Nat.{ℕ, ◌*◌, ◌%◌, ◌≤◌}
use mathlib.Core.Path.{◌≡◌, refl}
use mathlib.Core.Bool.{true}
use mathlib.Core.List.{List}
use native.Mathlib.Omega.{arith}
use lib.ListN.{length}
use lib.Dec.{eqb}
use borrow.Author.Tests.{eq-eqb, ne_eqb, le-leb, eqb-true}
use Rattle.base.specs.Hex.{is_hex, bytes_of}
use Rattle.base.specs.Leading.{leading}
use Rattle.base.proofs.Bools.{and_true, and_both}
use Rattle.base.proofs.HexLaws.{bytes_length}
use Rattle.base.proofs.LeadingLaws.{leading_le}
use Rattle.text.specs.Coding.{char_ok, char_run, ends_in_space}
use Rattle.text.specs.declared.Coding.TheVariants.{Alphanumeric}
use Rattle.text.proofs.RunLaws.{run_digits, run_chars}
use Rattle.phrases.specs.Book.{is_phrase}
use Rattle.phrases.proofs.Phrases.{phrase_parts}
use Rattle.job.specs.Line.{longest_of, coding_of, is_digits, is_pairs}
use Rattle.job.specs.Accepted.{TextSound}
use Rattle.job.specs.PhraseText.{PhraseText}
use Rattle.job.proofs.Laws.{digits_all}

module _ (l : List ℕ) where
  module _ (e : is_phrase l ≡ true) where
    hex : leading is_hex l ≡ length l
    hex = let q = phrase_parts l e in omega (arith, q.2, run_digits Alphanumeric l, leading_le is_hex l)

    pairs : is_pairs l ≡ true
    unfolding is_pairs is_digits
    pairs =
        let q = phrase_parts l e in
        and_both (eq-eqb (length l % 2) 0 (omega (arith, q.2)))
        (rw (ne_eqb (length l) 0 (λ z. omega (arith, q.0, q.2))) (eq-eqb (leading is_hex l) (length l) hex))

    sound : TextSound 5 (bytes_of l)
    unfolding coding_of longest_of ends_in_space
    sound =
        let q = phrase_parts l e in
        let n = bytes_length l in
        let run = run_chars Alphanumeric l (omega (arith, hex)) in
        record {
          tone = λ h. absurd (omega arith);
          some = λ _. omega (arith, q.0, q.2);
          most = omega (arith, q.1, q.2);
          chars = omega (arith, q.2);
          unspaced = refl;
        }

  back : is_pairs l ≡ true → TextSound 5 (bytes_of l) → is_phrase l ≡ true
  unfolding is_phrase is_pairs coding_of longest_of
  back p t =
      let even = and_true (eqb (length l % 2) 0) (is_digits l) p in
      let run = run_chars Alphanumeric l (omega (arith, digits_all l even.1)) in
      let n = bytes_length l in
      let whole : length l % 2 ≡ 0 = eqb-true (length l % 2) 0 even.0 in
      let some : 1 ≤ length (bytes_of l) = t.some (omega arith) in
      let all : char_run Alphanumeric l ≡ length (bytes_of l) = omega (arith, t.chars, leading_le (char_ok Alphanumeric) (bytes_of l)) in
      and_both (and_both (le-leb 1 (char_run Alphanumeric l) (omega arith)) (le-leb (char_run Alphanumeric l) 240 (omega (arith, t.most))))
      (eq-eqb (2 * char_run Alphanumeric l) (length l) (omega arith))

  pub phrase_text : PhraseText l
  phrase_text = record { text = λ e. (pairs e, sound e); phrase = back }
