-- What stands behind a text's first bytes doesn't change what it is as a listing: each line that is right has nine bytes a word, so the first
-- that is not, or that is one too many, begins among them. Assumes nothing.
use Prim.Native.Nat.{ℕ, zero, suc, ◌+◌, ◌-◌, ◌*◌, ◌%◌, ◌≤◌, ◌<◌}
use mathlib.Core.Path.{◌≡◌, refl, ap, sym, ◌∙◌}
use mathlib.Core.List.{List}
use mathlib.Core.Bool.{true, false}
use mathlib.Core.Logic.{⊎_elim}
use native.Mathlib.Omega.{arith}
use lib.Dec.{eqb}
use lib.ListN.{length, take, drop, length-drop}
use lib.Seq.{length-take-le, take_all, take-take}
use Rattle.std.specs.Prelude.{Ok, Err}
use Rattle.base.specs.Lines.{split}
use Rattle.base.proofs.Bools.{either}
use Rattle.base.proofs.ListLaws.{drop_take, tab-same}
use Rattle.base.proofs.SearchLaws.{le_or_lt}
use Rattle.listing.specs.Listing.{has_two, frames_in, preamble_of, is_due, batches, listing_of, Listing}
use Rattle.listing.specs.Words.{words_of}
use Rattle.listing.specs.Scan.{line_from}
use Rattle.listing.specs.Front.{FrontSettles}
use Rattle.listing.proofs.FirstLine.{one_front, two_front}
use Rattle.listing.proofs.BatchLaws.{line_bytes, frames_more, frames_stop, frames_le, listing_short, listing_long, batches_more, batches_stray, batches_full}
use Rattle.listing.proofs.Indexed.{word_at, words_before, bytes_more, words_indexed, formed}

module _ (d : List ℕ) (m : ℕ) where
  due_front : (q : ℕ) → line_bytes q ≤ m → is_due q (line_from (take m d) 0) ≡ is_due q (line_from d 0)
  unfolding is_due line_bytes
  due_front q h =
      ⊎_elim
      (λ (z : eqb (q % 9) 0 ≡ true). let n = rw z at h in rw z (one_front d m n))
      (λ (z : eqb (q % 9) 0 ≡ false). let n = rw z at h in rw z (two_front d m n))
      (either (eqb (q % 9) 0))

-- ---- line by line

-- n frame lines at most
frames_front : (n m : ℕ) (d : List ℕ) → 18 * n ≤ m → frames_in n (split (take m d)) ≡ frames_in n (split d)
unfolding frames_in
frames_front zero m d h = refl
frames_front (suc n) m d h =
    let same = two_front d m (omega arith) in
    ⊎_elim
    (λ (e : has_two (line_from d 0) ≡ true).
    frames_more (take m d) n (same ∙ e) ∙ rw (drop_take 18 m d) (ap suc (frames_front n (m - 18) (drop 18 d) (omega arith)) ∙ sym (frames_more d n e)))
    (λ (e : has_two (line_from d 0) ≡ false). frames_stop (suc n) (split (take m d)) (same ∙ e) ∙ sym (frames_stop (suc n) (split d) e))
    (either (has_two (line_from d 0)))

-- behind q lines of batches, where n more are allowed: m bytes have these, and the line of a sync word behind them
batches_front : (n p q m : ℕ) (d : List ℕ) → q + n ≡ 2700 → 45909 ≤ 9 * words_before q + m → m ≤ length d → batches p q (split (take m d)) ≡ batches p q (split d)
batches_front zero p q m d a h c =
    let same = one_front d m (omega arith) in
    batches_full p q (take m d) (omega arith) (omega (arith, length-take-le m d c)) ∙ rw same (sym (batches_full p q d (omega arith) (omega arith)))
batches_front (suc n) p q m d a h c =
    let bytes = bytes_more q in
    let same = due_front d m q (omega arith) in
    let few : q ≡ 2700 → ⊥ = λ e. omega arith in
    ⊎_elim
    (λ (e : is_due q (line_from d 0) ≡ true).
    batches_more p q (take m d) (same ∙ e) few
    ∙ rw (drop_take (line_bytes q) m d)
    (batches_front n p (q + 1) (m - line_bytes q) (drop (line_bytes q) d) (omega arith) (omega arith) (omega (arith, length-drop (line_bytes q) d))
    ∙ sym (batches_more p q d e few)))
    (λ (e : is_due q (line_from d 0) ≡ false).
    batches_stray p q (take m d) (same ∙ e) (omega (arith, length-take-le m d c)) ∙ sym (batches_stray p q d e (omega arith)))
    (either (is_due q (line_from d 0)))

-- ---- the text

module _ (s : List ℕ) (m : ℕ) (h : 46557 ≤ m) where
  preamble_front : preamble_of (split s) ≡ preamble_of (split (take m s))
  preamble_front = sym (frames_front 36 m s (omega arith))

  listing_front : m ≤ length s → listing_of (take m s) ≡ listing_of s
  listing_front c =
      let p = preamble_of (split s) in
      let most = frames_le 36 (split s) in
      ⊎_elim
      (λ (l : 9 ≤ p).
      listing_long (take m s) p preamble_front l
      ∙ rw (drop_take (18 * p) m s)
      (batches_front 2700 p 0 (m - 18 * p) (drop (18 * p) s) refl (omega arith) (omega (arith, length-drop (18 * p) s)) ∙ sym (listing_long s p refl l)))
      (λ (l : p < 9). listing_short (take m s) p preamble_front l ∙ sym (listing_short s p refl l))
      (le_or_lt 9 p)

  word_front : (k : ℕ) → 9 * k + 9 ≤ m → word_at (take m s) k ≡ word_at s k
  unfolding word_at
  word_front k f = rw (drop_take (9 * k) m s, take-take 8 (m - 9 * k) (drop (9 * k) s) (omega arith))

  words_front : (l : Listing) → listing_of (take m s) ≡ l → listing_of s ≡ l → words_of (take m s) ≡ words_of s
  words_front (Err why) e f = rw (e, f)
  words_front (Ok shape) e f =
      let few = (formed s shape.preamble shape.batches f).limits in
      words_indexed (take m s) shape.preamble shape.batches e
      ∙ tab-same (λ i. word_at (take m s) (2 * shape.preamble + i)) (λ i. word_at s (2 * shape.preamble + i)) (17 * shape.batches) (λ i l. word_front (2 * shape.preamble + i) (omega (arith, few.short, few.few)))
      ∙ sym (words_indexed s shape.preamble shape.batches f)

pub front_settles : FrontSettles
front_settles s m h =
    ⊎_elim
    (λ (l : length s ≤ m). let e = take_all m s l in (ap listing_of e, ap words_of e))
    (λ (l : m < length s). let e = listing_front s m h (omega arith) in (e, words_front s m h (listing_of s) e refl))
    (le_or_lt (length s) m)
