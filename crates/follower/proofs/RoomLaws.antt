-- The lines of one identity are no longer than those of all pages, so that as much room suffices; how many bytes are written. Assumes nothing.
use mathlib.Core.Path.{◌≡◌, ap}
use mathlib.Core.Bool.{Bool, true, false, cond}
use mathlib.Core.List.{List, [], ◌∷◌}
use Prim.Native.Nat.{ℕ, ◌≤◌, ◌<◌}
use native.Mathlib.Omega.{arith}
use mathlib.Core.Logic.{⊎_elim}
use lib.Dec.{eqb, ltb}
use lib.ListN.{length, length-append}
use borrow.Author.Tests.{lt-ltb, le-ltb}
use Rattle.base.specs.Passing.{passing}
use Rattle.base.proofs.SearchLaws.{le_or_lt}
use Rattle.job.specs.Line.{is_reserved}
use Rattle.listing.specs.Words.{words_of}
use Rattle.reader.specs.Reading.{Hearing, heard_in}
use Rattle.reader.specs.Lines.{line_heard, lines_heard}
use Rattle.reader.specs.Answers as reading
use Rattle.reader.specs.Answers.{Verdict, judge_words, judge_listing, printed_into, answered, read_stretch, read_listing}
use Rattle.std.specs.Prelude.{Ok, Err}
use Rattle.reader.proofs.Laws as reader
use Rattle.follower.specs.Pages.{of_identity, pages_for}
use Rattle.follower.specs.Answers.{lines_into, unless_faulty, follow_judged, follow_words, follow_listing, bytes_followed, number_of}
use Rattle.follower.specs.Enough.{Enough}
use Rattle.std.specs.declared.result.Result.TheVariants.{Ok, Err}
use Rattle.follower.specs.declared.Followed.{Followed}
use Rattle.follower.specs.declared.FollowError.TheVariants.{IdentityRange, IdentityReserved, NoRoom}

-- some of the lines are no longer than all
fewer : (i : ℕ) (hs : List Hearing) → length (lines_heard (of_identity i hs)) ≤ length (lines_heard hs)
unfolding passing lines_heard
fewer i [] = omega arith
fewer i (h ∷ hs) = go (eqb h.identity i) (fewer i hs)
  where
    go : (b : Bool) → length (lines_heard (of_identity i hs)) ≤ length (lines_heard hs)
        → length (lines_heard (cond b (h ∷ of_identity i hs) (of_identity i hs))) ≤ length (lines_heard (h ∷ hs))
    go true l = omega (arith, length-append (line_heard h) (lines_heard (of_identity i hs)), length-append (line_heard h) (lines_heard hs))
    go false l = omega (arith, length-append (line_heard h) (lines_heard hs))

own_fewer : (i : ℕ) (words : List ℕ) → length (lines_heard (pages_for i words)) ≤ length (lines_heard (heard_in words).pages)
unfolding pages_for
own_fewer i words = fewer i (heard_in words).pages

-- those of words that can be read fit into 48,000 bytes
fits : (words : List ℕ) → (reading.number_of (printed_into (heard_in words) 48000) ≡ 10 → ⊥) → length (lines_heard (heard_in words).pages) ≤ 48000
fits words h =
    ⊎_elim (λ l. l) (λ (l : 48000 < length (lines_heard (heard_in words).pages)). absurd (h (rw (lt-ltb 48000 (length (lines_heard (heard_in words).pages)) l))))
    (le_or_lt (length (lines_heard (heard_in words).pages)) 48000)

module _ (i : ℕ) (words : List ℕ) (room : ℕ) (large : 48000 ≤ room) where
  -- by the verdict, where no reading into so much room is number 10
  verdict_fits : (v : Verdict) → (reading.number_of (answered v (heard_in words) 48000) ≡ 10 → ⊥) → number_of (unless_faulty v (lines_into (pages_for i words) room)) ≡ 10 → ⊥
  verdict_fits (Err why) h e = h e
  verdict_fits (Ok sound) h e =
      let zero : number_of (lines_into (pages_for i words) room) ≡ 0 = rw (le-ltb room (length (lines_heard (pages_for i words))) (omega (arith, own_fewer i words, fits words h))) in
      omega arith

  judged_fits : (v : Verdict) → (reading.number_of (answered v (heard_in words) 48000) ≡ 10 → ⊥) → number_of (follow_judged i v words room) ≡ 10 → ⊥
  unfolding follow_judged
  judged_fits v h = go (ltb 0x1FFFFF i) (is_reserved i)
    where
      go : (a b : Bool) → number_of (cond a (Err IdentityRange) (cond b (Err IdentityReserved) (unless_faulty v (lines_into (pages_for i words) room)))) ≡ 10 → ⊥
      go true b e = omega arith
      go false true e = omega arith
      go false false e = verdict_fits v h e

words_fit : (i : ℕ) (words : List ℕ) (room : ℕ) → 48000 ≤ room → number_of (follow_words i words room) ≡ 10 → ⊥
unfolding follow_words read_stretch
words_fit i words room l = judged_fits i words room l (judge_words words) ((reader.enough).of_words words 48000 (omega arith))

listing_fits : (i : ℕ) (s : List ℕ) (room : ℕ) → 48000 ≤ room → number_of (follow_listing i s room) ≡ 10 → ⊥
unfolding follow_listing read_listing
listing_fits i s room l = judged_fits i (words_of s) room l (judge_listing s) ((reader.enough).of_listing s 48000 (omega arith))

pub enough : (i : ℕ) → Enough i
enough i = record { of_words = words_fit i; of_listing = listing_fits i }

-- ---- how many bytes are written

module _ {r : Followed} where
  into_size : (hs : List Hearing) (room : ℕ) → Ok r ≡ lines_into hs room → r.bytes ≡ length (lines_heard hs)
  into_size hs room e = go (ltb room (length (lines_heard hs))) e
    where
      go : (b : Bool) → Ok r ≡ cond b (Err NoRoom) (Ok (record { lines = length hs; bytes = length (lines_heard hs) })) → r.bytes ≡ length (lines_heard hs)
      go true f = let z : ◌≡◌ {A = ℕ} 0 1 = cc in absurd (omega arith)
      go false f = ap bytes_followed f

  judged_size : (i : ℕ) (v : Verdict) (words : List ℕ) (room : ℕ) → Ok r ≡ follow_judged i v words room → r.bytes ≡ length (lines_heard (pages_for i words))
  unfolding follow_judged
  judged_size i v words room e = go (ltb 0x1FFFFF i) (is_reserved i) v e
    where
      go : (a b : Bool) (x : Verdict) → Ok r ≡ cond a (Err IdentityRange) (cond b (Err IdentityReserved) (unless_faulty x (lines_into (pages_for i words) room)))
          → r.bytes ≡ length (lines_heard (pages_for i words))
      go true b x f = let z : ◌≡◌ {A = ℕ} 0 1 = cc in absurd (omega arith)
      go false true x f = let z : ◌≡◌ {A = ℕ} 0 1 = cc in absurd (omega arith)
      go false false (Err why) f = let z : ◌≡◌ {A = ℕ} 0 1 = cc in absurd (omega arith)
      go false false (Ok sound) f = into_size (pages_for i words) room f

-- the lines of a following that isn't declined have as many bytes as it answers
pub bytes_followed_lem : (i : ℕ) (s : List ℕ) (room : ℕ) {r : Followed} → Ok r ≡ follow_listing i s room → r.bytes ≡ length (lines_heard (pages_for i (words_of s)))
unfolding follow_listing
bytes_followed_lem i s room e = judged_size i (judge_listing s) (words_of s) room e
