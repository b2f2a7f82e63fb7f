-- What the programs print, case by case, as the code goes. Assumes nothing.
use mathlib.Core.Path.{◌≡◌, refl, sym, ap, ◌∙◌}
use mathlib.Core.Bool.{true, false}
use mathlib.Core.List.{List}
use Prim.Native.Nat.{ℕ, ◌≤◌}
use native.Mathlib.Omega.{arith}
use lib.ListN.{length, drop, length-append}
use lib.Seq.{length-take-le}
use borrow.Author.Tests.{ne_eqb}
use Rattle.std.specs.Prelude.{Result, ⊤}
use Rattle.io.specs.Counts.{IsPrefixLen}
use Rattle.base.specs.Lists.{over}
use Rattle.job.specs.Submission.{Submission}
use Rattle.job.specs.Refusal as refusal
use Rattle.job.proofs.RefusalLaws.{refused_not}
use Rattle.std.specs.Prelude.{Ok, Err}
use Rattle.job_listing.specs.Listed as listed
use Rattle.job_listing.specs.Listed.{Listed, listing_text, listed_of}
use Rattle.job_listing.specs.declared.ListError.{ListError}
use Rattle.job_listing.proofs.RoomLaws.{listed_written}
use Rattle.job_listing.specs.declared.ListError.TheVariants.{Job, NoRoom}
use Rattle.listing.specs.Words.{words_of}
use Rattle.reader.specs.Reading.{heard_in}
use Rattle.reader.specs.Lines.{lines_heard}
use Rattle.reader.specs.Answers.{read_listing, lines_read, number_of, place_of}
use Rattle.reader.specs.declared.Fault.TheVariants.{Malformed, TooMany, Unsynced}
use Rattle.reader.specs.Answers.{Reading}
use Rattle.reader.specs.declared.Read.{Read}
use Rattle.reader.specs.declared.ReadError.{ReadError}
use Rattle.reader.specs.declared.ReadError.TheVariants as read-error
use Rattle.std.specs.Prelude.{Ok, Err}
use Rattle.reader.proofs.RoomLaws.{bytes_read_lem}
use Rattle.follower.specs.Pages.{pages_for}
use Rattle.follower.specs.Answers as following
use Rattle.follower.specs.Answers.{follow_listing, lines_of}
use Rattle.std.specs.declared.result.Result.{Result}
use Rattle.std.specs.declared.result.Result.TheVariants as result
use Rattle.follower.specs.declared.Followed.{Followed}
use Rattle.follower.specs.declared.FollowError.{FollowError}
use Rattle.follower.specs.declared.FollowError.TheVariants.{IdentityRange, IdentityReserved, Unread, NoRoom as NoLines}
use Rattle.follower.proofs.RoomLaws.{bytes_followed_lem}
use Rattle.receiver.specs.Answers as receiving
use Rattle.receiver.specs.Answers.{heard_bits, receive_bits, lines_received}
use Rattle.receiver.specs.declared.Refusal as receiver
use Rattle.receiver.specs.declared.Refusal.TheVariants.{TooLong, TooMany as TooManyBatches, NoRoom as NoReceivedLines}
use Rattle.receiver.specs.declared.Totals.{Totals}
use Rattle.receiver.proofs.RoomLaws.{bytes_received}
use Rattle.coverage.specs.Report as covering
use Rattle.coverage.specs.declared.AddError.{AddError}
use Rattle.coverage.specs.declared.AddError.TheVariants.{OverLimit, Full}
use Rattle.coverage.specs.declared.Coverage.{Coverage}
use Rattle.program.specs.CoverageText.{coverage_text}
use Rattle.program.specs.Prints.{is_long, refusal_line, answer_text, send_prints, read_prints, follow_prints, receive_prints, cover_prints}

-- bytes over the front of what was lent, and their number
abbrev pub Printed : List ℕ → List ℕ → ℕ → List ℕ → Type 0
Printed old text n out = (n ≡ length text) × (out ≡ over old text)

same : (old a b out : List ℕ) (n : ℕ) → a ≡ b → Printed old a n out → Printed old b n out
same old a b out n e p = (p.0 ∙ ap length e, p.1 ∙ ap (over old) e)

-- they stand there
pub counted : (old text : List ℕ) {n : ℕ} {out : List ℕ} → Printed old text n out → (n ≡ length text) × ((out ≡ over old text) × IsPrefixLen n out)
counted old text {n} {out} p =
    let inside : n ≤ length out = omega (arith, p.0, ap length p.1, length-append text (drop (length text) old)) in
    (p.0, (p.1, (inside, sym (length-take-le n out inside))))

-- the line of a refusal, by the number and places that were asked for, over what a declined call left as it was
pub line_as : (old : List ℕ) (number place position : ℕ) {left out : List ℕ} {num pl pos n : ℕ} → num ≡ number → pl ≡ place → pos ≡ position → left ≡ old
    → Printed left (refusal_line num pl pos) n out → Printed old (refusal_line number place position) n out
line_as old number place position a b c e p = rw (a, b, c, e) at p

-- ---- the sending program

module _ (s : Submission) (old : List ℕ) {n : ℕ} {out : List ℕ} where
  -- number 24
  pub send_long : is_long s.job ≡ true → Printed old (refusal_line 24 0 0) n out → Printed old (send_prints s) n out
  unfolding send_prints
  send_long h p = same old (refusal_line 24 0 0) (send_prints s) out n (rw h) p

  -- the listing, or the line of its refusal
  pub send_is : (l : Listed) → is_long s.job ≡ false → length old ≡ 46062 → l ≡ listed_of s (length old)
      → Printed old (answer_text (listed.number_of l) (listed.place_of l) (listed.position_of l) (listing_text s)) n out → Printed old (send_prints s) n out
  unfolding send_prints
  send_is l h room e p =
      same old (answer_text (listed.number_of l) (listed.place_of l) (listed.position_of l) (listing_text s)) (send_prints s) out n (rw (h, e, room)) p

-- the cases of the answer
module _ (s : Submission) (old : List ℕ) (h : is_long s.job ≡ false) {out : List ℕ} where
  pub send_written : (n : ℕ) → length old ≡ 46062 → Ok n ≡ listed_of s (length old) → out ≡ over old (listing_text s) → Printed old (send_prints s) n out
  send_written n room e o = send_is s old (Ok n) h room e (sym (listed_written s (length old) n (sym e)).2, o)

  pub send_refused : (n : ℕ) (why : ListError) → length old ≡ 46062 → Err why ≡ listed_of s (length old)
      → Printed old (refusal_line (listed.number_of (Err why)) (listed.place_of (Err why)) (listed.position_of (Err why))) n out → Printed old (send_prints s) n out
  send_refused n (Job r) room e p =
      send_is s old (Err (Job r)) h room e
      (same old (refusal_line (refusal.number_of r.why) r.place (refusal.position_of r.why)) (answer_text (refusal.number_of r.why) r.place (refusal.position_of r.why) (listing_text s)) out n
      (rw (ne_eqb (refusal.number_of r.why) 0 (refused_not 0 refl r.why))) p)
  send_refused n NoRoom room e p = send_is s old (Err NoRoom) h room e p

-- ---- the reading programs

module _ (s old : List ℕ) {n : ℕ} {out : List ℕ} where
  -- number 24
  pub read_long : is_long s ≡ true → Printed old (refusal_line 24 0 0) n out → Printed old (read_prints s) n out
  unfolding read_prints
  read_long h p = same old (refusal_line 24 0 0) (read_prints s) out n (rw h) p

  -- the lines, or the line of the listing's refusal
  pub read_is : (r : Reading) → is_long s ≡ false → length old ≡ 48000 → r ≡ read_listing s (length old)
      → Printed old (answer_text (number_of r) (place_of r) 0 (lines_read r (words_of s))) n out → Printed old (read_prints s) n out
  unfolding read_prints
  read_is r h room e p =
      same old (answer_text (number_of r) (place_of r) 0 (lines_read r (words_of s))) (read_prints s) out n (rw (h, e, room)) p

-- the cases of the answer
module _ (s old : List ℕ) (h : is_long s ≡ false) {out : List ℕ} where
  pub read_whole : (read : Read) → length old ≡ 48000 → Ok read ≡ read_listing s (length old)
      → out ≡ over old (lines_heard (heard_in (words_of s)).pages) → Printed old (read_prints s) read.bytes out
  read_whole read room e o = read_is s old (Ok read) h room e (bytes_read_lem s (length old) e, o)

  pub read_declined : (n : ℕ) (why : ReadError) → length old ≡ 48000 → Err why ≡ read_listing s (length old)
      → Printed old (refusal_line (number_of (Err why)) (place_of (Err why)) 0) n out → Printed old (read_prints s) n out
  read_declined n (read-error.Fault (Malformed line)) room e p = read_is s old (Err (read-error.Fault (Malformed line))) h room e p
  read_declined n (read-error.Fault (TooMany line)) room e p = read_is s old (Err (read-error.Fault (TooMany line))) h room e p
  read_declined n (read-error.Fault (Unsynced batch)) room e p = read_is s old (Err (read-error.Fault (Unsynced batch))) h room e p
  read_declined n read-error.NoRoom room e p = read_is s old (Err read-error.NoRoom) h room e p

-- ---- the following program

module _ (i : ℕ) (s old : List ℕ) {n : ℕ} {out : List ℕ} where
  -- number 24
  pub follow_long : is_long s ≡ true → Printed old (refusal_line 24 0 0) n out → Printed old (follow_prints i s) n out
  unfolding follow_prints
  follow_long h p = same old (refusal_line 24 0 0) (follow_prints i s) out n (rw h) p

  -- the lines, or the line of the refusal
  follow_is : (r : Result Followed FollowError) → is_long s ≡ false → length old ≡ 48000 → r ≡ follow_listing i s (length old)
      → Printed old (answer_text (following.number_of r) (following.place_of r) 0 (lines_of r (pages_for i (words_of s)))) n out → Printed old (follow_prints i s) n out
  unfolding follow_prints
  follow_is r h room e p =
      same old (answer_text (following.number_of r) (following.place_of r) 0 (lines_of r (pages_for i (words_of s)))) (follow_prints i s) out n (rw (h, e, room)) p

-- the cases of the answer
module _ (i : ℕ) (s old : List ℕ) (h : is_long s ≡ false) {out : List ℕ} where
  pub follow_whole : (f : Followed) → length old ≡ 48000 → result.Ok f ≡ follow_listing i s (length old)
      → out ≡ over old (lines_heard (pages_for i (words_of s))) → Printed old (follow_prints i s) f.bytes out
  follow_whole f room e o = follow_is i s old (result.Ok f) h room e (bytes_followed_lem i s (length old) e, o)

  pub follow_declined : (n : ℕ) (why : FollowError) → length old ≡ 48000 → result.Err why ≡ follow_listing i s (length old)
      → Printed old (refusal_line (following.number_of (result.Err why)) (following.place_of (result.Err why)) 0) n out
      → Printed old (follow_prints i s) n out
  follow_declined n IdentityRange room e p = follow_is i s old (result.Err IdentityRange) h room e p
  follow_declined n IdentityReserved room e p = follow_is i s old (result.Err IdentityReserved) h room e p
  follow_declined n (Unread (Malformed line)) room e p = follow_is i s old (result.Err (Unread (Malformed line))) h room e p
  follow_declined n (Unread (TooMany line)) room e p = follow_is i s old (result.Err (Unread (TooMany line))) h room e p
  follow_declined n (Unread (Unsynced batch)) room e p = follow_is i s old (result.Err (Unread (Unsynced batch))) h room e p
  follow_declined n NoLines room e p = follow_is i s old (result.Err NoLines) h room e p

-- ---- the receiving program

module _ (s old : List ℕ) {n : ℕ} {out : List ℕ} where
  -- number 24
  pub receive_long : is_long s ≡ true → Printed old (refusal_line 24 0 0) n out → Printed old (receive_prints s) n out
  unfolding receive_prints
  receive_long h p = same old (refusal_line 24 0 0) (receive_prints s) out n (rw h) p

  -- the lines, or the line of the refusal
  receive_is : (r : Result Totals receiver.Refusal) → is_long s ≡ false → length old ≡ 48300 → r ≡ receive_bits s (length old)
      → Printed old (answer_text (receiving.number_of r) (receiving.place_of r) 0 (lines_received r s)) n out → Printed old (receive_prints s) n out
  unfolding receive_prints
  receive_is r h room e p =
      same old (answer_text (receiving.number_of r) (receiving.place_of r) 0 (lines_received r s)) (receive_prints s) out n (rw (h, e, room)) p

-- the cases of the answer
module _ (s old : List ℕ) (h : is_long s ≡ false) {out : List ℕ} where
  pub receive_whole : (t : Totals) → length old ≡ 48300 → result.Ok t ≡ receive_bits s (length old)
      → out ≡ over old (lines_heard (heard_bits s).pages) → Printed old (receive_prints s) t.bytes out
  receive_whole t room e o = receive_is s old (result.Ok t) h room e (bytes_received s (length old) e, o)

  pub receive_declined : (n : ℕ) (why : receiver.Refusal) → length old ≡ 48300 → result.Err why ≡ receive_bits s (length old)
      → Printed old (refusal_line (receiving.number_of (result.Err why)) 0 0) n out → Printed old (receive_prints s) n out
  receive_declined n TooLong room e p = receive_is s old (result.Err TooLong) h room e p
  receive_declined n TooManyBatches room e p = receive_is s old (result.Err TooManyBatches) h room e p
  receive_declined n NoReceivedLines room e p = receive_is s old (result.Err NoReceivedLines) h room e p

-- ---- the coverage program

module _ (a : Result ⊤ AddError) (c : Coverage) (old : List ℕ) {n : ℕ} {out : List ℕ} where
  cover_is : (r : Result ⊤ AddError) → r ≡ a → Printed old (answer_text (covering.number_of r) (covering.place_of r) 0 (coverage_text c)) n out
      → Printed old (cover_prints a c) n out
  unfolding cover_prints
  cover_is r e p = same old (answer_text (covering.number_of r) (covering.place_of r) 0 (coverage_text c)) (cover_prints a c) out n (rw e) p

  -- the report, or the line of the refusal
  pub cover_whole : (u : ⊤) → result.Ok u ≡ a → Printed old (coverage_text c) n out → Printed old (cover_prints a c) n out
  cover_whole u e p = cover_is (result.Ok u) e p

  pub cover_declined : (why : AddError) → result.Err why ≡ a
      → Printed old (refusal_line (covering.number_of (result.Err why)) (covering.place_of (result.Err why)) 0) n out → Printed old (cover_prints a c) n out
  cover_declined OverLimit e p = cover_is (result.Err OverLimit) e p
  cover_declined Full e p = cover_is (result.Err Full) e p
