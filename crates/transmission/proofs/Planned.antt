-- What the pages that were read from an accepted job, and a plan of its sendings, say of page i. Assumes nothing.
use Prim.Native.Nat.{ℕ, ◌+◌, ◌-◌, ◌%◌, ◌≤◌, ◌<◌}
use mathlib.Core.Path.{◌≡◌, sym, ap, ◌∙◌}
use mathlib.Core.List.{List, ◌++◌}
use native.Mathlib.Numerals.{add-one}
use native.Mathlib.Omega.{arith}
use lib.ListN.{length, get_or, take, replicate, length-map, length-append}
use lib.Seq.{length-take-le}
use Rattle.std.specs.Prelude.{Ok}
use Rattle.std.proofs.lemmas.List.{get_or-take}
use Rattle.job.specs.Line.{kind_sent}
use Rattle.job.specs.Message.{count_from}
use Rattle.job.specs.Pages.{no_page, pages_of, kind_at, digits_at}
use Rattle.job.specs.Submission.{Submission}
use Rattle.job.specs.Job.{job_of, reading_of, answer_with, table_of}
use Rattle.job.specs.declared.Pages.{Pages}
use Rattle.job.proofs.Accepted.{accepted_job}
use Rattle.job.proofs.Message.{from_count}
use Rattle.placement.specs.Placement.{slot_of}
use Rattle.transmission.specs.Sending.{Sending, sending_of, sendings_of, sending_at, frames_of, counts_of, placement_of}
use Rattle.transmission.specs.Transmitted.{slot_index}
use Rattle.transmission.specs.Writing.{Planned, with_sending, with_sendings}
use Rattle.transmission.proofs.Sendings.{sending_at_lem, frame_at, words_at, pages_are, sendings_count, accepted_sendings, sendings_placed, sendings_limits}

-- ---- the pages that were read, at the front of the array

module _ (s : Submission) (n : ℕ) (ok : job_of s ≡ Ok n) {read : Pages} (e : read ≡ reading_of s) where
  pub front_length : length (take n read.pages) ≡ n
  unfolding reading_of answer_with table_of
  front_length =
      let a = accepted_job s n ok in
      let rest = replicate (48 - length (pages_of s)) no_page in
      rw (e, ok) (length-take-le n (pages_of s ++ rest) (omega (arith, a.pages, length-append (pages_of s) rest)))

-- ---- page i as it was read

module _ (s : Submission) (n : ℕ) (ok : job_of s ≡ Ok n) {read : Pages} (e : read ≡ reading_of s) (i : ℕ) (h : i < n) where
  -- it is the i-th of the front
  pub front_page : get_or (take n read.pages) i no_page ≡ get_or read.pages i no_page
  front_page = get_or-take n read.pages i no_page h

  -- its sending
  pub page_sending : sending_of s (get_or read.pages i no_page) ≡ sending_at (sendings_of s) i
  page_sending = rw (e, ((accepted_job s n ok).page i h).read) (sym (sending_at_lem s i))

  pub frame_is : (get_or read.pages i no_page).identity % 8 ≡ get_or (frames_of (sendings_of s)) i 0
  frame_is = ap (λ (x : Sending). x.identity % 8) page_sending ∙ sym (frame_at (sendings_of s) i)

  -- how many digits and groups its text has
  pub few_digits : (get_or read.pages i no_page).length ≤ 480
  few_digits =
      let a = accepted_job s n ok in
      let p = a.page i h in
      rw (e, p.read, p.length_is, p.digits_are) (a.sound i h).short

  pub groups_are : count_from (kind_sent (get_or read.pages i no_page).kind) (get_or read.pages i no_page).length ≡ length (sending_at (sendings_of s) i).groups
  groups_are =
      let p = (accepted_job s n ok).page i h in
      rw (e, p.read, p.length_is, sending_at_lem s i) (sym (from_count (kind_at s i) (digits_at s i)))

  pub count_is : count_from (kind_sent (get_or read.pages i no_page).kind) (get_or read.pages i no_page).length ≡ get_or (counts_of (sendings_of s)) i 0
  count_is = groups_are ∙ sym (words_at (sendings_of s) i)

-- ---- page i by the plan

module _ (s : Submission) (n : ℕ) (ok : job_of s ≡ Ok n) {groups places : List ℕ} {room : ℕ} (plan : Planned (sendings_of s) groups places room) (i : ℕ) (h : i < n) where
  listed : i < length (sendings_of s)
  listed = omega (arith, sendings_count s n ok)

  pub in_groups : i < length groups
  in_groups = rw plan.counted (omega (arith, listed, length-map (sendings_of s) (λ (x : Sending). length x.groups)))

  count_at : get_or groups i 0 ≡ length (sending_at (sendings_of s) i).groups
  count_at = rw plan.counted (words_at (sendings_of s) i)

  pub brief : get_or groups i 0 ≤ 84
  brief = rw count_at ((accepted_sendings s n ok).each i listed).brief

  pub counted : {x : Sending} → x ≡ sending_at (sendings_of s) i → get_or groups i 0 ≡ length x.groups
  counted q = rw q count_at

  -- its slots lie inside the batches, so its words in the room
  inside : (slot_of (placement_of (sendings_of s)) i < 4800) × (slot_index (slot_of (placement_of (sendings_of s)) i + get_or groups i 0) < room)
  inside =
      let a = accepted_sendings s n ok in
      let p = (sendings_placed a).inside i (omega (arith, listed, pages_are (sendings_of s))) in
      let w : (placement_of (sendings_of s)).words i ≡ get_or groups i 0 = words_at (sendings_of s) i ∙ sym count_at in
      ((sendings_limits a).below _ (omega arith), omega (arith, plan.exact))

  pub low : get_or places i 0 < 4800
  low = rw (plan.placed i listed) inside.0

  pub fits : slot_index (get_or places i 0 + get_or groups i 0) < room
  fits = rw (plan.placed i listed) inside.1

  -- one more page is written
  pub page_more : (old : List ℕ) {x : Sending} {words now : List ℕ} → x ≡ sending_at (sendings_of s) i → words ≡ with_sendings (sendings_of s) i old
      → now ≡ with_sending x (get_or places i 0) words → now ≡ with_sendings (sendings_of s) (i + 1) old
  unfolding with_sendings
  page_more old p q e = e ∙ rw (p, q, plan.placed i listed, add-one i, with_sendings)
