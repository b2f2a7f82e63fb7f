-- How many pages an accepted job has, and how many message codewords each of them. Assumes nothing.
use mathlib.Core.Path.{◌≡◌, sym, ap, ◌∙◌}
use mathlib.Core.List.{List}
use mathlib.Core.Logic.{⊎_elim}
use Prim.Native.Nat.{ℕ, ◌≤◌, ◌<◌}
use native.Mathlib.Omega.{arith}
use lib.ListN.{length}
use borrow.Author.Tests.{le-leb, lt-leb, ne_eqb, eq-eqb}
use Rattle.std.specs.Prelude.{Ok}
use Rattle.base.proofs.HexLaws.{bytes_length}
use Rattle.base.proofs.SearchLaws.{le_or_lt}
use Rattle.text.specs.Coding.{groups_of}
use Rattle.job.specs.Submission.{Submission}
use Rattle.job.specs.Line.{coding_of, kind_of, text_digits, text_of}
use Rattle.job.specs.Message.{count_from}
use Rattle.job.specs.Pages.{kind_at, digits_at, plain_at}
use Rattle.job.specs.Job.{job_of}
use Rattle.job.specs.Accepted.{Sound}
use Rattle.job.proofs.Accepted.{accepted_job}
use Rattle.job.proofs.Message.{is_data_lem, no_data, from_count, count_data, count_text}
use Rattle.transmission.specs.Sending.{Sending, sendings_of, sending_at, placement_of}
use Rattle.transmission.proofs.Sendings.{sending_at_lem, pages_are, sendings_count}
use Rattle.guarantees.specs.Demand3.{page, message_count, count}

-- the groups of a sound line's text are as many as document 01 says
count_of : (l : List ℕ) → Sound l → count_from (kind_of l) (length (text_digits l)) ≡ message_count (kind_of l) (text_digits l)
unfolding message_count coding_of
count_of l q = ⊎_elim coded grouped (le_or_lt (kind_of l) 5)
  where
    coded : kind_of l ≤ 5 → count_from (kind_of l) (length (text_digits l)) ≡ message_count (kind_of l) (text_digits l)
    coded h =
        let kind = kind_of l in
        let size : count_from kind (length (text_digits l)) ≡ groups_of (coding_of kind) (length (text_of l)) =
        count_text kind (length (text_digits l)) (no_data kind h) ∙ ap (groups_of (coding_of kind)) (sym (bytes_length (text_digits l))) in
        size
        ∙ ⊎_elim
        (λ (t : kind ≤ 3). rw (le-leb kind 3 t, ne_eqb kind 4 (λ e. omega arith), (q.text h).tone t))
        (λ (t : 3 < kind). ⊎_elim
        (λ (u : kind ≤ 4). rw (lt-leb kind 3 t, eq-eqb kind 4 (omega arith)) (omega arith))
        (λ (u : 4 < kind). rw (lt-leb kind 3 t, ne_eqb kind 4 (λ e. omega arith), eq-eqb kind 5 (omega arith)) (omega arith))
        (le_or_lt kind 4))
        (le_or_lt kind 3)

    grouped : 5 < kind_of l → count_from (kind_of l) (length (text_digits l)) ≡ message_count (kind_of l) (text_digits l)
    grouped h =
        let kind = kind_of l in
        count_data kind (length (text_digits l)) (is_data_lem kind h q.known)
        ∙ rw (lt-leb kind 3 (omega arith), ne_eqb kind 4 (λ e. omega arith), ne_eqb kind 5 (λ e. omega arith))

module _ (s : Submission) (n : ℕ) (ok : job_of s ≡ Ok n) where
  pub groups_count : (i : ℕ) → i < n → length (page s i).groups ≡ count s i
  groups_count i l =
      let a = accepted_job s n ok in
      let p = a.page i l in
      from_count (kind_at s i) (digits_at s i) ∙ rw (p.kind_is, p.digits_are) (count_of (plain_at s i) (a.sound i l))

  -- the same of its sending
  pub sent_count : (i : ℕ) → i < n → length (sending_at (sendings_of s) i).groups ≡ count s i
  sent_count i l = ap (λ (x : Sending). length x.groups) (sending_at_lem s i) ∙ groups_count i l

  pub page_count : (placement_of (sendings_of s)).pages ≡ n
  page_count = pages_are (sendings_of s) ∙ sendings_count s n ok
