-- The sendings of an accepted job: each is allowed, and the placement takes them. Assumes nothing.
use Prim.Native.Nat.{ℕ, zero, suc, ◌*◌, ◌%◌, ◌≤◌, ◌<◌, zero-le}
use native.Mathlib.Nat.{mul-suc}
use mathlib.Core.Path.{◌≡◌, sym, ◌∙◌}
use mathlib.Core.List.{List}
use native.Mathlib.Omega.{arith}
use lib.ListN.{length, length-map, get_or-map}
use Rattle.std.specs.Prelude.{Ok}
use Rattle.base.specs.Search.{sum}
use Rattle.base.specs.Lists.{tab}
use Rattle.job.specs.Line.{is_data, coding_of, kind_sent, function_of}
use Rattle.job.specs.Message.{count_from, groups_from}
use Rattle.job.specs.Pages.{pages_of, no_page, page_at, kind_at, digits_at}
use Rattle.job.specs.Submission.{Submission}
use Rattle.job.specs.Job.{job_of}
use Rattle.job.proofs.Accepted.{accepted_job}
use Rattle.job.proofs.Message.{from_count, from_small}
use Rattle.placement.specs.Promise.{Placed, Limits}
use Rattle.placement.proofs.Sendable.{Sendable}
use Rattle.placement.proofs.Placed.{placed, limits}
use Rattle.transmission.specs.Sending.{Sending, no_sending, sending_of, sendings_of, sending_at, frames_of, counts_of, placement_of, Allowed, AllAllowed}

-- ---- the sendings of any job, by index

sendings_length : (s : Submission) → length (sendings_of s) ≡ length (pages_of s)
unfolding sendings_of
sendings_length s = length-map (pages_of s) (sending_of s)

-- the sending at an index is that of the page there
pub sending_at_lem : (s : Submission) (i : ℕ) → sending_at (sendings_of s) i ≡ sending_of s (page_at s i)
unfolding sendings_of kind_sent function_of groups_from count_from is_data coding_of tab
sending_at_lem s i = get_or-map (sending_of s) (pages_of s) i no_page

pub frame_at : (xs : List Sending) (i : ℕ) → (placement_of xs).frame i ≡ (sending_at xs i).identity % 8
frame_at xs i = get_or-map (λ (x : Sending). x.identity % 8) xs i no_sending

pub words_at : (xs : List Sending) (i : ℕ) → (placement_of xs).words i ≡ length (sending_at xs i).groups
words_at xs i = get_or-map (λ (x : Sending). length x.groups) xs i no_sending

pub pages_are : (xs : List Sending) → (placement_of xs).pages ≡ length xs
pages_are xs = length-map xs (λ (x : Sending). x.identity % 8)

-- ---- allowed sendings are placed

-- a sum of numbers up to m
sum_most : (f : ℕ → ℕ) (m n : ℕ) → ((k : ℕ) → k < n → f k ≤ m) → sum f n ≤ m * n
unfolding sum
sum_most f m zero h = zero-le
sum_most f m (suc n) h =
    let a : sum f n ≤ m * n = sum_most f m n (λ k l. h k (omega arith)) in
    let b : f n ≤ m = h n (omega arith) in
    rw (mul-suc m n) (omega arith)

module _ {xs : List Sending} (a : AllAllowed xs) where
  pub sendable : Sendable (frames_of xs) (counts_of xs)
  sendable =
      record {
        framed = λ i h. rw frame_at (omega arith);
        few = omega (arith, pages_are xs, a.most);
        short = omega (
          arith,
          sum_most (placement_of xs).words 84 (placement_of xs).pages (λ i h. rw words_at (a.each i (omega (arith, pages_are xs))).brief),
          pages_are xs,
          a.most,
        );
        paired = length-map xs (λ (x : Sending). length x.groups) ∙ sym (pages_are xs);
      }

pub sendings_placed : {xs : List Sending} → AllAllowed xs → Placed (placement_of xs)
sendings_placed {xs} a = placed (placement_of xs) (sendable a).framed

-- at most 300 batches, and slots below 4,800
pub sendings_limits : {xs : List Sending} → AllAllowed xs → Limits (frames_of xs) (counts_of xs)
sendings_limits a = limits (sendable a)

-- ---- an accepted job's sendings are allowed

module _ (s : Submission) (n : ℕ) (ok : job_of s ≡ Ok n) where
  pub sendings_count : length (sendings_of s) ≡ n
  sendings_count = sendings_length s ∙ (accepted_job s n ok).pages

  allowed_at : (i : ℕ) → i < n → Allowed (sending_of s (page_at s i))
  allowed_at i h =
      let a = accepted_job s n ok in
      let p = a.page i h in
      let l = a.sound i h in
      record {
        in_range = rw p.identity_is (omega (arith, l.in_range));
        free = rw p.identity_is l.free;
        two_bits = rw p.kind_is l.function;
        brief = rw (from_count (kind_at s i) (digits_at s i), p.kind_is, p.digits_are) l.brief;
        small = from_small (kind_at s i) (digits_at s i);
      }

  pub accepted_sendings : AllAllowed (sendings_of s)
  accepted_sendings =
      let a = accepted_job s n ok in
      record {
        least = omega (arith, sendings_count, a.least);
        most = omega (arith, sendings_count, a.most);
        each = λ i h. rw sending_at_lem (allowed_at i (omega (arith, sendings_count)));
      }
