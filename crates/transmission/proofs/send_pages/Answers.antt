use mathlib.Core.Path.{◌≡◌, refl, sym, ap, ◌∙◌}
use Prim.Native.Nat.{ℕ, ◌+◌, ◌*◌, ◌≤◌, ◌<◌, ◌%◌}
use mathlib.Core.List.{List}
use native.Mathlib.Omega.{arith}
use lib.ListN.{length, get_or, take, drop, replicate, length-map}
use lib.Seq.{take_at, length-take-le}
use Rattle.std.specs.Prelude.{Ok}
use Rattle.base.proofs.ListLaws.{filled, filled_turn, filled_over}
use Rattle.job.specs.Submission.{Submission, with_book}
use Rattle.job.specs.Pages.{no_page}
use Rattle.job.specs.Job.{job_of}
use Rattle.job.proofs.Accepted.{accepted_job}
use Rattle.transmission.specs.Sending.{Sending, sendings_of, frames_of, counts_of}
use Rattle.transmission.proofs.Sendings.{words_at, sendings_count, accepted_sendings}
use Rattle.transmission.proofs.Planned.{front_length, front_page, frame_is, few_digits, count_is}
use Rattle.transmission.proofs.Prepared.{Prepared, placed_is, prepared, few_batches, plan, short_words, short_slots, enough, words_over, slots_over}
use Rattle.transmission.proofs.send_pages.Goals.{In-loop-k, After-groups, After-unwrap-batches}
use Rattle.transmission.proofs.send_pages.Goals as goal

-- there are n frames and n counts
frames-count : (s : Submission) (n : ℕ) → job_of s ≡ Ok n → length (frames_of (sendings_of s)) ≡ n
frames-count s n ok = length-map (sendings_of s) (λ (x : Sending). x.identity % 8) ∙ sendings_count s n ok

counts-count : (s : Submission) (n : ℕ) → job_of s ≡ Ok n → length (counts_of (sendings_of s)) ≡ n
counts-count s n ok = length-map (sendings_of s) (λ (x : Sending). length x.groups) ∙ sendings_count s n ok

-- page k is one of the n
below : (c : In-loop-k) → c.loop-k.k < c.args.n
below c = omega (arith, front_length (with_book c.args.job.now c.args.book.now) c.args.n c.requires.book_value c.requires.read_value)

-- the number of groups of page k
counted : (c : After-groups) → c.loop-k.k < c.args.n → c.groups.result ≡ get_or (counts_of (sendings_of (with_book c.args.job.now c.args.book.now))) c.loop-k.k 0
counted c h =
    let s = with_book c.args.job.now c.args.book.now in
    let page = front_page s c.args.n c.requires.book_value c.requires.read_value c.loop-k.k h in
    c.groups.ensures ∙ rw page (count_is s c.args.n c.requires.book_value c.requires.read_value c.loop-k.k h)

-- an array's front when all pages are passed
passed : (old new : List ℕ) (n : ℕ) {xs : List ℕ} {i : ℕ} → length new ≡ n → xs ≡ filled old new i → i ≤ n → n ≤ i → take n xs ≡ new
passed old new n {xs} {i} e q h k =
    let last : i ≡ length new = omega arith in
    ap (take n) (q ∙ ap (filled old new) last ∙ filled_over old new) ∙ take_at new (drop (length new) old) n e

all-frames : (s : Submission) (n : ℕ) → job_of s ≡ Ok n → {xs : List ℕ} {k : ℕ} → xs ≡ filled (replicate 48 0) (frames_of (sendings_of s)) k → k ≤ n → n ≤ k → take n xs ≡ frames_of (sendings_of s)
all-frames s n ok q h last = passed (replicate 48 0) (frames_of (sendings_of s)) n (frames-count s n ok) q h last

all-counts : (s : Submission) (n : ℕ) → job_of s ≡ Ok n → {xs : List ℕ} {k : ℕ} → xs ≡ filled (replicate 48 0) (counts_of (sendings_of s)) k → k ≤ n → n ≤ k → take n xs ≡ counts_of (sendings_of s)
all-counts s n ok q h last = passed (replicate 48 0) (counts_of (sendings_of s)) n (counts-count s n ok) q h last

-- the pages are placed
ready : (c : After-unwrap-batches)
    → Prepared (with_book c.args.job.now c.args.book.now) c.args.n (take c.args.n c.loop-k.groups) c.place.new.out c.unwrap-batches.result
ready c =
    let s = with_book c.args.job.now c.args.book.now in
    let ok = c.requires.book_value in
    let all = front_length s c.args.n ok c.requires.read_value in
    prepared s c.args.n ok (all-frames s c.args.n ok c.loop-k.invariant.0 (omega arith) (omega arith)) (all-counts s c.args.n ok c.loop-k.invariant.1 (omega arith) (omega arith))
    (sym c.unwrap-batches.ensures ∙ c.place.ensures.value) c.place.ensures.out_after

pub shared_ref_as_front-page-items : goal.shared_ref_as_front-page-items
shared_ref_as_front-page-items c = omega (arith, (accepted_job (with_book c.args.job.now c.args.book.now) c.args.n c.requires.book_value).most)

pub overflow_cast-page : goal.overflow_cast-page
overflow_cast-page c =
    let s = with_book c.args.job.now c.args.book.now in
    let h = below (goal.at.overflow_cast-page c).In-loop-k in
    let page = front_page s c.args.n c.requires.book_value c.requires.read_value c.loop-k.k h in
    rw page (record { fits = omega (arith, few_digits s c.args.n c.requires.book_value c.requires.read_value c.loop-k.k h) })

pub overflow_cast-groups : goal.overflow_cast-groups
overflow_cast-groups c =
    let s = with_book c.args.job.now c.args.book.now in
    let k = c.loop-k.k in
    let h = below (goal.at.overflow_cast-groups c).In-loop-k in
    let brief = ((accepted_sendings s c.args.n c.requires.book_value).each k (omega (arith, h, sendings_count s c.args.n c.requires.book_value))).brief in
    record { fits = omega (arith, counted (goal.at.overflow_cast-groups c).After-groups h, words_at (sendings_of s) k, brief) }

pub loop-k-preserved : goal.loop-k-preserved
loop-k-preserved c =
    let k = c.loop-k.k in
    let s = with_book c.args.job.now c.args.book.now in
    let n = c.args.n in
    let ok = c.requires.book_value in
    let h = below (goal.at.loop-k-preserved c).In-loop-k in
    let most = (accepted_job s n ok).most in
    let frame : (get_or (take n c.args.read.pages) k no_page).identity % 8 ≡ get_or (frames_of (sendings_of s)) k 0 =
    rw (front_page s n ok c.requires.read_value k h) (frame_is s n ok c.requires.read_value k h) in (
      filled_turn (replicate 48 0) (frames_of (sendings_of s)) k c.loop-k.invariant.0 (omega (arith, h, most)) (omega (arith, h, frames-count s n ok)) frame,
      filled_turn (replicate 48 0) (counts_of (sendings_of s)) k c.loop-k.invariant.1 (omega (arith, h, most)) (omega (arith, h, counts-count s n ok)) (counted (goal.at.loop-k-preserved c).After-groups h),
    )

pub unwrap-batches-requires : goal.unwrap-batches-requires
unwrap-batches-requires c =
    let s = with_book c.args.job.now c.args.book.now in
    let ok = c.requires.book_value in
    let all = front_length s c.args.n ok c.requires.read_value in
    let some = c.place.ensures.value
    ∙ placed_is s c.args.n ok (all-frames s c.args.n ok c.loop-k.invariant.0 (omega arith) (omega arith)) (all-counts s c.args.n ok c.loop-k.invariant.1 (omega arith) (omega arith)) in
    rw some refl

pub overflow_mul-count : goal.overflow_mul-count
overflow_mul-count c = record { fits = omega (arith, few_batches (ready (goal.at.overflow_mul-count c).After-unwrap-batches)) }

pub overflow_add-count : goal.overflow_add-count
overflow_add-count c = record { fits = omega (arith, few_batches (ready (goal.at.overflow_add-count c).After-unwrap-batches)) }

pub returns-then-short-clause-value : goal.returns-then-short-clause-value
returns-then-short-clause-value c =
    short_words (ready (goal.at.returns-then-short-clause-value c).After-unwrap-batches) (length c.args.words.now) (length c.args.slots.now) (omega arith)

pub returns-then-slots-n-clause-value : goal.returns-then-slots-n-clause-value
returns-then-slots-n-clause-value c =
    short_slots (ready (goal.at.returns-then-slots-n-clause-value c).After-unwrap-batches) (length c.args.words.now) (length c.args.slots.now) (omega arith) (omega arith)

pub write_pages-requires-clause-planned : goal.write_pages-requires-clause-planned
write_pages-requires-clause-planned c =
    plan (ready (goal.at.write_pages-requires-clause-planned c).After-unwrap-batches) (length-take-le (18 + 17 * c.unwrap-batches.result) c.args.words.now (omega arith))

pub returns : goal.returns
returns c =
    let r = ready (goal.at.returns c).After-unwrap-batches in
    let words = c.args.words.now in
    let slots = c.args.slots.now in record {
      value = enough r (length words) (length slots) (omega arith) (omega arith);
      words_after = words_over r words c.write_pages.ensures;
      slots_after = slots_over r slots (omega arith) c.copy_from_slice.ensures.after;
    }
