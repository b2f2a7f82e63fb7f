-- Demand 2 of the calls that write a listing. Assumes nothing.
use mathlib.Core.Path.{◌≡◌, refl, sym, ap, ◌∙◌}
use mathlib.Core.List.{List}
use Prim.Native.Nat.{ℕ, ◌+◌, ◌*◌}
use native.Mathlib.Omega.{arith}
use lib.ListN.{length, get_or, take, drop}
use lib.Seq.{take_at}
use Rattle.std.specs.Prelude.{Ok, Err}
use Rattle.base.specs.Lists.{over}
use Rattle.base.proofs.SearchLaws.{sum_cong, sum_zeros}
use Rattle.codeword.proofs.NearestLaws.{distance_self}
use Rattle.job.proofs.RefusalLaws.{refused_not}
use Rattle.placement.specs.Placement.{batches}
use Rattle.job.specs.Submission.{Submission}
use Rattle.transmission.specs.Sending.{Sending, sendings_of, placement_of}
use Rattle.transmission.specs.Transmission.{transmission_of}
use Rattle.transmission.specs.Transmitted.{slot_index}
use Rattle.job_listing.specs.Listed.{Listed, listing_text, listed_of, bytes_listed}
use Rattle.job_listing.specs.declared.ListError.TheVariants.{Job, NoRoom}
use Rattle.job_listing.proofs.RoomLaws.{listed_written}
use Rattle.card.specs.Answers.{bytes_for}
use Rattle.card.specs.declared.CardBytes.{CardBytes}
use Rattle.guarantees.specs.Transport.{flip_count, flips_in}
use Rattle.guarantees.specs.Listed.{ListingBack, ListJob, CardList, ReadAfterListing, ListedThenRead}
use Rattle.guarantees.proofs.Received.{clean}
use Rattle.guarantees.proofs.Carried.{front_fits}
use Rattle.guarantees.proofs.Demand2.{demand2}

-- ---- the listing of an accepted job

-- a transmission has no flips against itself
no_flip : (xs : List Sending) (k : ℕ) → flip_count (transmission_of xs) (transmission_of xs) k ≡ 0
no_flip xs k = distance_self (get_or (transmission_of xs) k 0)

unchanged : (xs : List Sending) → flips_in xs (transmission_of xs) ≡ record { slots = 0; syncs = 0 }
unchanged xs =
    let b = batches (placement_of xs) in
    rw (
      sum_cong (λ p. flip_count (transmission_of xs) (transmission_of xs) (slot_index p)) (λ _. 0) (16 * b) (λ p _. no_flip xs (slot_index p)),
      sum_cong (λ q. flip_count (transmission_of xs) (transmission_of xs) (18 + 17 * q)) (λ _. 0) b (λ q _. no_flip xs (18 + 17 * q)),
      sum_zeros (16 * b),
      sum_zeros b,
    )

pub listing_back : ListingBack
listing_back s n ok room =
    let xs = sendings_of s in
    rw (unchanged xs) at ((demand2 s n ok (transmission_of xs) (clean xs)).from_listing room)

-- ---- what is written

by_list_job : (s : Submission) (old left : List ℕ) (n : ℕ) → ListJob s old (Ok n) left → ReadAfterListing s n left
by_list_job s old left n call =
    let r = listed_written s (length old) n (sym call.answer) in
    let front : take n left ≡ listing_text s = ap (take n) call.bytes ∙ take_at (listing_text s) (drop (length (listing_text s)) old) n r.2 in
    record {
      pages = r.0;
      accepted = r.1;
      fits = rw call.bytes (front_fits old (listing_text s) r.2 r.3);
      listed = front;
      clean = rw front (listing_back s r.0 r.1);
      flipped = demand2 s r.0 r.1;
    }

-- number 0 is given for a listing alone
by_number : (a : Listed) → (bytes_for a).number ≡ 0 → a ≡ Ok (bytes_for a).bytes
by_number (Ok n) e = refl
by_number (Err (Job r)) e = absurd (refused_not 0 refl r.why e)
by_number (Err NoRoom) e = absurd (omega arith)

as_list_job : (s : Submission) (old left : List ℕ) (r : CardBytes) → CardList s old r left → r.number ≡ 0 → ListJob s old (Ok r.bytes) left
as_list_job s old left r call e =
    let a = listed_of s (length old) in
    let is : a ≡ Ok r.bytes =
    by_number a (ap (λ (x : CardBytes). x.number) (sym call.answer) ∙ e) ∙ ap (λ (x : CardBytes). Ok x.bytes) (sym call.answer) in
    record { answer = sym is; bytes = call.bytes ∙ ap (λ (x : Listed). over old (bytes_listed x (listing_text s))) is }

pub listed_then_read : ListedThenRead
listed_then_read =
    record { list_job = by_list_job; card_list = λ s old left r call e. by_list_job s old left r.bytes (as_list_job s old left r call e) }
