-- What is written of a listing, and in how much room. Assumes nothing.
use mathlib.Core.Path.{◌≡◌, refl}
use mathlib.Core.Bool.{Bool, true, false, cond}
use mathlib.Core.List.{List}
use Prim.Native.Nat.{ℕ, ◌≤◌}
use native.Mathlib.Omega.{arith}
use lib.ListN.{length}
use lib.Dec.{ltb}
use borrow.Author.Tests.{ltb-false, le-ltb}
use Rattle.std.specs.Prelude.{Ok, Err}
use Rattle.job.specs.Submission.{Submission}
use Rattle.job.specs.Job.{job_of}
use Rattle.job.specs.Refusal.{job_number, job_place, job_position, JobAnswer}
use Rattle.listing.proofs.TextLaws.{text_length}
use Rattle.transmission.specs.Sending.{sendings_of, placement_of}
use Rattle.transmission.specs.Transmission.{codewords_of, transmission_of}
use Rattle.transmission.proofs.Sendings.{accepted_sendings, sendings_limits}
use Rattle.transmission.proofs.TransmissionLaws.{transmission_length}
use Rattle.job_listing.specs.Listed.{Listed, listing_text, answered, listed_of, number_of, place_of, position_of}
use Rattle.job_listing.specs.Enough.{Enough}
use Rattle.job_listing.specs.declared.ListError.TheVariants.{NoRoom}

written_size : (short : Bool) (size n : ℕ) → ◌≡◌ {A = Listed} (cond short (Err NoRoom) (Ok size)) (Ok n) → (short ≡ false) × (size ≡ n)
written_size true size n e = let z : ◌≡◌ {A = ℕ} 0 1 = cc in absurd (omega arith)
written_size false size n e = (refl, cc)

by_answer : (a : JobAnswer) (room : ℕ) (text : List ℕ) (n : ℕ) → answered a room text ≡ Ok n
    → (pages : ℕ) × (a ≡ Ok pages) × (length text ≡ n) × (n ≤ room)
by_answer (Ok pages) room text n e =
    let h = written_size (ltb room (length text)) (length text) n e in
    (pages, refl, h.1, omega (arith, ltb-false room (length text) h.0))
by_answer (Err r) room text n e = let z : ◌≡◌ {A = ℕ} 0 1 = cc in absurd (omega arith)

-- where n bytes are written, the job is accepted, its listing has n bytes, and there is room for them
pub listed_written : (s : Submission) (room n : ℕ) → listed_of s room ≡ Ok n → (pages : ℕ) × (job_of s ≡ Ok pages) × (length (listing_text s) ≡ n) × (n ≤ room)
unfolding listed_of
listed_written s room n e = by_answer (job_of s) room (listing_text s) n e

-- the listing of an accepted job has at most 46,062 bytes
pub listing_short : (s : Submission) (n : ℕ) → job_of s ≡ Ok n → length (listing_text s) ≤ 46062
listing_short s n e =
    let a = accepted_sendings s n e in
    let few = (sendings_limits a).most in
    omega (arith, text_length 0 (transmission_of (sendings_of s)), transmission_length (codewords_of (sendings_of s)) (placement_of (sendings_of s)))

enough_by : (s : Submission) (room : ℕ) → 46062 ≤ room → (a : JobAnswer) → job_of s ≡ a
    → (number_of (answered a room (listing_text s)) ≡ job_number a) × (place_of (answered a room (listing_text s)) ≡ job_place a)
    × (position_of (answered a room (listing_text s)) ≡ job_position a)
enough_by s room h (Ok n) e = let fits = le-ltb room (length (listing_text s)) (omega (arith, listing_short s n e)) in (rw fits, rw fits, rw fits)
enough_by s room h (Err r) e = (refl, refl, refl)

pub enough : Enough
unfolding listed_of
enough s room h = enough_by s room (omega arith) (job_of s) refl
