-- The report of one listing and what the reader reports of it (document 02, R-12). `agrees` and `refuses` in proofs/AgreeLaws.antt prove it.
use Rattle.std.specs.Prelude.{◌≡◌, List, ℕ, ◌+◌, ◌*◌, ◌/◌, ◌<◌, length, get_or, Err}
use Rattle.base.specs.Search.{sum}
use Rattle.listing.specs.Words.{words_of}
use Rattle.reader.specs.Answers as reading
use Rattle.reader.specs.Answers.{Reading, read_listing, pages_read, lost_read, changed_read}
use Rattle.reader.specs.declared.Fault.{Fault}
use Rattle.reader.specs.declared.ReadError.TheVariants.{Fault as Faulty}
use Rattle.coverage.specs.Rates.{in_class, mended_bits}
use Rattle.coverage.specs.Report.{of_fault, coverage_of}
use Rattle.coverage.specs.declared.Coverage.{Coverage}

-- the pages of frame f, whole and cut
abbrev pub pages_of_frame : Coverage → ℕ → ℕ
pages_of_frame c f = get_or c.pages (2 * f) 0 + get_or c.pages (2 * f + 1) 0

-- the report of so many batches adds up to what the reader reports of them
pub record Agrees (c : Coverage) (batches : ℕ) (r : Reading) : Type 0 where
  -- the lost words of the frames, and their pages
  pub lost_words : sum (λ f. in_class c f 3) 8 ≡ lost_read r
  pub all_pages : sum (pages_of_frame c) 8 ≡ pages_read r
  -- the mended bits of the frames, and those of sync, are R-2's sums
  pub mended_slots : sum (mended_bits c) 8 ≡ (changed_read r).slots
  pub mended_syncs : mended_bits c 8 ≡ (changed_read r).syncs
  -- every word is counted: two a frame and batch, and one sync word a batch
  pub all_words : (f : ℕ) → f < 8 → in_class c f 0 + in_class c f 1 + in_class c f 2 + in_class c f 3 ≡ 2 * batches
  pub all_syncs : in_class c 8 0 + in_class c 8 1 + in_class c 8 2 ≡ batches

-- a listing that the reader reads, whatever room it is lent
abbrev pub AllAgree : Type 0
AllAgree = (s : List ℕ) (room : ℕ) → reading.number_of (read_listing s room) ≡ 0 → Agrees (coverage_of s) (length (words_of s) / 17) (read_listing s room)

-- a listing that the reader refuses for what it is, is counted by that number and adds nothing else
abbrev pub AllRefused : Type 0
AllRefused = (s : List ℕ) (room : ℕ) (why : Fault) → read_listing s room ≡ Err (Faulty why) → coverage_of s ≡ of_fault why
