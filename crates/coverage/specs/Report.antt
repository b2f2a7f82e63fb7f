-- The report, what one listing adds to it, and what the call answers (document 02, R-12). `Coverage`, `AddError` and `Covered` are
-- src/lib.rt's.
use Rattle.std.specs.Prelude.{Bool, cond, ◌||◌, List, ℕ, ◌+◌, ◌*◌, eqb, leb, ltb, length, get_or, replicate, Result, Ok, Err, ⊤}
use Rattle.base.specs.Leading.{leading}
use Rattle.base.specs.Lists.{tab}
use Rattle.listing.specs.Words.{words_of}
use Rattle.reader.specs.Answers as reading
use Rattle.reader.specs.Answers.{Verdict, judge_listing}
use Rattle.reader.specs.Reading.{heard_in}
use Rattle.reader.specs.declared.Fault.{Fault}
use Rattle.reader.specs.declared.ReadError.TheVariants.{Fault as Faulty}
use Rattle.coverage.specs.Tally.{frame_counts, sync_counts, page_counts, refused_counts}
use Rattle.coverage.specs.declared.AddError.{AddError}
use Rattle.coverage.specs.declared.AddError.TheVariants.{OverLimit, Full}
use Rattle.coverage.specs.declared.Covered.{Covered}
use Rattle.coverage.specs.declared.Coverage.{Coverage}

-- the report of no listing
abbrev pub no_coverage : Coverage
no_coverage = record { listings = 0; refused = replicate 3 0; frames = replicate 32 0; sync = replicate 3 0; pages = replicate 16 0 }

-- one by one the sums of two lists of counts
abbrev pub sums : List ℕ → List ℕ → List ℕ
sums a b = tab (λ i. get_or a i 0 + get_or b i 0) (length a)

-- one report and another
abbrev pub joined : Coverage → Coverage → Coverage
joined c d = record {
  listings = c.listings + d.listings;
  refused = sums c.refused d.refused;
  frames = sums c.frames d.frames;
  sync = sums c.sync d.sync;
  pages = sums c.pages d.pages;
}

-- ---- one listing

-- a listing that is read adds its words and pages
unfoldable pub of_batches : List ℕ → Coverage
of_batches words = record {
  listings = 1;
  refused = replicate 3 0;
  frames = frame_counts words;
  sync = sync_counts words;
  pages = page_counts (heard_in words).pages;
}

-- a refused one is counted by its number, and adds nothing else
unfoldable pub of_fault : Fault → Coverage
of_fault why = record {
  listings = 1;
  refused = refused_counts (reading.number_of (Err (Faulty why)));
  frames = replicate 32 0;
  sync = replicate 3 0;
  pages = replicate 16 0;
}

-- by the reader's verdict
abbrev pub of_verdict : Verdict → List ℕ → Coverage
of_verdict (Ok sound) words = of_batches words
of_verdict (Err why) words = of_fault why

-- the report of a single listing
unfoldable pub coverage_of : List ℕ → Coverage
coverage_of s = of_verdict (judge_listing s) (words_of s)

-- ---- the call

-- one of the counts is over the limit: not all pass
abbrev pub any_over : ℕ → List ℕ → Bool
any_over limit counts = ltb (leading (λ x. leb x limit) counts) (length counts)

-- number 11: over 1,000 listings, or a refusal, word or page count over 600 times its listings
unfoldable pub is_over : Coverage → Bool
is_over c =
    ltb 1000 c.listings
    || (any_over (600 * c.listings) c.refused
    || (any_over (600 * c.listings) c.frames
    || (any_over (600 * c.listings) c.sync
    || any_over (600 * c.listings) c.pages)))

-- a listing added to a report: 11, then 23 for one listing too many; a declined call leaves the report as it was
unfoldable pub added_to : Coverage → List ℕ → Covered
added_to c s =
    cond (is_over c) (record { answer = Err OverLimit; coverage = c })
    (cond (eqb c.listings 1000) (record { answer = Err Full; coverage = c })
    (record { answer = Ok tt; coverage = joined c (coverage_of s) }))

-- the number of an answer in document 01's table, 0 where the listing is added
abbrev pub number_of : Result ⊤ AddError → ℕ
number_of (Ok x) = 0
number_of (Err OverLimit) = 11
number_of (Err Full) = 23

-- its place
abbrev pub place_of : Result ⊤ AddError → ℕ
place_of (Ok x) = 0
place_of (Err OverLimit) = 0
place_of (Err Full) = 1001
