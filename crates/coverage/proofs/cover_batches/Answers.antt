-- `coverage::cover_batches` meets its contract. Assumes nothing.
use mathlib.Core.Path.{◌≡◌}
use mathlib.Core.List.{List}
use Prim.Native.Nat.{ℕ}
use lib.ListN.{replicate}
use Rattle.reader.specs.Reading.{heard_in}
use Rattle.coverage.specs.Tally.{frame_counts, sync_counts, page_counts}
use Rattle.coverage.specs.Report.{of_batches}
use Rattle.coverage.proofs.cover_batches.Goals as goal

all_counted : (words : List ℕ) {frames sync pages : List ℕ} → frames ≡ frame_counts words → sync ≡ sync_counts words → pages ≡ page_counts (heard_in words).pages
    → record { listings = 1; refused = replicate 3 0; frames = frames; sync = sync; pages = pages } ≡ of_batches words
unfolding of_batches
all_counted words f s p = rw (f, s, p)

pub returns : goal.returns
returns c = all_counted c.args.words.now c.count_slots.ensures.frames_after c.count_syncs.ensures c.count_slots.ensures.pages_after
