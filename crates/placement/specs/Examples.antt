-- The worked slots of document 01, "Examples on both sides of a limit", as one table that the definitions compute; and a second one for
-- the pause after a message (R-3).
use Rattle.std.specs.Prelude.{◌≡◌, Bool, true, false, cond, ◌&&◌, List, [], ◌∷◌, ◌++◌, ℕ, zero, suc, ◌*◌, eqb}
use Rattle.placement.specs.Placement.{Job, job_of, is_message, content_at, slots, batches}

-- a job's frames and numbers of message codewords, each page's address slot, the slots of message codewords, and the batches
pub record Row : Type 0 where
  pub frames : List ℕ
  pub words : List ℕ
  pub slots : List ℕ
  pub running : List ℕ
  pub batches : ℕ

-- the slots before slot s that hold a message codeword
unfoldable pub running_to : Job → ℕ → List ℕ
running_to job zero = []
running_to job (suc s) = cond (is_message (content_at job s)) (running_to job s ++ (s ∷ [])) (running_to job s)

-- two lists are the same
unfoldable pub same : List ℕ → List ℕ → Bool
same [] [] = true
same [] (y ∷ ys) = false
same (x ∷ xs) [] = false
same (x ∷ xs) (y ∷ ys) = eqb x y && same xs ys

-- the placement of the row's job is what the row says
unfoldable pub holds : Row → Bool
holds r =
    same (slots (job_of r.frames r.words)) r.slots
    && (same (running_to (job_of r.frames r.words) (16 * batches (job_of r.frames r.words))) r.running
    && eqb (batches (job_of r.frames r.words)) r.batches)

-- every row is so
unfoldable pub all : List Row → Bool
all [] = true
all (r ∷ rs) = holds r && all rs

-- document 01's jobs in its order: one tone and two in frame 7; a page with one message codeword there; three tones in frame 0; a
-- page with 15 message codewords in frame 1, and tones in frames 0 and 1 after it
unfoldable pub table : List Row
table =
    record { frames = 7 ∷ []; words = 0 ∷ []; slots = 14 ∷ []; running = []; batches = 1 } ∷
    record { frames = 7 ∷ 7 ∷ []; words = 0 ∷ 0 ∷ []; slots = 14 ∷ 15 ∷ []; running = []; batches = 1 } ∷
    record { frames = 7 ∷ []; words = 1 ∷ []; slots = 14 ∷ []; running = 15 ∷ []; batches = 2 } ∷
    record { frames = 0 ∷ 0 ∷ 0 ∷ []; words = 0 ∷ 0 ∷ 0 ∷ []; slots = 0 ∷ 1 ∷ 16 ∷ []; running = []; batches = 2 } ∷
    record {
      frames = 1 ∷ 0 ∷ 1 ∷ [];
      words = 15 ∷ 0 ∷ 0 ∷ [];
      slots = 2 ∷ 0 ∷ 18 ∷ [];
      running = 3 ∷ 4 ∷ 5 ∷ 6 ∷ 7 ∷ 8 ∷ 9 ∷ 10 ∷ 11 ∷ 12 ∷ 13 ∷ 14 ∷ 15 ∷ 16 ∷ 17 ∷ [];
      batches = 2;
    } ∷
    []

-- the pause: another message waits a slot; a tone doesn't, and overtakes a message of its frame; a message whose frame is over with the
-- pause waits for the next batch; and the pause after a message that ends a batch is the next batch's first slot
unfoldable pub pauses : List Row
pauses =
    record { frames = 0 ∷ 1 ∷ []; words = 1 ∷ 1 ∷ []; slots = 0 ∷ 3 ∷ []; running = 1 ∷ 4 ∷ []; batches = 1 } ∷
    record { frames = 0 ∷ 1 ∷ []; words = 1 ∷ 0 ∷ []; slots = 0 ∷ 2 ∷ []; running = 1 ∷ []; batches = 1 } ∷
    record { frames = 0 ∷ 1 ∷ 1 ∷ []; words = 1 ∷ 1 ∷ 0 ∷ []; slots = 0 ∷ 3 ∷ 2 ∷ []; running = 1 ∷ 4 ∷ []; batches = 1 } ∷
    record { frames = 0 ∷ 1 ∷ []; words = 2 ∷ 1 ∷ []; slots = 0 ∷ 18 ∷ []; running = 1 ∷ 2 ∷ 19 ∷ []; batches = 2 } ∷
    record { frames = 0 ∷ 7 ∷ 0 ∷ []; words = 1 ∷ 1 ∷ 1 ∷ []; slots = 0 ∷ 14 ∷ 17 ∷ []; running = 1 ∷ 15 ∷ 18 ∷ []; batches = 2 } ∷
    record { frames = 0 ∷ 7 ∷ 0 ∷ []; words = 1 ∷ 1 ∷ 0 ∷ []; slots = 0 ∷ 14 ∷ 16 ∷ []; running = 1 ∷ 15 ∷ []; batches = 2 } ∷
    []

-- both tables are right: proved by `worked_slots` and `worked_pauses` in proofs/Examples.antt
abbrev pub WorkedSlots : Type 0
WorkedSlots = all table ≡ true

abbrev pub WorkedPauses : Type 0
WorkedPauses = all pauses ≡ true
