-- The batches in a recording (document 02, R-10).
use Rattle.std.specs.Prelude.{Bool, not, cond, ◌&&◌, List, [], ◌∷◌, ℕ, zero, suc, ◌+◌, ◌-◌, ◌*◌, leb}
use Rattle.base.specs.Lists.{tab}
use Rattle.base.specs.Search.{least}
use Rattle.codeword.specs.Nearest.{nearest}
use Rattle.reader.specs.Meaning.{is_sync}
use Rattle.receiver.specs.Bits.{bit_count, word_from}

-- at position p 32 bits correct to sync, and 512 bits stand behind them: there is a batch, where the receiver looks
unfoldable pub is_batch : List ℕ → ℕ → Bool
is_batch s p = leb (p + 544) (bit_count s) && is_sync (nearest (word_from s p))

-- the hunt from position p on: the lowest position at which there is a batch, or the end of the bits where there is none
unfoldable pub hunt_from : List ℕ → ℕ → ℕ
hunt_from s p = p + least (λ k. is_batch s (p + k)) (bit_count s - p)

-- the test of the next 32 bits after each batch: how many batches stand one directly behind the other from position p on
unfoldable pub batches_from : List ℕ → ℕ → ℕ
batches_from s p = least (λ k. not (is_batch s (p + 544 * k))) (bit_count s)

-- batches of which each stands directly behind the one before: where the first begins, and how many they are
pub record Stretch : Type 0 where
  pub start : ℕ
  pub batches : ℕ

-- the stretch that begins with the batch at position p
abbrev pub stretch_at : List ℕ → ℕ → Stretch
stretch_at s p = record { start = p; batches = batches_from s p }

-- the position behind a stretch
abbrev pub stretch_end : Stretch → ℕ
stretch_end r = r.start + 544 * r.batches

-- the stretches that at most n hunts find, the first from position p on and each other from the end of the stretch before
unfoldable pub stretches_in : List ℕ → ℕ → ℕ → List Stretch
stretches_in s zero p = []
stretches_in s (suc n) p =
    let r = stretch_at s (hunt_from s p) in
    cond (is_batch s r.start) (r ∷ stretches_in s n (stretch_end r)) []

-- those of the whole recording: there are fewer than bits
abbrev pub stretches_of : List ℕ → List Stretch
stretches_of s = stretches_in s (bit_count s) 0

-- how many batches they have
unfoldable pub batches_found : List Stretch → ℕ
batches_found [] = 0
batches_found (r ∷ rs) = r.batches + batches_found rs

-- a stretch's words
abbrev pub words_on : List ℕ → Stretch → List ℕ
words_on s r = tab (λ k. word_from s (r.start + 32 * k)) (17 * r.batches)
