-- The pages of a job in the order of their slots.
use Rattle.std.specs.Prelude.{◌≡◌, List, [], ◌∷◌, ◌++◌, ℕ, zero, suc, ◌*◌, ◌<◌, length, get_or}
use Rattle.placement.specs.Placement.{Job, Framed, Content, idle, address, message, content_at, batches, slot_of}

-- pages, and the one whose address a slot holds
abbrev pub with_address : List ℕ → Content → List ℕ
with_address pages idle = pages
with_address pages (address p) = pages ++ (p ∷ [])
with_address pages (message p j) = pages

-- the pages whose addresses stand in the slots before s, in the order of these slots
unfoldable pub order_to : Job → ℕ → List ℕ
order_to job zero = []
order_to job (suc s) = with_address (order_to job s) (content_at job s)

-- the pages in the order of the slots of their addresses
unfoldable pub order : Job → List ℕ
order job = order_to job (16 * batches job)

-- what this order is, for a list o
pub record InOrder (job : Job) (o : List ℕ) : Type 0 where
  -- every page of the job is in it, only these are, and each once: it has as many entries as the job has pages
  pub every : (p : ℕ) → p < job.pages → (k : ℕ) × (k < length o) × (get_or o k 0 ≡ p)
  pub only : (k : ℕ) → k < length o → get_or o k 0 < job.pages
  pub once : length o ≡ job.pages
  -- the slots of their addresses rise
  pub rising : (k l : ℕ) → k < l → l < length o → slot_of job (get_or o k 0) < slot_of job (get_or o l 0)

-- so it is of every job whose frames are 0 to 7: `in_order` in proofs/Order.antt proves it
abbrev pub Ordered : Type 0
Ordered = (job : Job) → Framed job → InOrder job (order job)
