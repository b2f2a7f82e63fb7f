-- What is heard along all slots, whichever of their words are lost: the one induction of reading over the slots. Assumes nothing.
use mathlib.Core.Path.{◌≡◌, refl, ap, ◌∙◌}
use mathlib.Core.Bool.{Bool, false, cond}
use mathlib.Core.List.{List}
use Prim.Native.Nat.{ℕ, zero, suc, ◌+◌, ◌*◌, ◌≤◌, ◌<◌}
use native.Mathlib.Omega.{arith}
use Rattle.base.specs.Passing.{passing}
use Rattle.base.specs.Search.{sum}
use Rattle.codeword.specs.Nearest.{nearest}
use Rattle.placement.specs.Placement.{Framed, content_at, state_at, batches}
use Rattle.placement.proofs.Contents.{slot}
use Rattle.placement.proofs.Placed.{done, once}
use Rattle.transmission.specs.Sending.{Sending, placement_of}
use Rattle.reader.specs.Meaning.{meaning}
use Rattle.reader.specs.Reading as reading
use Rattle.reader.specs.Reading.{read_at, ended}
use Rattle.reader.specs.declared.Changes.{Changes}
use Rattle.guarantees.specs.Order.{order_to, order}
use Rattle.guarantees.specs.Transport.{orphaned, lost_to, orphans_to, heard_but}
use Rattle.guarantees.proofs.SoFar.{SoFar, closed, said_in, turned, all_closed, lost_more, orphans_more}

-- the reader's state before slot s: its pages, and its two counts
record ReadTo (lost : ℕ → Bool) (xs : List Sending) (s : ℕ) (r : reading.State) : Type 0 where
  pages : SoFar lost xs s (state_at (placement_of xs) s) (order_to (placement_of xs) s) r
  lost_are : r.lost ≡ lost_to lost s
  orphans_are : r.orphans ≡ orphans_to lost xs s

-- the slot words say what the placement put there, or that they are lost
module _ (lost : ℕ → Bool) (xs : List Sending) (framed : Framed (placement_of xs)) (word : ℕ → ℕ) (n : ℕ)
    (said : (s : ℕ) → s < n → meaning (nearest (word s)) ≡ said_in (lost s) xs (content_at (placement_of xs) s)) where
  along : (s : ℕ) → s ≤ n → ReadTo lost xs s (read_at word s)
  unfolding state_at order_to read_at passing sum
  along zero l = record { pages = closed (λ m. absurd (omega arith)) refl refl; lost_are = refl; orphans_are = refl }
  along (suc s) l =
      let job = placement_of xs in
      let c = content_at job s in
      let r = along s (omega arith) in
      rw (said s l)
      (record {
        pages =
            turned lost xs s (lost s) (state_at job s) _ c (order_to job s) (read_at word s) refl (once job framed s) (slot job s) r.pages;
        lost_are = lost_more xs s (lost s) c (read_at word s) ∙ ap (λ (m : ℕ). m + cond (lost s) 1 0) r.lost_are;
        orphans_are =
            orphans_more lost xs s (lost s) (state_at job s) _ c (order_to job s) (read_at word s) refl (slot job s) r.pages
            ∙ ap (λ (m : ℕ). m + cond (orphaned lost xs s c) 1 0) r.orphans_are;
      })

  -- behind the last slot there is nothing to lose
  pub heard_along : (changes : Changes) → n ≡ 16 * batches (placement_of xs) → lost n ≡ false
      → ended false (read_at word n) changes ≡ heard_but lost xs changes
  unfolding heard_but order
  heard_along changes e z =
      let job = placement_of xs in
      let r = along n (omega arith) in
      let left : (state_at job n).left ≡ 0 = ap (λ (m : ℕ). (state_at job m).left) e ∙ (done job framed).0 in
      rw (← e, all_closed lost xs n false (state_at job n) (order_to job n) (read_at word n) z left r.pages, r.lost_are, r.orphans_are)
