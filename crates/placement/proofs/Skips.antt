-- Where the search for a frame's next page starts. The code keeps a page number for each frame, `next`, and every page of the frame
-- below it is sent: a search from there finds the same page as one from page 0. Assumes nothing.
use mathlib.Core.Path.{◌≡◌, refl, sym, ◌∙◌}
use mathlib.Core.Bool.{Bool, true, false, cond}
use mathlib.Core.List.{List}
use Prim.Native.Nat.{ℕ, zero, suc, ◌+◌, ◌≤◌, ◌<◌}
use native.Mathlib.Omega.{arith}
use lib.ListN.{length, get_or, set, replicate, length-set}
use lib.Seq.{get_or-set_same, get_or-set_other}
use lib.Dec.{eqb}
use borrow.Author.Tests.{eqb-true, eqb-false}
use Rattle.placement.specs.Placement.{Job, Framed, frame_of, ready, state_at}
use Rattle.base.proofs.Bools.{true_false}
use Rattle.placement.proofs.Turn.{ready_true, ready_false}
use Rattle.placement.proofs.Steps.{At, Passed}

-- there is a number for each frame, none beyond the pages, and each page below its frame's number is sent
pub record Skips (job : Job) (marks next : List ℕ) : Type 0 where
  pub whole : length next ≡ 8
  pub within : (f : ℕ) → get_or next f 0 ≤ job.pages
  pub sent : (k : ℕ) → k < get_or next (job.frame k) 0 → get_or marks k 0 ≡ 0 → ⊥

-- at first every number is 0, so that nothing is skipped
zeros : (n f : ℕ) → get_or {A = ℕ} (replicate n 0) f 0 ≡ 0
zeros zero f = refl
zeros (suc n) zero = refl
zeros (suc n) (suc f) = zeros n f

pub skips_start : (job : Job) (marks : List ℕ) → Skips job marks (replicate 8 0)
skips_start job marks =
    record {
      whole = refl;
      within = λ f. omega (arith, zeros 8 f);
      sent = λ k l u. omega (arith, zeros 8 (job.frame k));
    }

-- an element after a store: the new one, or the old one elsewhere
at_set : (P : ℕ → Type 0) (l : List ℕ) (i v j : ℕ) → i < length l → (j ≡ i → P v) → ((j ≡ i → ⊥) → P (get_or l j 0)) → P (get_or (set l i v) j 0)
at_set P l i v j h same other = go (eqb j i) refl
  where
    go : (b : Bool) → eqb j i ≡ b → P (get_or (set l i v) j 0)
    go true e = let q = eqb-true j i e in rw (q, get_or-set_same l i v 0 h) (same q)
    go false e = let q = eqb-false j i e in rw (get_or-set_other l i j v 0 q) (other q)

-- a page that starts is one more that is sent
pub skips_more : (job : Job) (marks next : List ℕ) (p s : ℕ) → p < length marks → Skips job marks next → Skips job (set marks p (s + 1)) next
skips_more job marks next p s h a =
    record {
      whole = a.whole;
      within = a.within;
      sent = λ k l. at_set (λ (m : ℕ). m ≡ 0 → ⊥) marks p (s + 1) k h (λ q u. omega arith) (λ q. a.sent k l);
    }

module _ (job : Job) (framed : Framed job) (s : ℕ) (marks : List ℕ) (left sent : ℕ) (pause : Bool) (a : At job s marks left sent pause) (next : List ℕ) (from : Skips job marks next) where
  -- no page that the search in slot s skips may start
  pub skips_passed : Passed job s (state_at job s) (get_or next (frame_of s) 0)
  skips_passed k l = go (ready job s (state_at job s) k) refl
    where
      go : (b : Bool) → ready job s (state_at job s) k ≡ b → ready job s (state_at job s) k ≡ false
      go true e =
          let m = ready_true job s (state_at job s) k e in
          absurd (from.sent k (rw m.1 l) (rw a.marked m.0))
      go false e = e

  -- Where it ends, the next search in the same frame may start; after a pause, in which it looked for a tone, where it started.
  pub skips_found : (r : ℕ) → r ≤ job.pages → Passed job s (state_at job s) r → Skips job marks (set next (frame_of s) (cond pause (get_or next (frame_of s) 0) r))
  skips_found r w passed =
      record {
        whole = length-set next (frame_of s) _ ∙ from.whole;
        within = λ f. at_set (λ (x : ℕ). x ≤ job.pages) next (frame_of s) _ f here (λ q. low pause) (λ q. from.within f);
        sent = λ k. at_set (λ (x : ℕ). k < x → get_or marks k 0 ≡ 0 → ⊥) next (frame_of s) _ (job.frame k) here
            (λ q. gone k q pause a.pauses)
            (λ q. from.sent k);
      }
    where
      here : frame_of s < length next
      here = omega (arith, from.whole)

      low : (b : Bool) → cond b (get_or next (frame_of s) 0) r ≤ job.pages
      low true = from.within (frame_of s)
      low false = w

      gone : (k : ℕ) → job.frame k ≡ frame_of s → (b : Bool) → b ≡ (state_at job s).pause → k < cond b (get_or next (frame_of s) 0) r → get_or marks k 0 ≡ 0 → ⊥
      gone k q true e l u = from.sent k (rw q l) u
      gone k q false e l u = ready_false job s (state_at job s) k (passed k l) (rw a.marked at u, q, λ t. absurd (true_false t (sym e)))
