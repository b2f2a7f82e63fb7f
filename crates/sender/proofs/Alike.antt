-- The placement asks of a mark only whether it is 0: two states that agree in that, and in all else, hold the same. Assumes nothing.
use mathlib.Core.Path.{◌≡◌, ap, ◌∙◌}
use Prim.Native.Nat.{ℕ, zero, suc, ◌-◌, ◌<◌}
use mathlib.Core.Bool.{cond}
use mathlib.Core.List.{List}
use lib.ListN.{get_or}
use lib.Dec.{eqb, ltb}
use Rattle.placement.specs.Placement.{Job, State, idle, address, message, may_start, ready, first, out_of, out, all_out}
use Rattle.sender.proofs.Search.{least_same}

abbrev pub Alike : ℕ → List ℕ → List ℕ → Type 0
Alike n m m' = (i : ℕ) → i < n → eqb (get_or m i 0) 0 ≡ eqb (get_or m' i 0) 0

module _ (job : Job) (st st' : State) (page : st.page ≡ st'.page) (left : st.left ≡ st'.left) (pause : st.pause ≡ st'.pause) (marks : Alike job.pages st.sent st'.sent) where
  first_alike : (s : ℕ) → first job s st ≡ first job s st'
  unfolding first ready may_start
  first_alike s =
      least_same (ready job s st) (ready job s st') job.pages
      (λ k l. rw (marks k l, pause))

  pub out_alike : (s : ℕ) → out job s st ≡ out job s st'
  unfolding out out_of
  out_alike s = ap (out_of job s st) left ∙ go st'.left
    where
      go : (l : ℕ) → out_of job s st l ≡ out_of job s st' l
      go zero = ap (λ (i : ℕ). cond (ltb i job.pages) (address i) idle) (first_alike s)
      go (suc l) = ap (λ (i : ℕ). message i (job.words i - suc l)) page

  pub all_out_alike : all_out job st ≡ all_out job st'
  unfolding all_out
  all_out_alike = rw (left, least_same (λ i. eqb (get_or st.sent i 0) 0) (λ i. eqb (get_or st'.sent i 0) 0) job.pages marks)
