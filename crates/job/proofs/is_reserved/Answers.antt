-- `job::is_reserved` meets its contract. Assumes nothing.
use borrow.Author.Tests.{ne_eqb}
use mathlib.Core.Logic.{inl, inr, ⊎_elim}
use Prim.Native.Nat.{◌/◌}
use Rattle.job.specs.Line.{is_reserved}
use Rattle.job.proofs.is_reserved.Goals as goal

pub returns-in-250958 : goal.returns-in-250958
unfolding is_reserved
returns-in-250958 c = ⊎_elim (λ e. rw e) (λ e. rw e) c.in-250958.is

pub returns-in_default : goal.returns-in_default
unfolding is_reserved
returns-in_default c =
    let u = c.args.identity / 8 in
    simp (ne_eqb u 250958 (λ e. c.in_default.in_default-own.rest.1 (inl e)), ne_eqb u 255632 (λ e. c.in_default.in_default-own.rest.1 (inr e)))
