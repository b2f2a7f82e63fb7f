-- `job::declined` meets its contract. Assumes nothing.
use mathlib.Core.Path.{ap}
use mathlib.Core.List.{List}
use Rattle.job.specs.Refusal.{refused}
use Rattle.job.specs.Job.{table_of}
use Rattle.job.specs.declared.Page.{Page}
use Rattle.job.specs.declared.Pages.{Pages}
use Rattle.job.proofs.declined.Goals as goal

pub returns : goal.returns
unfolding table_of
returns c =
    let a = c.args in
    ap {B = Pages} (λ (ps : List Page). record { answer = refused a.why a.place; pages = ps }) c.no_pages.ensures
