-- `job::judge_kind` meets its contract. Assumes nothing.
use native.Mathlib.Omega.{arith}
use borrow.Author.Tests.{le-leb, lt-leb, eq-eqb, ne_eqb}
use Rattle.job.specs.Line.{kind_page_of}
use Rattle.job.proofs.Message.{is_data_lem, no_data, over_data}
use Rattle.job.proofs.judge_kind.Goals as goal

pub judge_text-requires : goal.judge_text-requires
judge_text-requires c = c.requires (no_data c.args.page.kind (omega arith))

pub returns-in-9 : goal.returns-in-9
unfolding kind_page_of
returns-in-9 c =
    let k = c.args.page.kind in
    rw c.judge_phrase.ensures (simp (le-leb 0 k (omega arith), lt-leb k 3 (omega arith), le-leb 4 k (omega arith), lt-leb k 5 (omega arith), over_data k (omega arith), eq-eqb k 9 (omega arith)))

pub returns-in-0-to-3 : goal.returns-in-0-to-3
unfolding kind_page_of
returns-in-0-to-3 c =
    let k = c.args.page.kind in
    rw c.judge_tone.ensures (simp (le-leb 0 k (omega arith), le-leb k 3 (omega arith)))

pub returns-in-4 : goal.returns-in-4
unfolding kind_page_of
returns-in-4 c =
    let k = c.args.page.kind in
    rw c.judge_text.ensures (simp (le-leb 0 k (omega arith), lt-leb k 3 (omega arith), le-leb 4 k (omega arith), le-leb k 5 (omega arith)))

pub returns-in-6 : goal.returns-in-6
unfolding kind_page_of
returns-in-6 c =
    let k = c.args.page.kind in
    rw c.judge_data.ensures (simp (le-leb 0 k (omega arith), lt-leb k 3 (omega arith), le-leb 4 k (omega arith), lt-leb k 5 (omega arith), is_data_lem k (omega arith) (omega arith)))

pub returns-in_default : goal.returns-in_default
unfolding kind_page_of
returns-in_default c =
    let k = c.args.page.kind in
    simp (le-leb 0 k (omega arith), lt-leb k 3 (omega arith), le-leb 4 k (omega arith), lt-leb k 5 (omega arith), over_data k (omega arith), ne_eqb k 9 (λ e. omega arith))
