-- `sender::start_with` meets its contract. Assumes nothing.
use mathlib.Core.Path.{◌≡◌, refl, sym, ap, ◌∙◌}
use Rattle.job.specs.Submission.{Submission, with_book}
use Rattle.job.specs.Job.{job_of, reading_of}
use Rattle.job.specs.declared.Pages.{Pages}
use Rattle.job.proofs.Accepted.{answered}
use Rattle.sender.proofs.StartLaws.{opens, lays, refuses, stays}
use Rattle.sender.proofs.start_with.Goals as goal

answer_is : (s : Submission) {r : Pages} → r ≡ reading_of s → r.answer ≡ job_of s
answer_is s e = ap (λ (r : Pages). r.answer) e ∙ answered s

pub lay_out-pages-requires : goal.lay_out-pages-requires
lay_out-pages-requires c =
    let e = c.read_job-read.ensures in
    record {
      read_value = (e, sym (answer_is (with_book c.args.job.now c.args.book.now) e) ∙ c.in-Ok.is);
      words_len = refl;
    }

pub returns-in-Ok : goal.returns-in-Ok
returns-in-Ok c =
    let s = with_book c.args.job.now c.args.book.now in
    let told = c.in-Ok in
    let e = sym told.is ∙ answer_is s c.read_job-read.ensures in
    record {
      value = opens s told.n e c.cursor_at.ensures c.lay_out-pages.ensures.value;
      words_after = lays s told.n e c.args.words.now c.lay_out-pages.ensures.words_after;
    }

pub returns-in-Err : goal.returns-in-Err
returns-in-Err c =
    let s = with_book c.args.job.now c.args.book.now in
    let r = c.read_job-read in
    let told = c.in-Err in
    let e = answer_is s r.ensures in
    record {
      value = refuses s r.result.answer told.is e c.cursor_at-in-Err.ensures c.no_pages.ensures;
      words_after = stays s r.result.answer told.is e c.args.words.now;
    }
