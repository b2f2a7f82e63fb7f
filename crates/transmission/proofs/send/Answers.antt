-- `transmission::send` meets its contract. Assumes nothing.
use mathlib.Core.Path.{◌∙◌}
use lib.ListN.{length}
use Rattle.std.proofs.lemmas.Result.{err_from_is_err_and}
use Rattle.job.specs.Submission.{with_book}
use Rattle.transmission.proofs.ReportLaws.{read_answer, report_declined, report_accepted}
use Rattle.transmission.proofs.send.Goals as goal

pub returns-in_err-n-clause-value : goal.returns-in_err-n-clause-value
returns-in_err-n-clause-value c =
    let s = with_book c.args.job.now c.args.book.now in
    let p = err_from_is_err_and c.from_residual.result c.from_residual.ensures.1 in
    rw (p.1, p.2) (report_declined s (length c.args.words.now) (length c.args.slots.now) (read_answer s c.read_job-read.ensures c.in_err-n.was))

pub send_pages-requires-clause-book_value : goal.send_pages-requires-clause-book_value
send_pages-requires-clause-book_value c = read_answer (with_book c.args.job.now c.args.book.now) c.read_job-read.ensures c.in_ok-n.was

pub returns-clause-value : goal.returns-clause-value
returns-clause-value c =
    let s = with_book c.args.job.now c.args.book.now in
    let ok = read_answer s c.read_job-read.ensures c.in_ok-n.was in
    c.send_pages.ensures.value ∙ report_accepted s (length c.args.words.now) (length c.args.slots.now) ok
