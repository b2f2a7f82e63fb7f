-- `sender::start` meets its contract. Assumes nothing.
use Rattle.job.specs.Submission.{with_book}
use Rattle.sender.proofs.StartLaws.{starts}
use Rattle.sender.proofs.start.Goals as goal

pub returns : goal.returns
returns c = starts (with_book c.args.job.now c.args.book.now) c.start_with-answer.ensures.value c.start_with-answer.ensures.words_after
