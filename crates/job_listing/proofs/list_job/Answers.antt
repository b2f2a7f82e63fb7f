-- `job_listing::list_job` meets its contract. Assumes nothing.
use mathlib.Core.Path.{◌≡◌, sym, ap, ap₂, ◌∙◌}
use mathlib.Core.List.{List}
use Prim.Native.Nat.{ℕ}
use native.Mathlib.Omega.{arith}
use lib.ListN.{length, take, replicate, length-replicate}
use Rattle.std.proofs.Common.{rules, Ok, Err}
use Rattle.base.specs.Lists.{over}
use Rattle.base.proofs.ListLaws.{over_length}
use Rattle.job.specs.Submission.{with_book}
use Rattle.listing.specs.Text.{text_of}
use Rattle.transmission.specs.Sending.{sendings_of}
use Rattle.transmission.specs.Transmission.{transmission_of}
use Rattle.transmission.specs.Report.{Report, sent, report_of, words_sent}
use Rattle.job_listing.specs.Listed.{Listed, error_of, listing_text, written_into, bytes_listed}
use Rattle.job_listing.proofs.ListedLaws as laws
use Rattle.job_listing.proofs.list_job.Goals.{After-send}
use Rattle.job_listing.proofs.list_job.Goals as goal

-- the report of a job in buffers that suffice for every job
asked : (c : After-send) → c.send.result ≡ report_of (with_book c.args.job.now c.args.book.now) 5118 48
asked c =
    let s = with_book c.args.job.now c.args.book.now in
    c.send.ensures.value ∙ ap₂ (report_of s) (length-replicate {A = ℕ} 5118 0) (length-replicate {A = ℕ} 48 0)

-- where it is sent, the transmission stands over the front of the words
stand : (c : After-send) (b m : ℕ) → sent b m ≡ c.send.result
    → c.send.new.words ≡ over (replicate 5118 0) (transmission_of (sendings_of (with_book c.args.job.now c.args.book.now)))
stand c b m e =
    let s = with_book c.args.job.now c.args.book.now in
    let buffer = replicate 5118 0 in
    let left : c.send.new.words ≡ over buffer (words_sent c.send.result (sendings_of s)) = c.send.ensures.words_after in
    left ∙ ap (λ (r : Report). over buffer (words_sent r (sendings_of s))) (sym e)

pub write_front-requires : goal.write_front-requires
write_front-requires c =
    let s = with_book c.args.job.now c.args.book.now in
    let sending = c.in_ok-sent.sent in
    let told : Ok sending ≡ c.send.result = search rules in
    let sends = laws.sent s sending.batches sending.words (told ∙ asked (goal.at.write_front-requires c).After-send) in
    let room = length-replicate {A = ℕ} 5118 0 in
    omega (arith, sends.fits, sends.size, ap length (stand (goal.at.write_front-requires c).After-send sending.batches sending.words told), over_length (replicate 5118 0) (transmission_of (sendings_of s)) (omega (arith, sends.fits, sends.size, room)), room)

pub returns : goal.returns
returns c =
    let s = with_book c.args.job.now c.args.book.now in
    let sending = c.in_ok-sent.sent in
    let m = sending.words in
    let told : Ok sending ≡ c.send.result = search rules in
    let sends = laws.sent s sending.batches m (told ∙ asked (goal.at.returns c).After-send) in
    let w = c.write_front in
    let words : take m c.send.new.words ≡ transmission_of (sendings_of s) = ap (take m) (stand (goal.at.returns c).After-send sending.batches m told) ∙ laws.front s _ m sends.size in record {
      value = w.ensures.value ∙ ap (λ (ws : List ℕ). written_into (length c.args.out.now) (text_of ws)) words ∙ sym (sends.answer (length c.args.out.now));
      out_after = w.ensures.out_after ∙ ap (λ (ws : List ℕ). over c.args.out.now (bytes_listed w.result (text_of ws))) words;
    }

pub returns-in_err-sent : goal.returns-in_err-sent
returns-in_err-sent c =
    let s = with_book c.args.job.now c.args.book.now in
    let e = c.in_err-sent.field-0.0 in
    let told : c.from_residual.result ≡ Err (error_of e) = search rules in
    let answer = laws.unsent s e (sym c.in_err-sent.was ∙ asked (goal.at.returns-in_err-sent c).After-send) (length c.args.out.now) in
    record {
      value = told ∙ answer;
      out_after = ap (λ (r : Listed). over c.args.out.now (bytes_listed r (listing_text s))) (sym told);
    }
