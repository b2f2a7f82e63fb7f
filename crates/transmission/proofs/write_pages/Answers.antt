use mathlib.Core.Path.{◌≡◌, refl, ap, ◌∙◌}
use Prim.Native.Nat.{◌<◌}
use native.Mathlib.Omega.{arith}
use lib.ListN.{length, get_or}
use Rattle.base.proofs.ListLaws.{tab-length}
use Rattle.job.specs.Submission.{with_book}
use Rattle.job.specs.Pages.{no_page}
use Rattle.job.proofs.Accepted.{accepted_job}
use Rattle.transmission.specs.Sending.{sending_of, sendings_of, sending_at}
use Rattle.transmission.specs.Writing.{blank_at, with_sendings}
use Rattle.transmission.proofs.Sendings.{sendings_count, accepted_sendings, sendings_placed}
use Rattle.transmission.proofs.Planned.{page_sending, in_groups, brief, counted, low, fits, page_more}
use Rattle.transmission.proofs.Written.{with_length, written}
use Rattle.transmission.proofs.write_pages.Goals.{At-loop-i, In-loop-i}
use Rattle.transmission.proofs.write_pages.Goals as goal

-- the words keep their number
room : (at : At-loop-i) → length at.loop-i.words ≡ length at.args.words.now
room at =
    ap length at.loop-i.invariant.1
    ∙ with_length (sendings_of (with_book at.args.job.now at.args.book.now)) _ at.loop-i.i
    ∙ ap length at.write_blank.ensures
    ∙ tab-length blank_at (length at.args.words.now)

-- page i is sent as sending i
sent-as : (c : In-loop-i)
    → sending_of (with_book c.args.job.now c.args.book.now) (get_or c.args.read.pages c.loop-i.i no_page)
    ≡ sending_at (sendings_of (with_book c.args.job.now c.args.book.now)) c.loop-i.i
sent-as c =
    page_sending (with_book c.args.job.now c.args.book.now) c.args.n c.requires.book_value c.requires.read_value c.loop-i.i (omega arith)

pub loop-i-init : goal.loop-i-init
unfolding with_sendings
loop-i-init c = ((accepted_job (with_book c.args.job.now c.args.book.now) c.args.n c.requires.book_value).most, refl)

pub bounds-groups-i : goal.bounds-groups-i
bounds-groups-i c =
    in_groups (with_book c.args.job.now c.args.book.now) c.args.n c.requires.book_value c.requires.planned c.loop-i.i (omega arith)

pub write_page-requires : goal.write_page-requires
write_page-requires c =
    let s = with_book c.args.job.now c.args.book.now in
    let n = c.args.n in
    let i = c.loop-i.i in
    let h : i < n = omega arith in
    let ok = c.requires.book_value in
    let plan = c.requires.planned in
    record {
      groups_value = counted s n ok plan i h (sent-as (goal.at.write_page-requires c).In-loop-i);
      groups_bound = (brief s n ok plan i h, low s n ok plan i h);
      groups_in_bounds = omega (arith, room (goal.at.write_page-requires c).At-loop-i, fits s n ok plan i h);
    }

pub loop-i-preserved : goal.loop-i-preserved
loop-i-preserved c =
    let s = with_book c.args.job.now c.args.book.now in
    let i = c.loop-i.i in (
      c.loop-i.invariant.0,
      page_more s c.args.n c.requires.book_value c.requires.planned i (omega arith) _ (sent-as (goal.at.loop-i-preserved c).In-loop-i) c.loop-i.invariant.1 c.write_page.ensures,
    )

pub returns : goal.returns
returns c =
    let s = with_book c.args.job.now c.args.book.now in
    let a = accepted_sendings s c.args.n c.requires.book_value in
    let e : c.loop-i.i ≡ length (sendings_of s) = omega (arith, sendings_count s c.args.n c.requires.book_value) in
    c.loop-i.invariant.1 ∙ rw (e, c.write_blank.ensures, c.requires.planned.exact) (written (sendings_of s) (sendings_placed a))
