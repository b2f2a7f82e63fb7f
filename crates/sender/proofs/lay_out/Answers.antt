use Prim.Native.Nat.{ℕ, ◌+◌, ◌-◌, ◌≤◌, ◌<◌}
use mathlib.Core.Path.{◌≡◌, refl, sym, ap, subst, ◌∙◌}
use mathlib.Core.List.{List}
use native.Mathlib.Omega.{arith}
use lib.ListN.{length, get_or, take, drop, replicate, length-drop, length-append, length-replicate}
use lib.Seq.{length-take-le}
use Rattle.std.proofs.lemmas.List.{get_or-take}
use Rattle.base.specs.Lists.{over, tab}
use Rattle.base.proofs.ListLaws.{to_end}
use Rattle.codeword.specs.Code.{codeword, address_bits, message_bits}
use Rattle.job.specs.Submission.{Submission, with_book}
use Rattle.job.specs.Line.{kind_sent}
use Rattle.job.specs.Message.{group_from, count_from}
use Rattle.job.specs.Pages.{no_page, pages_of, digits_in}
use Rattle.job.specs.Job.{job_of, reading_of, answer_with, table_of}
use Rattle.job.specs.declared.Pages.{Pages}
use Rattle.job.specs.declared.Page.{Page}
use Rattle.std.specs.Prelude.{Ok}
use Rattle.transmission.specs.Sending.{Sending, sending_of, sendings_of, sending_at}
use Rattle.transmission.proofs.Sendings.{sendings_count, accepted_sendings}
use Rattle.transmission.proofs.Planned.{page_sending, few_digits, groups_are}
use Rattle.sender.specs.declared.PageTable.{PageTable}
use Rattle.sender.proofs.Laid.{Laid, laid_none, message_is, laid_at, laid_room, laid_fits, laid_more, laid_pages, laid_words}
use Rattle.sender.proofs.lay_out.Goals.{After-groups-groups}
use Rattle.sender.proofs.lay_out.Goals as goal

-- a table with another count
abbrev counting : PageTable → ℕ → PageTable
counting p n = record { count = n; addresses = p.addresses; starts = p.starts; lengths = p.lengths; frames = p.frames }

few_pages : (s : Submission) (n : ℕ) → job_of s ≡ Ok n → n ≤ 48
few_pages s n ok = omega (arith, (accepted_sendings s n ok).most, sendings_count s n ok)

-- a job's pages lie in an array of 48
full : (s : Submission) (n : ℕ) → job_of s ≡ Ok n → 48 ≤ length (reading_of s).pages
unfolding reading_of answer_with table_of
full s n ok =
    rw ok
    (omega (arith, length-append (pages_of s) (replicate (48 - length (pages_of s)) no_page), length-replicate {A = Page} (48 - length (pages_of s)) no_page))

-- the number of groups of page i
counted : (c : After-groups-groups) → c.loop-i.i < c.args.n → c.groups-groups.result ≡ length (sending_at (sendings_of (with_book c.args.job.now c.args.book.now)) c.loop-i.i).groups
counted c h =
    c.groups-groups.ensures
    ∙ ap (λ (x : Page). count_from (kind_sent x.kind) x.length) (get_or-take c.args.n c.args.read.now.pages c.loop-i.i no_page h)
    ∙ groups_are (with_book c.args.job.now c.args.book.now) c.args.n c.requires.read_value.1 c.requires.read_value.0 c.loop-i.i h

-- it is no more than a page may have
brief : (c : After-groups-groups) → c.loop-i.i < c.args.n → c.groups-groups.result ≤ 84
brief c h =
    let s = with_book c.args.job.now c.args.book.now in
    let ok = c.requires.read_value.1 in
    omega (arith, counted c h, sendings_count s c.args.n ok, ((accepted_sendings s c.args.n ok).each c.loop-i.i (omega (arith, sendings_count s c.args.n ok))).brief)

-- and there is room for them
roomy : (c : After-groups-groups) → c.loop-i.i < c.args.n → c.loop-i.at + c.groups-groups.result ≤ 4032
roomy c h =
    let s = with_book c.args.job.now c.args.book.now in
    let ok = c.requires.read_value.1 in
    let a = accepted_sendings s c.args.n ok in
    omega (arith, counted c h, laid_fits (sendings_of s) a c.args.words.now c.requires.words_len c.loop-i.i c.loop-i.at c.loop-i.invariant.5 (omega (arith, sendings_count s c.args.n ok)))

pub overflow_cast-table : goal.overflow_cast-table
overflow_cast-table c =
    let f = few_pages (with_book c.args.job.now c.args.book.now) c.args.n c.requires.read_value.1 in
    record { fits = omega arith }

pub shared_ref_as_front-page-items : goal.shared_ref_as_front-page-items
shared_ref_as_front-page-items c = few_pages (with_book c.args.job.now c.args.book.now) c.args.n c.requires.read_value.1

pub loop-i-init : goal.loop-i-init
loop-i-init c =
    let s = with_book c.args.job.now c.args.book.now in
    let f = few_pages s c.args.n c.requires.read_value.1 in
    let r = ap (λ (p : Pages). length p.pages) c.requires.read_value.0 in (
      f,
      length-take-le c.args.n c.args.read.now.pages (omega (arith, f, r, full s c.args.n c.requires.read_value.1)),
      refl,
      omega arith,
      c.requires.words_len,
      subst (λ (p : PageTable). Laid (sendings_of s) c.args.words.now 0 0 p.addresses p.starts p.lengths p.frames c.args.words.now) (sym c.no_pages-table.ensures) (laid_none (sendings_of s) c.args.words.now),
    )

pub overflow_cast-page : goal.overflow_cast-page
overflow_cast-page c =
    let s = with_book c.args.job.now c.args.book.now in
    let h : c.loop-i.i < c.args.n = omega arith in
    let e = ap (λ (x : Page). x.length) (get_or-take c.args.n c.args.read.now.pages c.loop-i.i no_page h) in
    record { fits = omega (arith, e, few_digits s c.args.n c.requires.read_value.1 c.requires.read_value.0 c.loop-i.i h) }

pub overflow_cast-table-in-loop-i-2 : goal.overflow_cast-table-in-loop-i-2
overflow_cast-table-in-loop-i-2 c = record { fits = omega (arith, brief (goal.at.overflow_cast-table-in-loop-i-2 c).After-groups-groups (omega arith)) }

pub overflow_cast-groups : goal.overflow_cast-groups
overflow_cast-groups c = record { fits = omega (arith, brief (goal.at.overflow_cast-groups c).After-groups-groups (omega arith)) }

pub write_message-requires : goal.write_message-requires
write_message-requires c =
    let l = c.loop-i in
    let m = roomy (goal.at.write_message-requires c).After-groups-groups (omega arith) in
    rw (to_end l.at l.words) (omega (arith, length-drop l.at l.words))

pub overflow_add-at : goal.overflow_add-at
overflow_add-at c = record { fits = omega (arith, roomy (goal.at.overflow_add-at c).After-groups-groups (omega arith)) }

pub loop-i-preserved : goal.loop-i-preserved
loop-i-preserved c =
    let l = c.loop-i in
    let s = with_book c.args.job.now c.args.book.now in
    let ok = c.requires.read_value.1 in
    let h : l.i < c.args.n = omega arith in
    let e = counted (goal.at.loop-i-preserved c).After-groups-groups h in
    let all = sendings_count s c.args.n ok in
    let a = accepted_sendings s c.args.n ok in
    let old = c.args.words.now in
    let page = get_or (take c.args.n c.args.read.now.pages) l.i no_page in
    let identity = page.identity in
    let kind = kind_sent page.kind in
    let digits = digits_in s page in
    let groups = c.groups-groups.result in
    let x = ap (sending_of s) (get_or-take c.args.n c.args.read.now.pages l.i no_page h) ∙ page_sending s c.args.n ok c.requires.read_value.0 l.i h in
    let rest = take (length l.words - l.at) (drop l.at l.words) in
    let part =
    c.write_message.ensures
    ∙ ap (λ (t : List ℕ). over rest (tab (λ g. codeword (message_bits (group_from kind t g))) groups)) c.page_text-text.ensures.result_value
    ∙ ap (over rest) (message_is identity kind digits groups (e ∙ sym (ap (λ (y : Sending). length y.groups) x))) in
    let next =
    laid_more (sendings_of s) a old c.requires.words_len l.i l.at l.invariant.5 (omega arith) x
    (c.word.ensures ∙ c.address.ensures ∙ ap (λ (f : ℕ). codeword (address_bits identity f)) c.function.ensures) e refl part in (
      l.invariant.0,
      l.invariant.1,
      l.invariant.2,
      laid_at (sendings_of s) a old c.requires.words_len (l.i + 1) (l.at + groups) next,
      laid_room (sendings_of s) a old c.requires.words_len (l.i + 1) (l.at + groups) next,
      next,
    )

pub returns : goal.returns
returns c =
    let l = c.loop-i in
    let s = with_book c.args.job.now c.args.book.now in
    let ok = c.requires.read_value.1 in
    let all = sendings_count s c.args.n ok in
    let a = accepted_sendings s c.args.n ok in
    let done : l.i ≡ c.args.n = omega arith in
    let so = rw done at l.invariant.5 in record {
      value = ap (counting l.table) l.invariant.2 ∙ laid_pages (sendings_of s) a c.args.words.now c.requires.words_len c.args.n l.at so all;
      words_after = laid_words (sendings_of s) a c.args.words.now c.requires.words_len c.args.n l.at so all;
    }
