-- `reader::print_heard` meets its contract: with too few digits or bytes it leaves at once. Assumes nothing.
use mathlib.Core.Path.{sym, ap₂}
use mathlib.Core.List.{List}
use Prim.Native.Nat.{ℕ, ◌≤◌}
use lib.ListN.{length}
use lib.Seq.{length-take-le}
use Rattle.job.specs.Print.{printed}
use Rattle.reader.specs.Lines.{digits_heard, heard_page}
use Rattle.reader.proofs.OverLaws.{front_inside, front_is}
use Rattle.reader.proofs.PageLaws.{few_digits, few_bytes, nothing_heard, page_heard}
use Rattle.reader.proofs.print_heard.Goals.{After-write_page-n}
use Rattle.reader.proofs.print_heard.Goals as goal

-- `page` is the page that is lent; the digits that are lent on are those of its text
text-inside : (c : After-write_page-n) → c.write_page-n.result ≤ length c.write_page-n.new.digits
text-inside c =
    let a = c.args in
    let page = heard_page a.identity a.function a.groups.now a.cut in
    front_inside a.digits.now (digits_heard page.function page.groups) c.write_page-n.result c.write_page-n.ensures.value c.write_page-n.ensures.digits_after

pub returns-then-digits-groups : goal.returns-then-digits-groups
returns-then-digits-groups c =
    let a = c.args in
    let digits = a.digits.now in
    let out = a.out.now in
    let page = heard_page a.identity a.function a.groups.now a.cut in
    let whole = nothing_heard digits out page (few_digits digits out page c.if-digits-groups.true) in
    record {
      value = whole.0;
      digits_after = whole.1.0;
      out_after = whole.1.1;
    }

pub returns-then-out-groups : goal.returns-then-out-groups
returns-then-out-groups c =
    let a = c.args in
    let digits = a.digits.now in
    let out = a.out.now in
    let page = heard_page a.identity a.function a.groups.now a.cut in
    let whole = nothing_heard digits out page (few_bytes digits out page c.if-digits-groups.false c.if-out-groups.true) in
    record {
      value = whole.0;
      digits_after = whole.1.0;
      out_after = whole.1.1;
    }

pub slice_bounds-print_line-end : goal.slice_bounds-print_line-end
slice_bounds-print_line-end c = text-inside (goal.at.slice_bounds-print_line-end c).After-write_page-n

pub slice_bounds-print_line-end-2 : goal.slice_bounds-print_line-end-2
slice_bounds-print_line-end-2 c = sym (length-take-le _ _ (text-inside (goal.at.slice_bounds-print_line-end-2 c).After-write_page-n))

pub returns : goal.returns
returns c =
    let a = c.args in
    let page = heard_page a.identity a.function a.groups.now a.cut in
    let line = c.print_line.ensures in
    let text = c.write_page-n.ensures in
    let digits = front_is a.digits.now (digits_heard page.function page.groups) c.write_page-n.result text.value text.digits_after in
    let given = ap₂ (λ (k : ℕ) (ds : List ℕ). printed a.identity k ds a.cut) c.kind-kind.ensures digits in
    let whole =
    page_heard a.digits.now a.out.now page c.if-digits-groups.false c.if-out-groups.false given text.digits_after line.value line.out_after
    in
    record {
      value = whole.0;
      digits_after = whole.1.0;
      out_after = whole.1.1;
    }
