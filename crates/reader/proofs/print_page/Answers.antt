-- `reader::print_page` meets its contract. Assumes nothing.
use mathlib.Core.Path.{◌≡◌, ap, ◌∙◌}
use Prim.Native.Nat.{ℕ}
use lib.ListN.{length}
use Rattle.std.specs.Prelude.{Option, Some}
use Rattle.base.specs.Lists.{over}
use Rattle.std.specs.Option.{unwrap_or}
use Rattle.reader.specs.Reading.{closed_as}
use Rattle.reader.specs.Lines.{line_heard}
use Rattle.reader.specs.Symbols.{page_in}
use Rattle.reader.proofs.PageLaws.{page_printed}
use Rattle.reader.proofs.print_page.Goals.{After-print_heard}
use Rattle.reader.proofs.print_page.Goals as goal

-- the page's line is printed
line_there : (c : After-print_heard) →
    let a = c.args in
    let line = line_heard (closed_as a.cut (page_in a.symbols.now a.a a.s)) in
    (c.print_heard.result ≡ Some (length line)) × (c.print_heard.new.out ≡ over a.out.now line)
line_there c =
    let a = c.args in
    let e = c.print_heard.ensures in
    page_printed a.symbols.now a.a a.s a.cut c.requires.behind c.requires.inside a.digits.now a.out.now c.requires.written c.requires.printed e.value e.out_after

pub returns : goal.returns
returns c =
    let there = line_there (goal.at.returns c).After-print_heard in
    record {
      value = c.unwrap_or.ensures ∙ ap (λ (n : Option ℕ). unwrap_or n 0) there.0;
      out_after = there.1;
    }
