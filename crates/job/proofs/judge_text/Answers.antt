-- `job::judge_text` meets its contract: at each `return` the tests that led there decide `text_page_of`. Assumes nothing.
use Prim.Native.Nat.{ℕ, ◌+◌}
use mathlib.Core.Path.{◌≡◌, sym, ap, ◌∙◌}
use native.Mathlib.Omega.{arith}
use borrow.Author.Tests.{lt-ltb, le-ltb, eq-eqb, ne_eqb}
use lib.ListN.{length}
use Rattle.std.specs.Prelude.{Err}
use Rattle.base.specs.Hex.{bytes_of}
use Rattle.base.proofs.HexLaws.{bytes_length}
use Rattle.text.specs.Coding.{ends_in_space}
use Rattle.text.specs.declared.Coding.{Coding}
use Rattle.job.specs.Line.{longest_of, coding_of, good_run, text_page_of}
use Rattle.job.specs.declared.Refusal.TheVariants.{Character}
use Rattle.job.proofs.judge_text.Goals.{After-ends_in_space}
use Rattle.job.proofs.judge_text.Goals as goal

-- The space at the end, as the definition has it.
spaced : (c : After-ends_in_space) → c.ends_in_space.result ≡ ends_in_space (coding_of c.args.page.kind) (bytes_of c.args.text.now)
spaced c = c.ends_in_space.ensures ∙ ap (λ (x : Coding). ends_in_space x (bytes_of c.args.text.now)) c.coding.ensures

pub returns-then-n-eq0 : goal.returns-then-n-eq0
unfolding text_page_of
returns-then-n-eq0 c = rw (bytes_length c.args.text.now) (simp (eq-eqb _ _ c.if-n-eq0.true))

pub returns-then-longest-n : goal.returns-then-longest-n
unfolding text_page_of
returns-then-longest-n c =
    let a = c.args in
    let b = bytes_of a.text.now in
    let n = bytes_length a.text.now in
    simp (ne_eqb (length b) 0 (λ e. c.if-n-eq0.false (sym n ∙ e)), lt-ltb (longest_of a.page.kind) (length b) (omega arith))

pub returns-then-good-n : goal.returns-then-good-n
unfolding text_page_of
returns-then-good-n c =
    let a = c.args in
    let b = bytes_of a.text.now in
    let n = bytes_length a.text.now in
    simp (ne_eqb (length b) 0 (λ e. c.if-n-eq0.false (sym n ∙ e)), le-ltb (longest_of a.page.kind) (length b) (omega arith), lt-ltb (good_run a.page.kind b) (length b) (omega arith))
    (ap (λ (x : ℕ). Err (Character (x + 1))) c.requires)

pub returns-then-ends_in_space : goal.returns-then-ends_in_space
unfolding text_page_of
returns-then-ends_in_space c =
    let a = c.args in
    let b = bytes_of a.text.now in
    let n = bytes_length a.text.now in
    simp (ne_eqb (length b) 0 (λ e. c.if-n-eq0.false (sym n ∙ e)), le-ltb (longest_of a.page.kind) (length b) (omega arith), le-ltb (good_run a.page.kind b) (length b) (omega arith), sym (spaced (goal.at.returns-then-ends_in_space c).After-ends_in_space) ∙ c.if-ends_in_space.true)

pub returns : goal.returns
unfolding text_page_of
returns c =
    let a = c.args in
    let b = bytes_of a.text.now in
    let n = bytes_length a.text.now in
    simp (ne_eqb (length b) 0 (λ e. c.if-n-eq0.false (sym n ∙ e)), le-ltb (longest_of a.page.kind) (length b) (omega arith), le-ltb (good_run a.page.kind b) (length b) (omega arith), sym (spaced (goal.at.returns c).After-ends_in_space) ∙ c.if-ends_in_space.false)
