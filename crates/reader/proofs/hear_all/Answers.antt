use mathlib.Core.Path.{◌≡◌, refl, sym, subst}
use Prim.Native.Nat.{ℕ}
use native.Mathlib.Omega.{arith}
use lib.ListN.{length}
use borrow.Author.Rules.{rules}
use Rattle.reader.specs.Symbols.{state_by}
use Rattle.reader.specs.Progress.{Kept, closed}
use Rattle.reader.specs.declared.Progress.{Progress}
use Rattle.reader.proofs.Keeping.{kept_none}
use Rattle.reader.proofs.Runs.{messages_next, quiet_next}
use Rattle.reader.proofs.hear_all.Goals.{After-quiet_end-f}
use Rattle.reader.proofs.hear_all.Goals as goal

pub loop-digits-init : goal.loop-digits-init
loop-digits-init c =
    let new = c.default-p.ensures in
    (omega arith, refl, refl, kept_none c.args.symbols.now c.args.lines.now new.0 new.1.0 new.1.1.0 new.1.1.1.0 new.1.1.1.1)

-- once the runs are passed
abbrev passed : After-quiet_end-f → Type 0
passed c =
    let symbols = c.args.symbols.now in
    Kept symbols c.quiet_end-f.result (state_by symbols c.quiet_end-f.result) c.hear_messages-p.result c.loop-digits.lines

kept : (c : After-quiet_end-f) → passed c
kept c =
    let m = c.message_end-e in
    let h = c.hear_messages-p in
    let symbols = c.args.symbols.now in
    let run = messages_next symbols {lines = c.loop-digits.lines} c.loop-digits.s m.result c.loop-digits.p m.ensures c.loop-digits.invariant.3 in
    quiet_next symbols m.result c.quiet_end-f.result h.result c.quiet_end-f.ensures
    (subst (λ (q : Progress). Kept symbols m.result (state_by symbols m.result) q c.loop-digits.lines) (sym h.ensures) run)

pub message_end-e-requires : goal.message_end-e-requires
message_end-e-requires c = c.loop-digits.invariant.0

pub overflow_sub-e : goal.overflow_sub-e
overflow_sub-e c = c.message_end-e.ensures.on

pub hear_messages-p-requires : goal.hear_messages-p-requires
hear_messages-p-requires c = let m = c.message_end-e.ensures in omega (arith, m.on, m.inside, c.loop-digits.invariant.3.few_orphans, c.requires.slots)

pub quiet_end-f-requires : goal.quiet_end-f-requires
quiet_end-f-requires c = c.message_end-e.ensures.inside

pub close-requires : goal.close-requires
close-requires c =
    let i = c.loop-digits.invariant in
    let b = c.requires in
    record {
      buffers = record { slots = b.slots; room = omega arith; space = omega arith };
      s_in_bounds = c.quiet_end-f.ensures.idles.inside;
      kept = kept (goal.at.close-requires c).After-quiet_end-f;
    }

pub returns-then-symbols-f : goal.returns-then-symbols-f
returns-then-symbols-f c =
    let a = c.args in
    let symbols = a.symbols.now in
    let inside = c.quiet_end-f.ensures.idles.inside in
    let all : c.quiet_end-f.result ≡ length symbols = omega arith in
    subst (λ (s : ℕ). Kept symbols s (closed a.cut (state_by symbols s)) c.close.result c.close.new.lines) all c.close.ensures

pub hear-p-requires : goal.hear-p-requires
hear-p-requires c =
    let i = c.loop-digits.invariant in
    let b = c.requires in
    record {
      buffers = record { slots = b.slots; room = omega arith; space = omega arith };
      s_in_bounds = c.if-symbols-f.false;
      kept = kept (goal.at.hear-p-requires c).After-quiet_end-f;
    }

pub loop-digits-smaller : goal.loop-digits-smaller
loop-digits-smaller c =
    let m = c.message_end-e.ensures in
    let n = c.quiet_end-f.ensures.idles in
    omega (arith, m.on, n.on, n.inside)

pub loop-digits-preserved : goal.loop-digits-preserved
loop-digits-preserved c = (omega arith, search rules, search rules, c.hear-p.ensures)
