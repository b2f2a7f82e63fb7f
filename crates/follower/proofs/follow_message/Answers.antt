use mathlib.Core.Path.{◌≡◌, sym, subst, ◌∙◌}
use mathlib.Core.Bool.{true, false}
use Prim.Native.Nat.{ℕ}
use native.Mathlib.Omega.{arith}
use Rattle.reader.specs.Reading.{slot_word}
use Rattle.follower.specs.Following.{slot_count}
use Rattle.follower.specs.Progress.{Ran}
use Rattle.follower.proofs.SlotLaws.{lost_on, idle_on, address_on, end_on}
use Rattle.follower.proofs.Going.{going_more, going_closed}
use Rattle.follower.proofs.follow_message.Goals as goal

pub returns-in-Lost : goal.returns-in-Lost
returns-in-Lost c =
    let a = c.args in
    let l = c.loop-e in
    let says = sym c.word_meaning.ensures ∙ c.in-Lost.is in
    going_closed a.words.now a.s a.groups.now l.e l.invariant true (λ h. lost_on (slot_word a.words.now) l.e (slot_count a.words.now) c.loop-e-test.true h says)

pub returns-in-Idle : goal.returns-in-Idle
returns-in-Idle c =
    let a = c.args in
    let l = c.loop-e in
    let says = sym c.word_meaning.ensures ∙ c.in-Idle.is in
    going_closed a.words.now a.s a.groups.now l.e l.invariant false (λ h. idle_on (slot_word a.words.now) l.e (slot_count a.words.now) c.loop-e-test.true h says)

pub returns-in-Address : goal.returns-in-Address
returns-in-Address c =
    let a = c.args in
    let l = c.loop-e in
    let says = sym c.word_meaning.ensures ∙ c.in-Address.is in
    going_closed a.words.now a.s a.groups.now l.e l.invariant false (λ h. address_on (slot_word a.words.now) l.e (slot_count a.words.now) c.loop-e-test.true h says)

pub loop-e-preserved : goal.loop-e-preserved
loop-e-preserved c =
    let a = c.args in
    let l = c.loop-e in
    let says = sym c.word_meaning.ensures ∙ c.in-Message.is in
    going_more a.words.now a.s a.groups.now l.e l.invariant c.loop-e-test.true says

pub returns : goal.returns
returns c =
    let a = c.args in
    let l = c.loop-e in
    let all : l.e ≡ slot_count a.words.now = omega (arith, l.invariant.inside) in
    subst (λ (e : ℕ). Ran a.words.now a.s l.groups (record { end = e; cut = false })) all
    (going_closed a.words.now a.s a.groups.now l.e l.invariant false (λ h. end_on (slot_word a.words.now) l.e (slot_count a.words.now) (omega arith) h))
