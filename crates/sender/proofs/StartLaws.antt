-- What the code that starts a job returns and writes is what the definition says. Assumes nothing.
use Prim.Native.Nat.{ℕ}
use mathlib.Core.Path.{◌≡◌, refl, sym, ap, ◌∙◌}
use mathlib.Core.List.{List}
use lib.ListN.{replicate}
use Rattle.job.specs.Refusal.{JobAnswer}
use Rattle.std.specs.Prelude.{Ok, Err}
use Rattle.base.specs.Lists.{over}
use Rattle.base.proofs.ListLaws.{over_zeros}
use Rattle.job.specs.Submission.{Submission}
use Rattle.job.specs.Job.{job_of}
use Rattle.job.specs.declared.Refused.{Refused}
use Rattle.transmission.specs.Sending.{Sending, sendings_of}
use Rattle.sender.specs.declared.Cursor.{Cursor}
use Rattle.sender.specs.declared.PageTable.{PageTable}
use Rattle.sender.specs.declared.Opening.{Opening}
use Rattle.sender.specs.declared.Started.{Started}
use Rattle.sender.specs.Start.{words_of, pages_from, cursor_at, start_of, no_pages, no_state, state_by, started_of, opening_of, words_by}

abbrev opening : JobAnswer → Cursor → PageTable → Opening
opening a c p = record { answer = a; cursor = c; pages = p; sent = replicate 48 0 }

module _ (s : Submission) where
  abbrev xs : List Sending
  xs = sendings_of s

  abbrev opening_by : JobAnswer → Opening
  opening_by a = record { answer = a; cursor = (state_by a xs).cursor; pages = (state_by a xs).pages; sent = (state_by a xs).sent }

  -- an accepted job: what is returned, and the message words
  pub opens : (n : ℕ) → Ok n ≡ job_of s → {c : Cursor} {p : PageTable} → c ≡ cursor_at 18 → p ≡ pages_from xs → opening (Ok n) c p ≡ opening_of (started_of s)
  unfolding started_of start_of
  opens n e ec ep = (λ i. opening (Ok n) (ec i) (ep i)) ∙ ap opening_by e

  pub lays : (n : ℕ) → Ok n ≡ job_of s → (old : List ℕ) {words : List ℕ} → words ≡ over (replicate 4032 0) (words_of xs) → words ≡ words_by (job_of s) (started_of s).state.words old
  unfolding started_of start_of
  lays n e old w = w ∙ over_zeros 4032 (words_of xs) ∙ ap (λ (a : JobAnswer). words_by a (state_by a xs).words old) e

  -- a refused one
  pub refuses : (a : JobAnswer) {r : Refused} → a ≡ Err r → a ≡ job_of s → {c : Cursor} {p : PageTable} → c ≡ cursor_at 0 → p ≡ no_pages → opening a c p ≡ opening_of (started_of s)
  unfolding started_of no_state
  refuses a r e ec ep = (λ i. opening (r i) (ec i) (ep i)) ∙ ap opening_by (sym r ∙ e)

  pub stays : (a : JobAnswer) {r : Refused} → a ≡ Err r → a ≡ job_of s → (old : List ℕ) → old ≡ words_by (job_of s) (started_of s).state.words old
  unfolding started_of
  stays a r e old = ap (λ (b : JobAnswer). words_by b (state_by b xs).words old) (sym r ∙ e)

  -- message words that were zero are those of the state, either way
  over_none : (a : JobAnswer) → words_by a (state_by a xs).words (replicate 4032 0) ≡ (state_by a xs).words
  unfolding no_state
  over_none (Ok n) = refl
  over_none (Err r) = refl

  pub starts : {o : Opening} {words : List ℕ} → o ≡ opening_of (started_of s) → words ≡ words_by (job_of s) (started_of s).state.words (replicate 4032 0)
      → ◌≡◌ {A = Started} (record { answer = o.answer; state = record { cursor = o.cursor; pages = o.pages; sent = o.sent; words = words } }) (started_of s)
  unfolding started_of
  starts e w = λ i. record { answer = (e i).answer; state = record { cursor = (e i).cursor; pages = (e i).pages; sent = (e i).sent; words = (w ∙ over_none (job_of s)) i } }
