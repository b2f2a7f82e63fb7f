-- Runs of slots that are heard in one go. Assumes nothing.
use mathlib.Core.Path.{◌≡◌, refl, sym, subst}
use mathlib.Core.Bool.{Bool, true, false}
use mathlib.Core.List.{List}
use mathlib.Core.Logic.{⊎_elim}
use Prim.Native.Nat.{ℕ, zero, suc, ◌+◌, ◌-◌, ◌%◌, ◌^◌, ◌≤◌, ◌<◌}
use native.Mathlib.Numerals.{add-one}
use native.Mathlib.Omega.{arith}
use lib.Dec.{ltb}
use lib.ListN.{length, get_or, drop, length-drop}
use lib.Seq.{get_or-drop}
use borrow.Author.Tests.{ltb-true, ltb-false}
use Rattle.std.specs.List.{prefix_len}
use Rattle.std.specs.Prelude.{Option as Slot, None, Some}
use Rattle.std.proofs.lemmas.List.Sums.{prefix_len-le-length, prefix_len_passes}
use Rattle.base.proofs.Bools.{either}
use Rattle.reader.specs.Symbols.{said, state_by}
use Rattle.reader.specs.Progress.{Run, Messages, Idles, Quiet, orphans_with, with_messages, Kept}
use Rattle.reader.specs.declared.Meaning.TheVariants.{Message}
use Rattle.reader.specs.declared.Progress.{Progress}
use Rattle.reader.proofs.Keeping.{closed_none, idle_next, orphan_next, group_next}
use Rattle.reader.proofs.SymbolLaws.{is_message_lem, is_idle}

-- the slots from s on whose symbols pass a test
module _ {P : ℕ → Type 0} (p : ℕ → Bool) (passes : (x : ℕ) → p x ≡ true → P x) (symbols : List ℕ) (s : ℕ) where
  pub run_taken : (n : ℕ) → s ≤ length symbols → n ≡ prefix_len p (drop s symbols) → Run P symbols s (s + n)
  run_taken n h e =
      let rest = drop s symbols in
      record {
        on = omega arith;
        inside = omega (arith, e, prefix_len-le-length p rest, length-drop s symbols);
        each = λ i a b.
            let at : s + (i - s) ≡ i = omega arith in
            subst (λ (k : ℕ). P (get_or symbols k 0)) at
            (rw (← (get_or-drop s symbols (i - s) 0)) (passes _ (prefix_len_passes p rest (i - s) 0 (omega (arith, e)))));
      }

module _ {P : ℕ → Type 0} {symbols : List ℕ} {s : ℕ} where
  pub run_less : (n : ℕ) → Run P symbols s (s + suc n) → Run P symbols s (s + n)
  run_less n r = record { on = omega arith; inside = omega (arith, r.inside); each = λ i a b. r.each i a (omega arith) }

-- ---- message words

no_orphans : (held : Slot ℕ) (n : ℕ) → orphans_with held n 0 ≡ n
no_orphans None n = omega arith
no_orphans (Some a) n = refl

module _ (symbols : List ℕ) {lines : List ℕ} where
  pub message_next : (s : ℕ) (p : Progress) (b : ℕ) → said (get_or symbols s 0) ≡ Message b → s < length symbols → Kept symbols s (state_by symbols s) p lines
      → Kept symbols (s + 1) (state_by symbols (s + 1)) (with_messages p 1) lines
  message_next s p b e h k = go p.held refl
    where
      go : (held : Slot ℕ) → p.held ≡ held
          → Kept symbols (s + 1) (state_by symbols (s + 1)) (record { held = p.held; pages = p.pages; lost = p.lost; orphans = orphans_with held p.orphans 1; bytes = p.bytes }) lines
      go None z = orphan_next symbols s p b e k z
      go (Some a) z = group_next symbols s p b e k a z h

  -- one after the other
  one_message : (s : ℕ) (p : Progress) (n : ℕ) (held : Slot ℕ) → p.held ≡ held → s + n < length symbols → (2 ^ 20 ≤ get_or symbols (s + n) 0) × (get_or symbols (s + n) 0 < 2 ^ 21)
      → Kept symbols (s + n) (state_by symbols (s + n)) (record { held = p.held; pages = p.pages; lost = p.lost; orphans = orphans_with held p.orphans n; bytes = p.bytes }) lines
      → Kept symbols (s + n + 1) (state_by symbols (s + n + 1)) (record { held = p.held; pages = p.pages; lost = p.lost; orphans = orphans_with held p.orphans (n + 1); bytes = p.bytes }) lines
  one_message s p n None e h m k =
      let x = get_or symbols (s + n) 0 in
      let q : p.orphans + (n + 1) ≡ p.orphans + n + 1 = omega arith in
      rw q (orphan_next symbols (s + n) (record { held = p.held; pages = p.pages; lost = p.lost; orphans = p.orphans + n; bytes = p.bytes }) (x % 2 ^ 20) (sym (is_message_lem x m.0 m.1)) k e)
  one_message s p n (Some a) e h m k =
      let x = get_or symbols (s + n) 0 in
      group_next symbols (s + n) p (x % 2 ^ 20) (sym (is_message_lem x m.0 m.1)) k a e h

  many_messages : (s : ℕ) (p : Progress) (n : ℕ) → Messages symbols s (s + n) → Kept symbols s (state_by symbols s) p lines → Kept symbols (s + n) (state_by symbols (s + n)) (with_messages p n) lines
  many_messages s p zero r k =
      let a : s + 0 ≡ s = omega arith in
      rw (a, no_orphans p.held p.orphans) k
  many_messages s p (suc n) r k =
      let a : s + suc n ≡ s + n + 1 = omega arith in
      let short : Messages symbols s (s + n) = run_less n r in
      rw (a, ← add-one n) (one_message s p n p.held refl (omega (arith, r.inside)) (r.each (s + n) (omega arith) (omega arith)) (many_messages s p n short k))

  pub messages_next : (s e : ℕ) (p : Progress) → Messages symbols s e → Kept symbols s (state_by symbols s) p lines → Kept symbols e (state_by symbols e) (with_messages p (e - s)) lines
  messages_next s e p r k =
      let a : s + (e - s) ≡ e = omega (arith, r.on) in
      subst (λ (x : ℕ). Kept symbols x (state_by symbols x) (with_messages p (e - s)) lines) a
      (many_messages s p (e - s) (subst (Messages symbols s) (sym a) r) k)

  -- ---- idle words, with no page open

  many_idles : (s n : ℕ) (p : Progress) → Idles symbols s (s + n) → p.held ≡ None → Kept symbols s (state_by symbols s) p lines → Kept symbols (s + n) (state_by symbols (s + n)) p lines
  many_idles s zero p r z k = let a : s + 0 ≡ s = omega arith in rw a k
  many_idles s (suc n) p r z k =
      let a : s + suc n ≡ s + n + 1 = omega arith in
      let at = s + n in
      rw a (idle_next symbols at p (sym (is_idle (get_or symbols at 0) (r.each at (omega arith) (omega arith)))) (closed_none symbols at (state_by symbols at) p (many_idles s n p (run_less n r) z k) false z))

  pub quiet_next : (s e : ℕ) (p : Progress) → Quiet p symbols s e → Kept symbols s (state_by symbols s) p lines → Kept symbols e (state_by symbols e) p lines
  quiet_next s e p q k =
      ⊎_elim
      (λ (h : ltb s e ≡ true).
      let a : s + (e - s) ≡ e = omega (arith, q.idles.on) in
      subst (λ (x : ℕ). Kept symbols x (state_by symbols x) p lines) a (many_idles s (e - s) p (subst (Idles symbols s) (sym a) q.idles) (q.shut (ltb-true s e h)) k))
      (λ (h : ltb s e ≡ false).
      let a : s ≡ e = omega (arith, q.idles.on, ltb-false s e h) in
      subst (λ (x : ℕ). Kept symbols x (state_by symbols x) p lines) a k)
      (either (ltb s e))
