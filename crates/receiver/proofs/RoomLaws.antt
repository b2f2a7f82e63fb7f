-- How long the lines of a recording can be, and what other room changes. Assumes nothing.
use mathlib.Core.Path.{◌≡◌, refl, ap, ◌∙◌}
use mathlib.Core.Bool.{Bool, true, false, cond}
use mathlib.Core.List.{List, [], ◌∷◌}
use Prim.Native.Nat.{ℕ, zero, suc, ◌*◌, ◌≤◌, ◌<◌}
use native.Mathlib.Omega.{arith}
use lib.Dec.{ltb}
use lib.ListN.{length, length-append}
use borrow.Author.Tests.{lt-ltb, le-ltb, ltb-true, ltb-false}
use Rattle.base.proofs.Bools.{true_false}
use Rattle.reader.specs.Lines.{lines_heard}
use Rattle.reader.proofs.Laws.{lines_append}
use Rattle.receiver.specs.Stretches.{Stretch, is_batch, hunt_from, stretch_at, stretch_end, stretches_in, stretches_of, batches_found}
use Rattle.receiver.specs.Answers.{heard_on, heard_all, heard_bits, totals_of, receive_bits, totals_received, number_of}
use Rattle.receiver.specs.Enough.{Enough}
use Rattle.std.specs.declared.result.Result.{Result}
use Rattle.std.specs.declared.result.Result.TheVariants.{Ok, Err}
use Rattle.receiver.specs.declared.Refusal.{Refusal}
use Rattle.receiver.specs.declared.Refusal.TheVariants.{TooLong, TooMany, NoRoom}
use Rattle.receiver.specs.declared.Totals.{Totals}
use Rattle.receiver.proofs.AddLaws.{most_heard}
use Rattle.receiver.proofs.StretchLaws.{batches_some}

module _ (s : List ℕ) where
  -- the bytes of the lines of stretches
  abbrev bytes : List Stretch → ℕ
  bytes rs = length (lines_heard (heard_all s rs).pages)

  -- ten bytes a slot, and one more a stretch: of one stretch more
  one_more : (r : Stretch) (rs : List Stretch) → 1 ≤ r.batches → bytes rs ≤ 161 * batches_found rs → bytes (r ∷ rs) ≤ 161 * batches_found (r ∷ rs)
  unfolding heard_all batches_found
  one_more r rs some h =
      let a = (heard_on s r).pages in
      let b = (heard_all s rs).pages in
      omega (arith, (most_heard s r some).bytes, ap length (lines_append a b), length-append (lines_heard a) (lines_heard b))

  -- of all that so many hunts find
  lines_most : (n p : ℕ) → bytes (stretches_in s n p) ≤ 161 * batches_found (stretches_in s n p)
  unfolding stretches_in heard_all lines_heard
  lines_most zero p = omega arith
  lines_most (suc n) p =
      let r = stretch_at s (hunt_from s p) in
      go (is_batch s r.start) refl (lines_most n (stretch_end r))
    where
      go : (b : Bool) → is_batch s (hunt_from s p) ≡ b
          → bytes (stretches_in s n (stretch_end (stretch_at s (hunt_from s p)))) ≤ 161 * batches_found (stretches_in s n (stretch_end (stretch_at s (hunt_from s p))))
          → bytes (cond b (stretch_at s (hunt_from s p) ∷ stretches_in s n (stretch_end (stretch_at s (hunt_from s p)))) []) ≤ 161 * batches_found (cond b (stretch_at s (hunt_from s p) ∷ stretches_in s n (stretch_end (stretch_at s (hunt_from s p)))) [])
      go true e h = one_more (stretch_at s (hunt_from s p)) (stretches_in s n (stretch_end (stretch_at s (hunt_from s p)))) (batches_some s (hunt_from s p) e) h
      go false e h = omega arith

  -- ---- number 10

  abbrev n : ℕ
  n = batches_found (stretches_of s)

  abbrev size : ℕ
  size = length (lines_heard (heard_bits s).pages)

  size_most : size ≤ 161 * n
  size_most = lines_most (8 * length s) 0

  -- the cases of an answer
  abbrev answer : Bool → Bool → Bool → Result Totals Refusal
  answer long many full = cond long (Err TooLong) (cond many (Err TooMany) (cond full (Err NoRoom) (Ok (totals_of n (heard_bits s)))))

  -- none of them is number 10
  not_full : (room : ℕ) → 48300 ≤ room → (long many full : Bool) → ltb 300 n ≡ many → ltb room size ≡ full → number_of (answer long many full) ≡ 10 → ⊥
  not_full room h true many full m f e = omega arith
  not_full room h false true full m f e = omega arith
  not_full room h false false true m f e = true_false f (le-ltb room size (omega (arith, size_most, ltb-false 300 n m)))
  not_full room h false false false m f e = omega arith

-- 48,300 bytes are enough
pub enough : Enough
unfolding receive_bits
enough s room h = not_full s room h (ltb 65536 (length s)) (ltb 300 (n s)) (ltb room (size s)) refl refl

-- ---- the answer into room for so many bytes, where it is known into 48,300 and more

module _ (s : List ℕ) where
  -- number 28, whatever the room
  pub too_long : (room : ℕ) → 65536 < length s → Err TooLong ≡ receive_bits s room
  unfolding receive_bits
  too_long room h = rw (lt-ltb 65536 (length s) h)

  -- what is known where it is received
  record Known (t : Totals) : Type 0 where
    report : t ≡ totals_of (n s) (heard_bits s)
    short : length s ≤ 65536
    few : n s ≤ 300

  received_by : {t : Totals} (long many full : Bool) → ltb 65536 (length s) ≡ long → ltb 300 (n s) ≡ many → Ok t ≡ answer s long many full → Known t
  received_by true many full l m e = let z : ◌≡◌ {A = ℕ} 0 1 = cc in absurd (omega arith)
  received_by false true full l m e = let z : ◌≡◌ {A = ℕ} 0 1 = cc in absurd (omega arith)
  received_by false false true l m e = let z : ◌≡◌ {A = ℕ} 0 1 = cc in absurd (omega arith)
  received_by false false false l m e = record { report = ap totals_received e; short = ltb-false 65536 (length s) l; few = ltb-false 300 (n s) m }

  received : (room : ℕ) {t : Totals} → Ok t ≡ receive_bits s room → Known t
  unfolding receive_bits
  received room e = received_by (ltb 65536 (length s)) (ltb 300 (n s)) (ltb room (size s)) refl refl e

  -- the report has the length of the lines
  pub bytes_received : (room : ℕ) {t : Totals} → Ok t ≡ receive_bits s room → t.bytes ≡ size s
  bytes_received room e = ap (λ (t : Totals). t.bytes) (received room e).report

  -- other room: the lines fit, or they are longer
  module _ (wide : ℕ) {t : Totals} (e : Ok t ≡ receive_bits s wide) (room : ℕ) where
    pub still_received : t.bytes ≤ room → Ok t ≡ receive_bits s room
    unfolding receive_bits
    still_received h =
        let k = received wide e in
        rw (le-ltb 65536 (length s) k.short, le-ltb 300 (n s) k.few, le-ltb room (size s) (omega (arith, bytes_received wide e))) (ap Ok k.report)

    pub no_room : room < t.bytes → Err NoRoom ≡ receive_bits s room
    unfolding receive_bits
    no_room h =
        let k = received wide e in
        rw (le-ltb 65536 (length s) k.short, le-ltb 300 (n s) k.few, lt-ltb room (size s) (omega (arith, bytes_received wide e)))

  -- what is declined into 48,300 bytes, and is not too long, has too many batches
  many_by : {why : Refusal} (many full : Bool) → (number_of (answer s false many full) ≡ 10 → ⊥) → Err why ≡ answer s false many full → ltb 300 (n s) ≡ many → 300 < n s
  many_by true full h e m = ltb-true 300 (n s) m
  many_by false true h e m = absurd (h refl)
  many_by false false h e m = let z : ◌≡◌ {A = ℕ} 0 1 = cc in absurd (omega arith)

  pub still_many : (wide room : ℕ) → 48300 ≤ wide → length s ≤ 65536 → {why : Refusal} → Err why ≡ receive_bits s wide → Err why ≡ receive_bits s room
  unfolding receive_bits
  still_many wide room h short e =
      let l = le-ltb 65536 (length s) short in
      let many : 300 < n s =
      many_by (ltb 300 (n s)) (ltb wide (size s)) (not_full s wide h false (ltb 300 (n s)) (ltb wide (size s)) refl refl)
      (e ∙ ap (λ (b : Bool). answer s b (ltb 300 (n s)) (ltb wide (size s))) l) refl in
      let same : receive_bits s wide ≡ receive_bits s room = rw (l, lt-ltb 300 (n s) many) in
      e ∙ same
