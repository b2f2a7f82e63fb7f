-- The stretches read so far, one at a time. Assumes nothing.
use mathlib.Core.Path.{◌≡◌, refl, sym, ap, ap₂, subst, ◌∙◌}
use mathlib.Core.List.{List, [], ◌∷◌, ◌++◌}
use mathlib.Core.Logic.{⊎_elim}
use Prim.Native.Nat.{ℕ, ◌+◌, ◌-◌, ◌*◌, ◌≤◌, ◌<◌}
use native.Mathlib.Omega.{arith}
use lib.ListN.{length, take, drop, length-drop}
use lib.Seq.{take_at}
use borrow.Author.Tests.{lt-ltb, le-ltb}
use Rattle.base.specs.Lists.{over}
use Rattle.base.proofs.ListLaws.{to_end, over_behind, over_length}
use Rattle.base.proofs.SearchLaws.{le_or_lt}
use Rattle.reader.specs.Reading.{Heard}
use Rattle.reader.specs.Lines.{lines_heard}
use Rattle.reader.proofs.Laws.{lines_append}
use Rattle.receiver.specs.Bits.{bit_count}
use Rattle.receiver.specs.Stretches.{Stretch, hunt_from, batches_from, stretch_at, stretch_end, stretches_of, batches_found}
use Rattle.receiver.specs.Answers.{heard_on, nothing, then_heard, heard_all, heard_bits, totals_of, receive_bits}
use Rattle.receiver.specs.Progress.{stretches_from, Ahead, Most, Addable, added}
use Rattle.std.specs.declared.result.Result.TheVariants.{Ok, Err}
use Rattle.receiver.specs.declared.Refusal.TheVariants.{TooMany}
use Rattle.receiver.specs.declared.Totals.{Totals}
use Rattle.receiver.proofs.AddLaws.{then_nothing, nothing_then, then_assoc, added_is, most_none, most_added, most_heard}
use Rattle.receiver.proofs.StretchLaws.{hunt_on, hunt_inside, stretch_inside, stretches_none, stretches_next, stretches_all}

-- the stretches before position p are reported in t, and their lines stand over what was lent
pub record SoFar (s old : List ℕ) (p : ℕ) (t : Totals) (lines : List ℕ) : Type 0 where
  pub heard : Heard
  pub report : t ≡ totals_of t.batches heard
  pub most : Most t
  pub few : t.batches ≤ 300
  pub inside : p ≤ bit_count s
  pub all : then_heard heard (heard_all s (stretches_from s p)) ≡ heard_bits s
  pub count : t.batches + batches_found (stretches_from s p) ≡ batches_found (stretches_of s)
  pub is : lines ≡ over old (lines_heard heard.pages)

module _ (s old : List ℕ) where
  pub so_far_none : SoFar s old 0 (totals_of 0 nothing) old
  unfolding lines_heard
  so_far_none = record {
    heard = nothing;
    report = refl;
    most = most_none;
    few = omega arith;
    inside = omega arith;
    all = nothing_then (heard_all s (stretches_from s 0)) ∙ ap (heard_all s) (sym (stretches_all s));
    count = omega (arith, ap batches_found (stretches_all s));
    is = refl;
  }

  -- the next hunt ends at position q, where b batches stand
  module _ (p : ℕ) (t : Totals) {lines : List ℕ} (x : SoFar s old p t lines) (q b : ℕ) (eq : q ≡ hunt_from s p) (eb : b ≡ batches_from s q) where
    abbrev r : Stretch
    r = stretch_at s q

    size : t.bytes ≡ length (lines_heard x.heard.pages)
    size = ap (λ (u : Totals). u.bytes) x.report

    same : batches_from s (hunt_from s p) ≡ b
    same = ap (batches_from s) (sym eq) ∙ sym eb

    pub so_far_on : p ≤ q
    so_far_on = omega (arith, hunt_on s p)

    so_far_within : q ≤ bit_count s
    so_far_within = omega (arith, hunt_inside s p x.inside)

    pub so_far_behind : q + 544 * b ≤ bit_count s
    so_far_behind = omega (arith, stretch_inside s q so_far_within)

    -- ---- no batch is left
    module _ (none : b ≡ 0) where
      none_left : stretches_from s p ≡ []
      none_left = stretches_none s p (same ∙ none)

      all_heard : x.heard ≡ heard_bits s
      unfolding heard_all
      all_heard = sym (then_nothing x.heard) ∙ ap (λ (rs : List Stretch). then_heard x.heard (heard_all s rs)) (sym none_left) ∙ x.all

      all_counted : t.batches ≡ batches_found (stretches_of s)
      unfolding batches_found
      all_counted = omega (arith, ap batches_found none_left, x.count)

      pub so_far_end : (room : ℕ) → length s ≤ 65536 → 48300 ≤ room → Ok t ≡ receive_bits s room
      unfolding receive_bits
      so_far_end room short wide =
          let fits : length (lines_heard (heard_bits s).pages) ≤ room = omega (arith, ap (λ (h : Heard). length (lines_heard h.pages)) all_heard, size, x.most.bytes, x.few) in
          let report : t ≡ totals_of (batches_found (stretches_of s)) (heard_bits s) = x.report ∙ ap₂ totals_of all_counted all_heard in
          ap Ok report
          ∙ rw (le-ltb 65536 (length s) short, le-ltb 300 (batches_found (stretches_of s)) (omega (arith, all_counted, x.few)), le-ltb room (length (lines_heard (heard_bits s).pages)) fits)

      pub so_far_lines : take t.bytes lines ≡ lines_heard (heard_bits s).pages
      so_far_lines =
          let text = lines_heard x.heard.pages in
          ap (take t.bytes) x.is ∙ take_at text (drop (length text) old) t.bytes (sym size) ∙ ap (λ (h : Heard). lines_heard h.pages) all_heard

    -- ---- there is a stretch
    module _ (some : 1 ≤ b) where
      abbrev h : Heard
      h = heard_on s r

      next_found : stretches_from s p ≡ r ∷ stretches_from s (stretch_end r)
      next_found = subst (λ (z : ℕ). stretches_from s p ≡ stretch_at s z ∷ stretches_from s (stretch_end (stretch_at s z))) (sym eq) (stretches_next s p (omega (arith, same)))

      counted : t.batches + (batches_from s q + batches_found (stretches_from s (stretch_end r))) ≡ batches_found (stretches_of s)
      unfolding batches_found
      counted = ap (λ (rs : List Stretch). t.batches + batches_found rs) (sym next_found) ∙ x.count

      module _ (few : t.batches + b ≤ 300) (wide : 48300 ≤ length old) where
        so_far_length : length lines ≡ length old
        so_far_length = ap length x.is ∙ over_length old (lines_heard x.heard.pages) (omega (arith, size, x.most.bytes, x.few))

        -- there is room for its lines
        pub so_far_inside : t.bytes ≤ length lines
        so_far_inside = omega (arith, so_far_length, x.most.bytes, x.few)

        pub so_far_ahead : (words : ℕ) → 5100 ≤ words → length s ≤ 65536 → Ahead s q b words (length (take (length lines - t.bytes) (drop t.bytes lines)))
        so_far_ahead words enough short = record {
          short = short;
          inside = so_far_within;
          count = eb;
          some = some;
          few = omega arith;
          whole = omega arith;
          space = omega (arith, ap length (to_end t.bytes lines), length-drop t.bytes lines, so_far_length, x.most.bytes);
        }

        more_most : Most (totals_of b h)
        more_most = rw eb (most_heard s r (omega arith))

        -- it is added to the report, and its lines are written behind the others
        module _ {more : Totals} (em : more ≡ totals_of b h) where
          pub so_far_addable : Addable t more
          so_far_addable = rw em (record { first = x.most; second = more_most; few = few })

          pub so_far_next : {u : Totals} {part : List ℕ} → u ≡ added t more → part ≡ over (take (length lines - t.bytes) (drop t.bytes lines)) (lines_heard h.pages)
              → SoFar s old (q + 544 * b) u (take t.bytes lines ++ (part ++ drop (length lines - t.bytes) (drop t.bytes lines)))
          unfolding heard_all
          so_far_next {u} eu w =
              let sum : u ≡ added t (totals_of b h) = eu ∙ ap (added t) em in
              let end : stretch_end r ≡ q + 544 * b = omega arith in
              rw sum
              (record {
                heard = then_heard x.heard h;
                report = ap (λ (v : Totals). added v (totals_of b h)) x.report ∙ added_is t.batches b x.heard h;
                most = most_added x.most more_most;
                few = few;
                inside = so_far_behind;
                all =
                    then_assoc x.heard h (heard_all s (stretches_from s (q + 544 * b)))
                    ∙ ap (λ (e : ℕ). then_heard x.heard (then_heard h (heard_all s (stretches_from s e)))) (sym end)
                    ∙ ap (λ (rs : List Stretch). then_heard x.heard (heard_all s rs)) (sym next_found) ∙ x.all;
                count = omega (arith, counted, ap (λ (e : ℕ). batches_found (stretches_from s e)) end);
                is =
                    over_behind old (lines_heard x.heard.pages) (lines_heard h.pages) t.bytes x.is (sym size) so_far_inside w
                    ∙ ap (over old) (sym (lines_append x.heard.pages h.pages));
              })

  -- no more batches are reported and counted next than there are
  pub so_far_counted : (p : ℕ) (t : Totals) {lines : List ℕ} → SoFar s old p t lines → t.batches + batches_from s (hunt_from s p) ≤ batches_found (stretches_of s)
  so_far_counted p t x =
      let q = hunt_from s p in
      let b = batches_from s q in
      ⊎_elim (λ (l : 1 ≤ b). omega (arith, counted p t x q b refl refl l)) (λ (l : b < 1). omega (arith, x.count)) (le_or_lt 1 b)

-- a 301st batch is found
pub too_many : (s : List ℕ) (room : ℕ) → length s ≤ 65536 → 300 < batches_found (stretches_of s) → Err TooMany ≡ receive_bits s room
unfolding receive_bits
too_many s room short many = rw (le-ltb 65536 (length s) short, lt-ltb 300 (batches_found (stretches_of s)) many)

-- where a recording is declined no lines are written
pub none_written : (lines : List ℕ) → take (totals_of 0 nothing).bytes lines ≡ []
unfolding lines_heard
none_written lines = refl
