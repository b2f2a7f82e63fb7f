-- The theorem of a month of listings, proved. Assumes nothing.
use mathlib.Core.Path.{◌≡◌, refl, sym, ap, ap₂, ◌∙◌}
use mathlib.Core.Bool.{false}
use mathlib.Core.List.{List, [], ◌∷◌, ◌++◌, append-nil, Permᴰ}
use mathlib.Core.Logic.{⊎_elim}
use Prim.Native.Nat.{ℕ, suc, ◌+◌, ◌*◌, ◌≤◌, ◌<◌}
use native.Mathlib.Nat.{mul-suc}
use native.Mathlib.Omega.{arith}
use lib.ListN.{length, get_or, take, drop, length-append, length-take, length-drop, take-append-drop}
use lib.Seq.{append_snoc}
use Rattle.base.specs.Lists.{tab}
use Rattle.base.proofs.ListLaws.{tab-length, tab-at, tab_most, tab-same}
use Rattle.base.proofs.SearchLaws.{le_or_lt}
use Rattle.coverage.specs.Month.{fed, month, over_all, totals, MonthTheorem}
use Rattle.coverage.specs.Report.{no_coverage, sums, joined, coverage_of, is_over, added_to}
use Rattle.std.specs.Prelude.{Result, Ok, Err, ⊤}
use Rattle.coverage.specs.declared.AddError.{AddError}
use Rattle.coverage.specs.declared.AddError.TheVariants.{Full}
use Rattle.coverage.specs.declared.Coverage.{Coverage}
use Rattle.coverage.specs.declared.Covered.{Covered}
use Rattle.coverage.proofs.Bounds.{single_few}
use Rattle.coverage.proofs.ReportLaws.{in_bounds, passes, added_full, added_more}

-- ---- sums over listings

over_more : (f : List ℕ → ℕ) (ss : List (List ℕ)) (s : List ℕ) → over_all f (ss ++ (s ∷ [])) ≡ over_all f ss + f s
unfolding over_all
over_more f [] s = omega arith
over_more f (t ∷ ss) s = let a = over_more f ss s in omega arith

over_few : (f : List ℕ → ℕ) (b : ℕ) → ((s : List ℕ) → f s ≤ b) → (ss : List (List ℕ)) → over_all f ss ≤ b * length ss
unfolding over_all
over_few f b h [] = omega arith
over_few f b h (s ∷ ss) = omega (arith, h s, over_few f b h ss, mul-suc b (length ss))

over_same : (f : List ℕ → ℕ) {ss ts : List (List ℕ)} → Permᴰ ss ts → over_all f ss ≡ over_all f ts
unfolding over_all
over_same f Permᴰ.nil = refl
over_same f (Permᴰ.cons e d) = ap₂ ◌+◌ (ap f e) (over_same f d)
over_same f (Permᴰ.swap e d) = omega (arith, ap f e, ap f d)
over_same f (Permᴰ.trans d e) = over_same f d ∙ over_same f e

length_same : {ss ts : List (List ℕ)} → Permᴰ ss ts → length ss ≡ length ts
length_same Permᴰ.nil = refl
length_same (Permᴰ.cons e d) = ap suc (length_same d)
length_same (Permᴰ.swap e d) = refl
length_same (Permᴰ.trans d e) = length_same d ∙ length_same e

module _ (n : ℕ) (f : List ℕ → List ℕ) where
  -- n counts, each summed over listings
  abbrev counts : List (List ℕ) → List ℕ
  counts ss = tab (λ i. over_all (λ s. get_or (f s) i 0) ss) n

  counts_more : (ss : List (List ℕ)) (s : List ℕ) → sums (counts ss) (f s) ≡ counts (ss ++ (s ∷ []))
  counts_more ss s =
      ap (tab (λ i. get_or (counts ss) i 0 + get_or (f s) i 0)) (tab-length (λ i. over_all (λ s. get_or (f s) i 0) ss) n)
      ∙ tab-same (λ i. get_or (counts ss) i 0 + get_or (f s) i 0) (λ i. over_all (λ s. get_or (f s) i 0) (ss ++ (s ∷ []))) n
      (λ i h. omega (arith, tab-at (λ i. over_all (λ s. get_or (f s) i 0) ss) n i 0 h, over_more (λ s. get_or (f s) i 0) ss s))

  counts_few : ((s : List ℕ) (i : ℕ) → get_or (f s) i 0 ≤ 600) → (ss : List (List ℕ)) (i : ℕ) → get_or (counts ss) i 0 ≤ 600 * length ss
  counts_few h ss i = tab_most (λ i. over_all (λ s. get_or (f s) i 0) ss) n i (600 * length ss) (over_few (λ s. get_or (f s) i 0) 600 (λ s. h s i) ss)

  counts_same : {ss ts : List (List ℕ)} → Permᴰ ss ts → counts ss ≡ counts ts
  counts_same {ss} {ts} d =
      tab-same (λ i. over_all (λ s. get_or (f s) i 0) ss) (λ i. over_all (λ s. get_or (f s) i 0) ts) n (λ i h. over_same (λ s. get_or (f s) i 0) d)

-- ---- totals

totals_none : no_coverage ≡ totals []
unfolding over_all tab
totals_none = refl

totals_more : (ss : List (List ℕ)) (s : List ℕ) → joined (totals ss) (coverage_of s) ≡ totals (ss ++ (s ∷ []))
totals_more ss s =
    let size : length ss + (coverage_of s).listings ≡ length (ss ++ (s ∷ [])) = omega (arith, (single_few s).listings, length-append ss (s ∷ [])) in
    λ i. record {
      listings = size i;
      refused = counts_more 3 (λ t. (coverage_of t).refused) ss s i;
      frames = counts_more 32 (λ t. (coverage_of t).frames) ss s i;
      sync = counts_more 3 (λ t. (coverage_of t).sync) ss s i;
      pages = counts_more 16 (λ t. (coverage_of t).pages) ss s i;
    }

totals_same : {ss ts : List (List ℕ)} → Permᴰ ss ts → totals ss ≡ totals ts
totals_same d =
    λ i. record {
      listings = length_same d i;
      refused = counts_same 3 (λ t. (coverage_of t).refused) d i;
      frames = counts_same 32 (λ t. (coverage_of t).frames) d i;
      sync = counts_same 3 (λ t. (coverage_of t).sync) d i;
      pages = counts_same 16 (λ t. (coverage_of t).pages) d i;
    }

totals_sound : (ss : List (List ℕ)) → length ss ≤ 1000 → is_over (totals ss) ≡ false
totals_sound ss h =
    passes (totals ss)
    (record {
      listings = h;
      refused = counts_few 3 (λ t. (coverage_of t).refused) (λ s. (single_few s).refused.each) ss;
      frames = counts_few 32 (λ t. (coverage_of t).frames) (λ s. (single_few s).frames.each) ss;
      sync = counts_few 3 (λ t. (coverage_of t).sync) (λ s. (single_few s).sync.each) ss;
      pages = counts_few 16 (λ t. (coverage_of t).pages) (λ s. (single_few s).pages.each) ss;
    })

-- ---- one listing after another

-- the last answer, and the totals then
abbrev after : Result ⊤ AddError → List (List ℕ) → Covered
after a ss = record { answer = a; coverage = totals ss }

module _ (ss : List (List ℕ)) (s : List ℕ) where
  next_added : length ss < 1000 → added_to (totals ss) s ≡ after (Ok tt) (ss ++ (s ∷ []))
  next_added h =
      added_more (totals ss) s (totals_sound ss (omega arith)) (λ e. omega arith)
      ∙ ap (λ (c : Coverage). record { answer = Ok tt; coverage = c }) (totals_more ss s)

  next_full : length ss ≡ 1000 → added_to (totals ss) s ≡ after (Err Full) ss
  next_full e = added_full (totals ss) s (totals_sound ss (omega arith)) e

fed_added : (ss ts : List (List ℕ)) → length ss + length ts ≤ 1000 → fed (after (Ok tt) ss) ts ≡ after (Ok tt) (ss ++ ts)
unfolding fed
fed_added ss [] h = ap (after (Ok tt)) (sym (append-nil ss))
fed_added ss (t ∷ ts) h =
    ap (λ (k : Covered). fed k ts) (next_added ss t (omega arith))
    ∙ fed_added (ss ++ (t ∷ [])) ts (omega (arith, length-append ss (t ∷ [])))
    ∙ ap (after (Ok tt)) (append_snoc ss t ts)

fed_full : (ss ts : List (List ℕ)) → length ss ≡ 1000 → fed (after (Err Full) ss) ts ≡ after (Err Full) ss
unfolding fed
fed_full ss [] e = refl
fed_full ss (t ∷ ts) e = ap (λ (k : Covered). fed k ts) (next_full ss t e) ∙ fed_full ss ts e

fed_over : (ss ts : List (List ℕ)) → length ss ≡ 1000 → 0 < length ts → fed (after (Ok tt) ss) ts ≡ after (Err Full) ss
unfolding fed
fed_over ss [] e h = absurd (omega arith)
fed_over ss (t ∷ ts) e h = ap (λ (k : Covered). fed k ts) (next_full ss t e) ∙ fed_full ss ts e

fed_append : (k : Covered) (ss ts : List (List ℕ)) → fed k (ss ++ ts) ≡ fed (fed k ss) ts
unfolding fed
fed_append k [] ts = refl
fed_append k (s ∷ ss) ts = fed_append (added_to k.coverage s) ss ts

month_from : (ss : List (List ℕ)) → month ss ≡ fed (after (Ok tt) []) ss
month_from ss = ap (λ (c : Coverage). fed (record { answer = Ok tt; coverage = c }) ss) totals_none

month_added : (ss : List (List ℕ)) → length ss ≤ 1000 → month ss ≡ after (Ok tt) ss
month_added ss h = month_from ss ∙ fed_added [] ss (omega arith)

month_full : (ss : List (List ℕ)) → 1000 < length ss → month ss ≡ after (Err Full) (take 1000 ss)
month_full ss h =
    let front = take 1000 ss in
    let size : length front ≡ 1000 = omega (arith, length-take 1000 ss) in
    ap month (sym (take-append-drop 1000 ss))
    ∙ fed_append (record { answer = Ok tt; coverage = no_coverage }) front (drop 1000 ss)
    ∙ ap (λ (k : Covered). fed k (drop 1000 ss)) (month_added front (omega arith))
    ∙ fed_over front (drop 1000 ss) size (omega (arith, length-drop 1000 ss))

month_sound : (ss : List (List ℕ)) → is_over (month ss).coverage ≡ false
month_sound ss =
    ⊎_elim
    (λ (h : length ss ≤ 1000). ap (λ (k : Covered). is_over k.coverage) (month_added ss h) ∙ totals_sound ss h)
    (λ (h : 1000 < length ss).
    ap (λ (k : Covered). is_over k.coverage) (month_full ss h) ∙ totals_sound (take 1000 ss) (omega (arith, length-take 1000 ss)))
    (le_or_lt (length ss) 1000)

pub month_theorem : MonthTheorem
month_theorem = record {
  in_bounds = in_bounds;
  passes = passes;
  added = month_added;
  sound = month_sound;
  full = month_full;
  any_order = λ ss ts h d. month_added ss h ∙ ap (λ (c : Coverage). record { answer = Ok tt; coverage = c }) (totals_same d) ∙ sym (month_added ts (omega (arith, length_same d)));
}
