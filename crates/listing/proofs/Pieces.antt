-- A text's whole pieces of 18 bytes, as `chunks_exact` gives them. Assumes nothing.
use Prim.Native.Nat.{ℕ, suc, ◌/◌}
use mathlib.Core.Path.{◌≡◌, sym, ◌∙◌}
use mathlib.Core.List.{List, ◌++◌}
use native.Mathlib.Omega.{arith}
use lib.ListN.{length, length-append}
use lib.Seq.{take_at, drop_at}
use Rattle.std.specs.Slice.Iter.{chunks_exact_rest, chunks_exact_size, chunks_exact_steps}
use Rattle.std.specs.Simd.{first_chunks}
use Rattle.std.proofs.lemmas.Iterator.{YieldsList}
use Rattle.std.proofs.lemmas.Iterator.Splits.{YieldsList-from_shown_while}

pub pieces_given : {s : _} (d : List ℕ) → chunks_exact_rest s ≡ d → chunks_exact_size s ≡ 18 → YieldsList chunks_exact_steps (λ x. x.now) s (first_chunks 18 (length d / 18) d)
pieces_given {s} d rest size =
    let shown = λ (t : _). first_chunks 18 (length (chunks_exact_rest t) / 18) (chunks_exact_rest t) in
    rw (sym rest) (YieldsList-from_shown_while chunks_exact_steps (λ x. x.now) shown (λ t. chunks_exact_size t ≡ 18)
    (λ t u h k. let z : length (chunks_exact_rest t) / 18 ≡ 0 = omega (arith, k.1.0) in rw z)
    (λ t x u h k.
    let cut = k.1.0 in
    let long : length x.now ≡ 18 = k.1.1 ∙ h in
    let z : length (x.now ++ chunks_exact_rest u) / 18 ≡ suc (length (chunks_exact_rest u) / 18) = omega (arith, length-append x.now (chunks_exact_rest u)) in
    (k.0 ∙ h, rw (cut, z, take_at x.now (chunks_exact_rest u) 18 long, drop_at x.now (chunks_exact_rest u) 18 long)))
    s size)
