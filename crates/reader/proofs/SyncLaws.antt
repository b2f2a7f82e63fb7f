-- A word corrects to sync exactly if at most two bits differ, and these are the bits that are changed. Assumes nothing.
use mathlib.Core.Path.{◌≡◌, refl, sym, ap, ◌∙◌}
use mathlib.Core.Bool.{true, false, not, not-not}
use mathlib.Core.List.{List}
use mathlib.Core.Logic.{⊎_elim}
use Rattle.std.specs.Prelude.{Option, None, Some}
use Prim.Native.Nat.{ℕ, ◌/◌, ◌^◌, ◌≤◌, ◌<◌}
use native.Mathlib.Omega.{arith}
use lib.Bits.{bit_xor}
use lib.Dec.{leb}
use lib.ListN.{length}
use borrow.Author.Tests.{le-leb, lt-leb, eqb-true, ne_eqb}
use Rattle.base.specs.Search.{sum}
use Rattle.base.proofs.Bools.{true_false}
use Rattle.base.proofs.SearchLaws.{least_is, le_or_lt, sum_cong}
use Rattle.codeword.specs.Answer.{answer, changed_of, changed}
use Rattle.codeword.specs.Code.{sync}
use Rattle.codeword.specs.Nearest.{distance, nearest}
use Rattle.codeword.proofs.CodeLaws.{weight_few}
use Rattle.codeword.proofs.NearestLaws.{nearest_near, sync_near}
use Rattle.reader.specs.Meaning.{is_sync}
use Rattle.reader.specs.Changed.{syncs_changed}
use Rattle.reader.specs.Reading.{sync_word}
use Rattle.reader.specs.Answers.{unsynced, first_unsynced}
use Rattle.reader.specs.Readable.{SyncSame}

pub sync_few : (w : ℕ) → distance w sync ≤ 32
unfolding distance
sync_few w = weight_few (bit_xor w sync)

module _ (w : ℕ) (h : w < 2 ^ 32) where
  far : (o : Option ℕ) → nearest w ≡ o → 2 < distance w sync → is_sync o ≡ false
  far None e d = refl
  far (Some c) e d = ne_eqb c sync (λ s. omega (arith, (nearest_near w h sync (e ∙ ap Some s)).close))

  pub sync_test : (n : ℕ) → n ≡ distance w sync → leb n 2 ≡ is_sync (nearest w)
  sync_test n e =
      ⊎_elim (λ d. le-leb n 2 (omega arith) ∙ sym (ap is_sync (sync_near w h d))) (λ d. lt-leb n 2 (omega arith) ∙ sym (far (nearest w) refl d))
      (le_or_lt (distance w sync) 2)

as_sync : (w : ℕ) (o : Option ℕ) → is_sync o ≡ true → distance w sync ≡ changed_of (answer w o)
as_sync w None e = absurd (true_false e refl)
as_sync w (Some c) e = ap (distance w) (sym (eqb-true c sync e))

-- where all batches begin with sync
module _ (words : List ℕ) (h : length words / 17 ≤ first_unsynced words) where
  same : (q : ℕ) → q < length words / 17 → distance (sync_word words q) sync ≡ changed (sync_word words q)
  unfolding first_unsynced
  same q l =
      as_sync (sync_word words q) (nearest (sync_word words q))
      (sym (not-not _) ∙ ap not ((least_is (unsynced words) (length words / 17)).before q (omega arith)))

  pub syncs_same : sum (λ q. distance (sync_word words q) sync) (length words / 17) ≡ syncs_changed (sync_word words) (length words / 17)
  syncs_same = sum_cong (λ q. distance (sync_word words q) sync) (λ q. changed (sync_word words q)) (length words / 17) same

pub sync_same : SyncSame
sync_same words r = same words r.synced
