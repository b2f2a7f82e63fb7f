-- The correction theorem, proved. Assumes nothing.
use mathlib.Core.Path.{◌≡◌, refl, ap}
use Rattle.std.specs.Prelude.{Option, None, Some}
use Prim.Native.Nat.{ℕ}
use native.Mathlib.Omega.{arith}
use Rattle.codeword.specs.Answer.{answer, number_of, changed_of}
use Rattle.codeword.specs.Code.{address_bits, message_bits}
use Rattle.codeword.specs.CorrectionTheorem.{CorrectionTheorem}
use Rattle.codeword.specs.Nearest.{nearest}
use Rattle.codeword.proofs.CodeLaws.{codeword_obeying, sync_obeying, idle_obeying}
use Rattle.codeword.proofs.Linear.{remainder_xor}
use Rattle.codeword.proofs.NearestLaws.{changed_few, nearest_is, nearest_near, nearest_none, none_near}
use Rattle.codeword.proofs.ThreeFlips.{three_far}
use Rattle.codeword.proofs.Unique.{unique}

-- number 20 says that there is no corrected word
number_none : (w : ℕ) (o : Option ℕ) → number_of (answer w o) ≡ 20 → o ≡ None
number_none w None e = refl
number_none w (Some c) e = absurd (omega arith)

pub correction_theorem : CorrectionTheorem
correction_theorem =
    record {
      linear = remainder_xor 31;
      of_sync = sync_obeying;
      of_idle = idle_obeying;
      of_bits = codeword_obeying;
      of_address = λ identity function. codeword_obeying (address_bits identity function) (omega arith);
      of_message = λ bits. codeword_obeying (message_bits bits) (omega arith);
      at_most_one = unique;
      reads = λ w c h n. nearest_is w h c n;
      reads_near = λ w c h e. nearest_near w h c e;
      refuses = nearest_none;
      counts = λ w c h n. ap (λ (o : Option ℕ). changed_of (answer w o)) (nearest_is w h c n);
      counts_few = λ w h. changed_few w;
      refusal = λ w h f. (ap (λ (o : Option ℕ). number_of (answer w o)) (nearest_none w h f), refl);
      refusal_far = λ w h e. none_near w h (number_none w (nearest w) e);
      counts_none = λ w h f. ap (λ (o : Option ℕ). changed_of (answer w o)) (nearest_none w h f);
      three_far = λ w c h o e. three_far w c h o (omega arith);
    }
