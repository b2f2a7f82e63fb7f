-- A word with the bits flipped that explain its syndrome is the nearest codeword. Assumes nothing.
use mathlib.Core.Path.{◌≡◌, sym, ap, ◌∙◌, subst}
use Rattle.std.specs.Prelude.{None, Some}
use Prim.Native.Nat.{ℕ, ◌^◌, ◌≤◌, ◌<◌}
use lib.Bits.{bit_xor, xor_lt, xor_self}
use Rattle.codeword.specs.Code.{weight}
use Rattle.codeword.specs.Nearest.{distance, nearest}
use Rattle.codeword.proofs.CodeLaws.{syndrome_obeys}
use Rattle.codeword.proofs.Linear.{syndrome_xor}
use Rattle.codeword.proofs.NearestLaws.{nearest_is, nearest_none}
use Rattle.codeword.proofs.Syndrome.{syndrome, Explains}
use Rattle.codeword.proofs.Unique.{error_syndrome}
use Rattle.codeword.proofs.XorLaws.{xor_cancel}

module _ (w : ℕ) (hw : w < 2 ^ 32) where
  -- at most two bits flipped that explain the syndrome give the nearest codeword
  pub corrected : (e : ℕ) → Explains (syndrome w) e → nearest w ≡ Some (bit_xor w e)
  unfolding distance
  corrected e x =
      let hc : bit_xor w e < 2 ^ 32 = xor_lt 32 w e hw x.fits in
      nearest_is w hw (bit_xor w e)
      (record {
        codeword = record {
          fits = hc;
          obeying = syndrome_obeys (bit_xor w e) hc
              (syndrome_xor w e ∙ ap (bit_xor (syndrome w)) x.explains ∙ xor_self (syndrome w));
        };
        close = subst (λ (x : ℕ). weight x ≤ 2) (sym (xor_cancel w e)) x.few;
      })

  -- where nothing explains it there is none
  pub refused : ((e : ℕ) → Explains (syndrome w) e → ⊥) → nearest w ≡ None
  unfolding distance
  refused f =
      nearest_none w hw
      (λ c n.
      f (bit_xor w c)
      (record {
        fits = xor_lt 32 w c hw n.codeword.fits;
        few = n.close;
        explains = error_syndrome w c n.codeword;
      }))
