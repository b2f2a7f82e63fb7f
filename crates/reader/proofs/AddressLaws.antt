-- What an address says. Assumes nothing.
use mathlib.Core.Path.{◌≡◌, refl}
use mathlib.Core.Bool.{Bool, true, false, cond}
use Rattle.std.specs.Prelude.{None, Some}
use Prim.Native.Nat.{ℕ, ◌*◌, ◌/◌, ◌%◌, ◌^◌}
use native.Mathlib.Omega.{arith}
use lib.Dec.{eqb, ltb}
use borrow.Author.Tests.{ltb-true}
use Rattle.codeword.specs.Code.{idle}
use Rattle.job.specs.Line.{is_reserved}
use Rattle.reader.specs.Addressed.{Addressed, AllAddressed}
use Rattle.reader.specs.Meaning.{flag_clear, codeword_meaning}
use Rattle.reader.specs.declared.Meaning.TheVariants.{Lost, Idle, Address, Message}

codeword_addressed : (c u f : ℕ) → codeword_meaning c ≡ Address u f → Addressed u f
unfolding codeword_meaning flag_clear
codeword_addressed c u f = go (ltb c (2 ^ 31)) refl (is_reserved (c / 8192 * 8)) (eqb c idle)
  where
    go : (low : Bool) → ltb c (2 ^ 31) ≡ low → (reserved rests : Bool)
        → cond low (cond reserved (cond rests Idle Lost) (Address (c / 8192 * 8) (c / 2048 % 4))) (Message (c / 2048 % 1048576)) ≡ Address u f
        → Addressed u f
    go true l true true e = let z : ◌≡◌ {A = ℕ} 0 1 = cc in absurd (omega arith)
    go true l true false e = let z : ◌≡◌ {A = ℕ} 0 1 = cc in absurd (omega arith)
    go true l false rests e =
        let a : u ≡ c / 8192 * 8 = cc in
        let b : f ≡ c / 2048 % 4 = cc in
        record { low = omega arith; high = omega (arith, ltb-true c (2 ^ 31) l); function = omega arith }
    go false l reserved rests e = let z : ◌≡◌ {A = ℕ} 0 1 = cc in absurd (omega arith)

pub addressed : AllAddressed
addressed None u f e = let z : ◌≡◌ {A = ℕ} 0 1 = cc in absurd (omega arith)
addressed (Some c) u f e = codeword_addressed c u f e
