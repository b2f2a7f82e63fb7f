-- Laws of symbols: each says what its word says. Assumes nothing.
use mathlib.Core.Path.{◌≡◌, refl, ap, ◌∙◌}
use mathlib.Core.Bool.{Bool, true, false, cond}
use mathlib.Core.List.{List}
use Prim.Native.Nat.{ℕ, ◌+◌, ◌*◌, ◌/◌, ◌%◌, ◌^◌, ◌≤◌, ◌<◌}
use native.Mathlib.Omega.{arith}
use lib.Dec.{eqb, ltb}
use lib.ListN.{length, get_or, set}
use lib.Seq.{get_or-set_same, get_or-set_other}
use borrow.Author.Count.{below_more}
use borrow.Author.Tests.{lt-ltb, le-ltb, ltb-true, ne_eqb, eqb-true}
use Rattle.base.proofs.Bools.{true_false}
use Rattle.codeword.specs.Code.{idle}
use Rattle.job.specs.Line.{is_reserved}
use Rattle.reader.specs.Meaning.{flag_clear, codeword_meaning}
use Rattle.reader.specs.Symbols.{said}
use Rattle.reader.specs.declared.Meaning.{Meaning}
use Rattle.reader.specs.declared.Meaning.TheVariants.{Lost, Idle, Address, Message}

-- ---- the symbol of a codeword

pub lost_said : said 0x200000 ≡ Lost
unfolding said
lost_said = refl

idle_reserved : (x : ℕ) → x ≡ idle / 2048 → is_reserved (x / 4 * 8) ≡ true
unfolding is_reserved
idle_reserved x e = rw e

module _ (c : ℕ) where
  pub message_said : c < 2 ^ 32 → 2 ^ 20 ≤ c / 2048 → said (c / 2048) ≡ codeword_meaning c
  unfolding said codeword_meaning
  message_said h m =
      rw (le-ltb (c / 2048) (2 ^ 20) m, lt-ltb (c / 2048) (2 ^ 21) (omega arith), le-ltb c (2 ^ 31) (omega arith))

  pub idle_said : eqb c idle ≡ true → said (c / 2048) ≡ codeword_meaning c
  unfolding said codeword_meaning flag_clear is_reserved
  idle_said e = rw (eqb-true c idle e)

  module _ (m : c / 2048 < 2 ^ 20) where
    upper : c / 2048 / 4 * 8 ≡ c / 8192 * 8
    upper = omega arith

    pub reserved_said : eqb c idle ≡ false → is_reserved (c / 2048 / 4 * 8) ≡ true → said 0x200000 ≡ codeword_meaning c
    unfolding said codeword_meaning flag_clear
    reserved_said e r = rw (lt-ltb c (2 ^ 31) (omega arith), ← upper, r, e)

    pub address_said : is_reserved (c / 2048 / 4 * 8) ≡ false → said (c / 2048) ≡ codeword_meaning c
    unfolding said codeword_meaning flag_clear
    address_said r =
        let other : eqb (c / 2048) (idle / 2048) ≡ false = ne_eqb (c / 2048) (idle / 2048) (λ e. true_false (idle_reserved (c / 2048) e) r) in
        let function : c / 2048 % 4 ≡ c / 2048 % 4 = refl in
        rw (lt-ltb (c / 2048) (2 ^ 20) m, other, lt-ltb c (2 ^ 31) (omega arith), ← upper, r)

-- one symbol more of a list
pub one_said : (m : ℕ → Meaning) (l : List ℕ) (i x : ℕ) → i < length l → ((k : ℕ) → k < i → said (get_or l k 0) ≡ m k) → said x ≡ m i
    → (k : ℕ) → k < i + 1 → said (get_or (set l i x) k 0) ≡ m k
one_said m l i x h all here =
    below_more (λ (k : ℕ). said (get_or (set l i x) k 0) ≡ m k) i
    (λ k b. ap said (get_or-set_other l i k x 0 (λ e. omega arith)) ∙ all k b)
    (ap said (get_or-set_same l i x 0 h) ∙ here)

-- ---- what a symbol says, case by case, as the code goes

module _ (x : ℕ) where
  pub is_lost : 2 ^ 21 ≤ x → Lost ≡ said x
  unfolding said
  is_lost h = rw (le-ltb x (2 ^ 20) (omega arith), le-ltb x (2 ^ 21) h)

  pub is_message_lem : 2 ^ 20 ≤ x → x < 2 ^ 21 → Message (x % 2 ^ 20) ≡ said x
  unfolding said
  is_message_lem h l = rw (le-ltb x (2 ^ 20) h, lt-ltb x (2 ^ 21) l)

  pub is_idle : x ≡ idle / 2048 → Idle ≡ said x
  unfolding said
  is_idle e = rw e

  pub is_address_lem : x < 2 ^ 20 → (x ≡ idle / 2048 → ⊥) → Address (x / 4 * 8) (x % 4) ≡ said x
  unfolding said
  is_address_lem h n = rw (lt-ltb x (2 ^ 20) h, ne_eqb x (idle / 2048) n)

  pub said_message : (b : ℕ) → said x ≡ Message b → b ≡ x % 2 ^ 20
  unfolding said
  said_message b = go (ltb x (2 ^ 20)) (eqb x (idle / 2048)) (ltb x (2 ^ 21))
    where
      go : (low rests high : Bool) → cond low (cond rests Idle (Address (x / 4 * 8) (x % 4))) (cond high (Message (x % 2 ^ 20)) Lost) ≡ Message b → b ≡ x % 2 ^ 20
      go true true high e = cc
      go true false high e = cc
      go false rests true e = cc
      go false rests false e = cc

  pub said_address : (u f : ℕ) → said x ≡ Address u f → (x < 2 ^ 20) × (u ≡ x / 4 * 8) × (f ≡ x % 4)
  unfolding said
  said_address u f = go (ltb x (2 ^ 20)) refl (eqb x (idle / 2048)) (ltb x (2 ^ 21))
    where
      go : (low : Bool) → ltb x (2 ^ 20) ≡ low → (rests high : Bool) → cond low (cond rests Idle (Address (x / 4 * 8) (x % 4))) (cond high (Message (x % 2 ^ 20)) Lost) ≡ Address u f
          → (x < 2 ^ 20) × (u ≡ x / 4 * 8) × (f ≡ x % 4)
      go true l true high e = let z : ◌≡◌ {A = ℕ} 0 1 = cc in absurd (omega arith)
      go true l false high e = (ltb-true x (2 ^ 20) l, cc, cc)
      go false l rests true e = let z : ◌≡◌ {A = ℕ} 0 1 = cc in absurd (omega arith)
      go false l rests false e = let z : ◌≡◌ {A = ℕ} 0 1 = cc in absurd (omega arith)
