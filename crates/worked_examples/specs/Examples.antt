-- The worked examples of document 01 that it marks to be proved: one table, and what each row says of the definitions.
-- `examples_hold` in proofs/Examples.antt proves it.
use Rattle.std.specs.Prelude.{◌≡◌, List, [], ◌∷◌, ℕ}
use Rattle.codeword.specs.Answer.{corrected_to, answer, number_of}
use Rattle.codeword.specs.Code.{codeword, address_bits, message_bits}
use Rattle.codeword.specs.Nearest.{nearest}
use Rattle.text.specs.Coding.{groups_in}
use Rattle.text.specs.declared.Coding.{Coding}
use Rattle.text.specs.declared.Coding.TheVariants.{Numeric, Alphanumeric}

pub data Example : Type 0 where
  address : ℕ → ℕ → ℕ → Example  -- an identity, a function and their codeword
  message : ℕ → ℕ → Example  -- 20 message bits and their codeword
  group : Coding → List ℕ → ℕ → Example  -- a coding, a text's bytes and the bits of its one group
  reads : ℕ → ℕ → ℕ → Example  -- a received word, the corrected one, and how many bits are changed (R-2)
  refused : ℕ → Example  -- a received word that gives number 20

abbrev pub Holds : Example → Type 0
Holds (address i f w) = codeword (address_bits i f) ≡ w
Holds (message b w) = codeword (message_bits b) ≡ w
Holds (group c bytes b) = groups_in c bytes ≡ b ∷ []
Holds (reads w c n) = answer w (nearest w) ≡ corrected_to c n
Holds (refused w) = number_of (answer w (nearest w)) ≡ 20

abbrev pub AllHold : List Example → Type 0
AllHold [] = Unit {0}
AllHold (e ∷ es) = Holds e × AllHold es

abbrev pub examples : List Example
examples =
    address 0 0 0x00000000
    ∷ address 0 1 0x00000ED3
    ∷ address 0 2 0x00001376
    ∷ address 0 3 0x00001DA5
    ∷ message 0 0x80000769
    ∷ group Numeric (49 ∷ 50 ∷ []) 0x84333
    ∷ message 0x84333 0xC2199DEA
    ∷ address 9 0 0x000026EC
    ∷ reads 0x00000003 0x00000000 2
    ∷ reads 0x80000000 0x00000000 1
    ∷ refused 0x00000007
    ∷ group Alphanumeric (65 ∷ []) 0x82000
    ∷ []
