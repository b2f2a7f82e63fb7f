-- Characters by way of the bits of groups, of which the first is on top and a character's lowest. Assumes nothing.
use mathlib.Core.Path.{◌≡◌, refl, sym, ap, ◌∙◌}
use mathlib.Core.Bool.{◌||◌}
use mathlib.Core.List.{List}
use Prim.Native.Nat.{ℕ, ◌+◌, ◌-◌, ◌*◌, ◌/◌, ◌%◌, ◌^◌, ◌≤◌, ◌<◌}
use native.Mathlib.Omega.{arith}
use lib.Dec.{eqb}
use lib.ListN.{length, get_or}
use lib.Pow.{shr-shr, high, low, field, mod-mod-pow, mod-pow-add}
use Rattle.base.specs.Hex.{digit_of}
use Rattle.base.specs.Lists.{tab}
use Rattle.base.proofs.ListLaws.{tab-at}
use Rattle.text.specs.Coding.{bits_from, turned_of}
use Rattle.text.specs.Heard.{bit_in, from_low, char_in, char_heard, whole_in, ends}
use Rattle.text.specs.Window.{Window}
use Rattle.text.specs.declared.Bits.{Bits}
use Rattle.text.specs.declared.Coding.TheVariants.{Numeric, Alphanumeric}
use Rattle.text.proofs.PackLaws.{turned_cut}
use Rattle.text.proofs.BitLaws.{low_same, low_bit, bits_back, bits_of, bits_add, bits_small, turned_low}

-- ---- bits turned round

turned_bits : (bit : ℕ → ℕ) → ((p : ℕ) → bit p ≤ 1) → (at n : ℕ) → turned_of n (bits_from bit at n 0) ≡ from_low (λ b. bit (at + b)) n
turned_bits bit small at n =
    turned_low n (bits_from bit at n 0)
    ∙ low_same (λ b. bits_from bit at n 0 / 2 ^ (n - (b + 1)) % 2) (λ b. bit (at + b)) n
    (λ b h.
    let e : at + (n - (n - (b + 1) + 1)) ≡ at + b = omega arith in
    ap (λ (x : ℕ). x / 2 ^ (n - (b + 1)) % 2) (bits_back bit at n)
    ∙ low_bit (λ k. bit (at + (n - (k + 1)))) (λ k. small (at + (n - (k + 1)))) n (n - (b + 1)) (omega arith)
    ∙ ap bit e)

-- ---- characters

module _ (gs : List ℕ) where
  pub numeric_bits : (i : ℕ) → turned_of 4 (get_or gs (i / 5) 0 / 2 ^ (16 - 4 * (i % 5)) % 16) ≡ char_in Numeric gs i
  numeric_bits i =
      let g = get_or gs (i / 5) 0 in
      let s = 16 - 4 * (i % 5) in
      turned_cut 4 (g / 2 ^ s)
      ∙ turned_low 4 (g / 2 ^ s)
      ∙ low_same (λ b. g / 2 ^ s / 2 ^ (4 - (b + 1)) % 2) (λ b. bit_in gs (4 * i + b)) 4
      (λ b h.
      let q : (4 * i + b) / 20 ≡ i / 5 = omega arith in
      let r : s + (4 - (b + 1)) ≡ 19 - (4 * i + b) % 20 = omega arith in
      rw q (ap (λ (x : ℕ). x % 2) (shr-shr g s (4 - (b + 1)) ∙ ap (λ (n : ℕ). g / 2 ^ n) r)))

  alphanumeric_bits : (i : ℕ) → turned_of 7 (bits_from (bit_in gs) (7 * i) 7 0) ≡ char_in Alphanumeric gs i
  alphanumeric_bits i = turned_bits (bit_in gs) (λ p. omega arith) (7 * i) 7

  -- the bits of a group
  group_bits : (g : ℕ) → bits_from (bit_in gs) (20 * g) 20 0 ≡ get_or gs g 0 % 2 ^ 20
  group_bits g =
      bits_of (bit_in gs) (20 * g) 20 (get_or gs g 0)
      (λ b h.
      let q : (20 * g + (20 - (b + 1))) / 20 ≡ g = omega arith in
      let r : 19 - (20 * g + (20 - (b + 1))) % 20 ≡ b = omega arith in
      rw (q, r))

  -- ---- the window

  pub window_none : Window gs 0 (record { window = 0; have = 0; next = 0 })
  unfolding bits_from
  window_none = record { few = omega arith; up = refl; inside = omega arith; bits = refl }

  module _ (at : ℕ) (b : Bits) (w : Window gs at b) where
    -- one group more
    pub window_more : b.have < 7 → b.next < length gs
        → Window gs at (record { window = b.window % 128 * 1048576 + get_or gs b.next 0 % 1048576; have = b.have + 20; next = b.next + 1 })
    window_more h l =
        let g = get_or gs b.next 0 in
        let x = b.window % 2 ^ 7 * 2 ^ 20 + g % 2 ^ 20 in
        let seven : 7 ≡ 7 - b.have + b.have = omega arith in
        let old : b.window % 2 ^ 7 % 2 ^ b.have ≡ bits_from (bit_in gs) at b.have 0
        = ap (λ (n : ℕ). b.window % 2 ^ n % 2 ^ b.have) seven ∙ mod-mod-pow b.window (7 - b.have) b.have ∙ w.bits in
        let new : bits_from (bit_in gs) (at + b.have) 20 0 ≡ g % 2 ^ 20 = ap (λ (p : ℕ). bits_from (bit_in gs) p 20 0) w.up ∙ group_bits b.next in
        let cut : x % 2 ^ (b.have + 20) ≡ bits_from (bit_in gs) at b.have 0 * 2 ^ 20 + g % 2 ^ 20
        = mod-pow-add x b.have 20
        ∙ rw (high (b.window % 2 ^ 7) 20 {lo = g % 2 ^ 20} (omega arith), low (b.window % 2 ^ 7) 20 {lo = g % 2 ^ 20} (omega arith), old) in
        record {
          few = omega arith;
          up = omega (arith, w.up);
          inside = omega arith;
          bits = cut ∙ sym (bits_add (bit_in gs) at b.have 20 ∙ rw new);
        }

    module _ (h : 7 ≤ b.have) where
      whole : b.window % 2 ^ (7 + (b.have - 7)) ≡ bits_from (bit_in gs) at 7 0 * 2 ^ (b.have - 7) + bits_from (bit_in gs) (at + 7) (b.have - 7) 0
      whole =
          let e : 7 + (b.have - 7) ≡ b.have = omega arith in
          rw e w.bits ∙ ap (λ (n : ℕ). bits_from (bit_in gs) at n 0) (sym e) ∙ bits_add (bit_in gs) at 7 (b.have - 7)

      behind_small : bits_from (bit_in gs) (at + 7) (b.have - 7) 0 < 2 ^ (b.have - 7)
      behind_small = bits_small (bit_in gs) (λ p. omega arith) (at + 7) (b.have - 7)

      -- the first seven bits, and those behind them
      window_front : b.window / 2 ^ (b.have - 7) % 128 ≡ bits_from (bit_in gs) at 7 0
      window_front = sym (field b.window 7 (b.have - 7)) ∙ ap (λ (x : ℕ). x / 2 ^ (b.have - 7)) whole ∙ high (bits_from (bit_in gs) at 7 0) (b.have - 7) behind_small

      window_behind : Window gs (at + 7) (record { window = b.window; have = b.have - 7; next = b.next })
      window_behind =
          record {
            few = omega (arith, w.few);
            up = omega (arith, w.up);
            inside = w.inside;
            bits = sym (mod-mod-pow b.window 7 (b.have - 7)) ∙ ap (λ (x : ℕ). x % 2 ^ (b.have - 7)) whole ∙ low (bits_from (bit_in gs) at 7 0) (b.have - 7) behind_small;
          }

-- ---- seven bits: their digits, and whether they end a text, computed for each of the 128

same_at {ℓ} : {A : Type ℓ} (f g : ℕ → A) (n : ℕ) → tab f n ≡ tab g n → (i : ℕ) → i < n → f i ≡ g i
same_at f g n e i h = sym (tab-at f n i (f i) h) ∙ ap (λ t. get_or t i (f i)) e ∙ tab-at g n i (f i) h

high_digit : (y : ℕ) → y < 128 → turned_of 4 (y % 8 * 2 % 16) ≡ turned_of 7 y / 16
unfolding tab turned_of bits_from
high_digit = same_at (λ y. turned_of 4 (y % 8 * 2 % 16)) (λ y. turned_of 7 y / 16) 128 refl

low_digit : (y : ℕ) → y < 128 → turned_of 4 (y / 8 % 16) ≡ turned_of 7 y % 16
unfolding tab turned_of bits_from
low_digit = same_at (λ y. turned_of 4 (y / 8 % 16)) (λ y. turned_of 7 y % 16) 128 refl

pub ends_bits : (y : ℕ) → y < 128 → eqb y 0 || (eqb y 16 || eqb y 96) ≡ ends (turned_of 7 y)
unfolding tab turned_of bits_from
ends_bits = same_at (λ y. eqb y 0 || (eqb y 16 || eqb y 96)) (λ y. ends (turned_of 7 y)) 128 refl

-- ---- the character whose bits are the first of the window

module _ (gs : List ℕ) (i : ℕ) (b : Bits) (w : Window gs (7 * i) b) (h : 7 ≤ b.have) where
  abbrev front : ℕ
  front = b.window / 2 ^ (b.have - 7) % 128

  front_char : turned_of 7 front ≡ char_in Alphanumeric gs i
  front_char = ap (turned_of 7) (window_front gs (7 * i) b w h) ∙ alphanumeric_bits gs i

  pub front_inside : i < whole_in Alphanumeric (length gs)
  front_inside = omega (arith, w.up, w.inside)

  pub front_ends : ends (turned_of 7 front) ≡ ends (char_heard Alphanumeric gs i)
  front_ends = ap ends front_char

  pub front_high : digit_of (turned_of 4 (front % 8 * 2 % 16)) ≡ digit_of (char_heard Alphanumeric gs i / 16)
  front_high = ap digit_of (high_digit front (omega arith) ∙ ap (λ (v : ℕ). v / 16) front_char)

  pub front_low : digit_of (turned_of 4 (front / 8 % 16)) ≡ digit_of (char_heard Alphanumeric gs i % 16)
  front_low = ap digit_of (low_digit front (omega arith) ∙ ap (λ (v : ℕ). v % 16) front_char)

  pub front_next : Window gs (7 * (i + 1)) (record { window = b.window; have = b.have - 7; next = b.next })
  front_next = let e : 7 * (i + 1) ≡ 7 * i + 7 = omega arith in rw e (window_behind gs (7 * i) b w h)
