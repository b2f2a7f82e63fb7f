-- R-5: the wrong ones of bits 1 to 31 are worked out, all 31 places at once; why so is told beside the code.
use Rattle.std.specs.Prelude.{ℕ, ◌*◌, ◌/◌, ◌%◌, ◌^◌}
use Rattle.std.specs.Int.Bits.{bit_xor, bit_and, bit_or}

-- the checks of a polynomial of 31 coefficients: the same sum of coefficients at each turn of it
unfoldable pub checks : ℕ → ℕ
checks p =
    let twice = bit_xor p (p * 2 ^ 31 % 2 ^ 64) in
    let part = bit_xor (bit_xor twice (twice / 2 ^ 2)) (twice / 2 ^ 5) in
    bit_xor (bit_xor (bit_xor (bit_xor (bit_xor part (part / 2 ^ 1)) (part / 2 ^ 2)) (part / 2 ^ 4)) (part / 2 ^ 8)) (part / 2 ^ 16) % 2 ^ 41

-- the places that fail one of five tests: they are right
unfoldable pub right_places : ℕ → ℕ
right_places checks =
    let sum = bit_xor checks (checks / 2 ^ 1) in
    let once = bit_xor (bit_xor sum (sum / 2 ^ 2)) (checks / 2 ^ 5) % 2 ^ 31 in
    let v = bit_xor once (once * 2 ^ 31 % 2 ^ 64) in
    let c = bit_xor (bit_xor checks (bit_and v (v / 2 ^ 10))) (bit_and (v / 2 ^ 24) (v / 2 ^ 27)) in
    let first = bit_xor c (v / 2 ^ 2) in
    let second = bit_xor (c / 2 ^ 1) (v / 2 ^ 10) in
    let third = c / 2 ^ 2 in
    let fourth = bit_xor (c / 2 ^ 3) (v / 2 ^ 24) in
    let fifth = bit_xor (c / 2 ^ 4) (v / 2 ^ 13) in
    bit_or (bit_or (bit_or (bit_or first second) third) fourth) fifth

-- the bits at the others of the 31 places: they are wrong
unfoldable pub wrong_bits : ℕ → ℕ
wrong_bits checks = bit_xor (right_places checks % 2 ^ 31 * 2) 0xFFFF_FFFE
