-- The words of sendings: each is corrected to what was sent, and says what its slot holds. Assumes nothing.
use mathlib.Core.Path.{◌≡◌, refl, ◌∙◌}
use mathlib.Core.Bool.{true, false}
use mathlib.Core.List.{List}
use Rattle.std.specs.Prelude.{None, Some}
use Prim.Native.Nat.{ℕ, ◌+◌, ◌*◌, ◌/◌, ◌%◌, ◌^◌, ◌≤◌, ◌<◌}
use native.Mathlib.Omega.{arith}
use lib.ListN.{get_or}
use lib.Dec.{ltb}
use borrow.Author.Tests.{lt-ltb, le-ltb}
use Rattle.codeword.specs.Code as code
use Rattle.codeword.specs.Code.{address_bits, message_bits}
use Rattle.codeword.specs.Nearest.{distance, nearest}
use Rattle.codeword.specs.CorrectionTheorem.{Obeying}
use Rattle.codeword.proofs.CodeLaws.{codeword_front}
use Rattle.codeword.proofs.CorrectionTheorem.{correction_theorem}
use Rattle.job.specs.Line.{is_reserved}
use Rattle.placement.specs.Placement.{Content, idle, address, message}
use Rattle.placement.specs.Promise.{Holds, nothing, its_address, its_message}
use Rattle.transmission.specs.Sending.{Sending, sending_at, placement_of, AllAllowed}
use Rattle.transmission.specs.Transmission.{codewords_of, codeword_in}
use Rattle.transmission.proofs.Sendings.{pages_are}
use Rattle.reader.specs.Meaning.{flag_clear, codeword_meaning}
use Rattle.reader.specs.Changed.{unless_lost}
use Rattle.reader.specs.declared.Meaning.{Meaning}
use Rattle.reader.specs.declared.Meaning.TheVariants.{Idle, Address, Message}

-- ---- flips vanish

obeying : (xs : List Sending) (c : Content) → Obeying (codeword_in (codewords_of xs) c)
unfolding codeword_in
obeying xs idle = correction_theorem.of_idle
obeying xs (address i) = correction_theorem.of_address _ _
obeying xs (message i j) = correction_theorem.of_message _

-- a word at most two bits away from what was sent is corrected to it
pub corrected : (xs : List Sending) (c : Content) (w : ℕ) → w < 2 ^ 32 → distance w (codeword_in (codewords_of xs) c) ≤ 2
    → nearest w ≡ Some (codeword_in (codewords_of xs) c)
corrected xs c w h d = correction_theorem.reads w (codeword_in (codewords_of xs) c) h (record { codeword = obeying xs c; close = d })

-- one that is three bits away is refused
pub refused : (xs : List Sending) (c : Content) (w : ℕ) → w < 2 ^ 32 → distance w (codeword_in (codewords_of xs) c) ≡ 3 → nearest w ≡ None
refused xs c w h d = correction_theorem.refuses w h (correction_theorem.three_far w (codeword_in (codewords_of xs) c) h (obeying xs c) d)

-- ---- what the words say

address_says : (c id f : ℕ) → c / 2048 ≡ id / 8 * 4 + f → id < 2 ^ 21 → f < 4 → is_reserved id ≡ false → codeword_meaning c ≡ Address (id / 8 * 8) f
unfolding codeword_meaning flag_clear is_reserved
address_says c id f e hi hf r =
    let upper : c / 8192 ≡ id / 8 = omega arith in
    let low : c / 2048 % 4 ≡ f = omega arith in
    let clear : ltb c (2 ^ 31) ≡ true = lt-ltb c (2 ^ 31) (omega arith) in
    let whole : id / 8 * 8 / 8 ≡ id / 8 = omega arith in
    rw (clear, upper, low, whole, r)

group_says : (c b : ℕ) → c / 2048 ≡ 1048576 + b → b < 2 ^ 20 → codeword_meaning c ≡ Message b
unfolding codeword_meaning
group_says c b e h =
    let low : c / 2048 % 1048576 ≡ b = omega arith in
    let set : ltb c (2 ^ 31) ≡ false = le-ltb c (2 ^ 31) (omega arith) in
    rw (set, low)

idle_says : codeword_meaning code.idle ≡ Idle
unfolding codeword_meaning flag_clear is_reserved
idle_says = refl

-- what the word of a slot with these contents says
abbrev pub meaning_in : List Sending → Content → Meaning
meaning_in xs idle = Idle
meaning_in xs (address i) = Address ((sending_at xs i).identity / 8 * 8) (sending_at xs i).function
meaning_in xs (message i j) = Message (get_or (sending_at xs i).groups j 0)

pub says : {xs : List Sending} → AllAllowed xs → (s : ℕ) (c : Content) → Holds (placement_of xs) s c
    → codeword_meaning (codeword_in (codewords_of xs) c) ≡ meaning_in xs c
unfolding codeword_in
says {xs} a s c nothing = idle_says
says {xs} a s c (its_address i l q) =
    let x = a.each i (omega (arith, pages_are xs)) in
    let id = (sending_at xs i).identity in
    let f = (sending_at xs i).function in
    let bits : address_bits id f ≡ id / 8 * 4 + f = omega (arith, x.in_range, x.two_bits) in
    address_says (code.codeword (address_bits id f)) id f (codeword_front (address_bits id f) (omega arith) ∙ bits)
    x.in_range x.two_bits x.free
says {xs} a s c (its_message i j l m q) =
    let x = a.each i (omega (arith, pages_are xs)) in
    let b = get_or (sending_at xs i).groups j 0 in
    let h : b < 2 ^ 20 = x.small j in
    let bits : message_bits b ≡ 1048576 + b = omega (arith, h) in
    group_says (code.codeword (message_bits b)) b (codeword_front (message_bits b) (omega arith) ∙ bits) h

-- the bits changed in it count
pub sent_counts : (xs : List Sending) (c : Content) (n : ℕ) → unless_lost (meaning_in xs c) n ≡ n
sent_counts xs idle n = refl
sent_counts xs (address i) n = refl
sent_counts xs (message i j) n = refl
