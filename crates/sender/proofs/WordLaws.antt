-- Laws of the message codewords of sendings: how many there are, and where each stands. Assumes nothing.
use Prim.Native.Nat.{ℕ, zero, suc, ◌+◌, ◌-◌, ◌≤◌, ◌<◌, zero-le}
use mathlib.Core.Path.{◌≡◌, refl, sym, ap, ◌∙◌}
use mathlib.Core.List.{List, [], ◌∷◌, ◌++◌, map, append-nil, append_assoc}
use native.Mathlib.Nat.{not-suc-le-zero, le_of_suc-le-suc}
use native.Mathlib.Omega.{arith}
use lib.ListN.{length, get_or, take, replicate, length-append, get_or-append}
use lib.Seq.{get_or-append-add, take-length}
use Rattle.base.specs.Search.{sum}
use Rattle.base.specs.Lists.{padded}
use Rattle.base.proofs.ListLaws.{tab-length}
use Rattle.placement.specs.Placement.{messages}
use Rattle.transmission.specs.Sending.{Sending, sending_at, placement_of}
use Rattle.transmission.specs.Transmission.{message_of}
use Rattle.transmission.proofs.Sendings.{words_at, pages_are}
use Rattle.sender.specs.Start.{messages_of, words_of, start_at}

-- ---- lists

-- an element of a mapped list
pub map_at {ℓ κ} : {A : Type ℓ} {B : Type κ} (f : A → B) (l : List A) (i : ℕ) (d : B) (e : A) → i < length l → get_or (map f l) i d ≡ f (get_or l i e)
map_at f [] i d e h = absurd (not-suc-le-zero h)
map_at f (x ∷ l) zero d e h = refl
map_at f (x ∷ l) (suc i) d e h = map_at f l i d e (le_of_suc-le-suc h)

zero_at : (m i : ℕ) → ◌≡◌ {A = ℕ} (get_or (replicate m 0) i 0) 0
zero_at zero i = refl
zero_at (suc m) zero = refl
zero_at (suc m) (suc i) = zero_at m i

behind_zeros : (xs : List ℕ) (m i : ℕ) → get_or (xs ++ replicate m 0) i 0 ≡ get_or xs i 0
behind_zeros [] m i = zero_at m i
behind_zeros (x ∷ xs) m zero = refl
behind_zeros (x ∷ xs) m (suc i) = behind_zeros xs m i

-- an array that is 0 behind a list has the list's elements, and 0 where the list has none
pub pad_at : (n : ℕ) (xs : List ℕ) (i : ℕ) → get_or (padded n xs) i 0 ≡ get_or xs i 0
pad_at n xs i = behind_zeros xs (n - length xs) i

-- ---- message codewords

pub message_length : (x : Sending) → length (messages_of x) ≡ length x.groups
message_length x = tab-length (message_of x) (length x.groups)

-- those of one page more
pub words_more : (xs : List Sending) (i : ℕ) → i < length xs → words_of (take (suc i) xs) ≡ words_of (take i xs) ++ messages_of (sending_at xs i)
unfolding words_of
words_more [] i h = absurd (not-suc-le-zero h)
words_more (x ∷ xs) zero h = append-nil (messages_of x)
words_more (x ∷ xs) (suc i) h =
    ap (λ (l : List ℕ). messages_of x ++ l) (words_more xs i (le_of_suc-le-suc h))
    ∙ sym (append_assoc (messages_of x) (words_of (take i xs)) (messages_of (sending_at xs i)))

pub start_more : (xs : List Sending) (i : ℕ) → i < length xs → start_at xs (suc i) ≡ start_at xs i + length (sending_at xs i).groups
unfolding start_at
start_more xs i h =
    ap length (words_more xs i h)
    ∙ length-append (words_of (take i xs)) (messages_of (sending_at xs i))
    ∙ ap (λ (k : ℕ). length (words_of (take i xs)) + k) (message_length (sending_at xs i))

-- where those of page i end
pub start_le : (xs : List Sending) (i : ℕ) → i < length xs → start_at xs i + length (sending_at xs i).groups ≤ length (words_of xs)
unfolding words_of start_at
start_le [] i h = absurd (not-suc-le-zero h)
start_le (x ∷ xs) zero h = omega (arith, length-append (messages_of x) (words_of xs), message_length x)
start_le (x ∷ xs) (suc i) h =
    omega (
      arith,
      length-append (messages_of x) (words_of xs),
      length-append (messages_of x) (words_of (take i xs)),
      start_le xs i (le_of_suc-le-suc h),
    )

pub start_most : (xs : List Sending) (i : ℕ) → start_at xs i ≤ length (words_of xs)
unfolding words_of start_at
start_most xs zero = zero-le
start_most [] (suc i) = zero-le
start_most (x ∷ xs) (suc i) =
    omega (arith, length-append (messages_of x) (words_of xs), length-append (messages_of x) (words_of (take i xs)), start_most xs i)

start_sum : (xs : List Sending) (n : ℕ) → n ≤ length xs → start_at xs n ≡ sum (placement_of xs).words n
unfolding sum start_at words_of
start_sum xs zero h = refl
start_sum xs (suc n) h = omega (arith, start_more xs n h, start_sum xs n (omega arith), words_at xs n)

-- how many there are in all
pub words_count : (xs : List Sending) → length (words_of xs) ≡ messages (placement_of xs)
unfolding start_at
words_count xs =
    sym (ap (λ (l : List Sending). length (words_of l)) (take-length xs))
    ∙ start_sum xs (length xs) (omega arith)
    ∙ ap (sum (placement_of xs).words) (sym (pages_are xs))

-- message codeword j of page i
pub word_at_lem : (xs : List Sending) (i j : ℕ) → i < length xs → j < length (sending_at xs i).groups → get_or (words_of xs) (start_at xs i + j) 0 ≡ get_or (messages_of (sending_at xs i)) j 0
unfolding words_of start_at
word_at_lem [] i j h l = absurd (not-suc-le-zero h)
word_at_lem (x ∷ xs) zero j h l = let e : 0 + j ≡ j = omega arith in rw e (get_or-append (messages_of x) (words_of xs) 0 j (omega (arith, message_length x)))
word_at_lem (x ∷ xs) (suc i) j h l =
    let e : length (messages_of x ++ words_of (take i xs)) + j ≡ length (messages_of x) + (length (words_of (take i xs)) + j) = omega (arith, length-append (messages_of x) (words_of (take i xs))) in
    ap (λ (k : ℕ). get_or (messages_of x ++ words_of xs) k 0) e
    ∙ get_or-append-add (messages_of x) (words_of xs) (length (words_of (take i xs)) + j) 0
    ∙ word_at_lem xs i j (le_of_suc-le-suc h) l
