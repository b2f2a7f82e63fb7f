-- Laws of one sending written codeword by codeword: what stands where, and what each store of the code does. Assumes nothing.
use Prim.Native.Nat.{ℕ, zero, suc, ◌+◌, ◌<◌}
use mathlib.Core.Path.{◌≡◌, refl, ◌∙◌}
use mathlib.Core.Logic.{⊎_elim}
use native.Mathlib.Nat.{eq-or-lt_of_le, le_of_suc-le-suc}
use mathlib.Core.List.{List}
use native.Mathlib.Omega.{arith}
use native.Mathlib.Numerals.{add-one}
use lib.ListN.{length, get_or, set, length-set}
use lib.Seq.{get_or-set_same, get_or-set_other}
use Rattle.base.specs.Lists.{tab}
use Rattle.job.specs.Line.{function_of}
use Rattle.job.specs.Message.{group_from, groups_from}
use Rattle.job.proofs.Message.{from_count}
use Rattle.transmission.specs.Sending.{Sending, sending_from}
use Rattle.transmission.specs.Transmission.{address_of, message_of}
use Rattle.transmission.specs.Transmitted.{slot_index}
use Rattle.transmission.specs.Writing.{codeword_at, begun}

-- no two slots have one word
pub slot_index_inj : (s t : ℕ) → slot_index s ≡ slot_index t → s ≡ t
slot_index_inj s t e = omega arith

module _ (x : Sending) (s : ℕ) (words : List ℕ) where
  pub begun_length : (n : ℕ) → length (begun x s n words) ≡ length words
  unfolding begun
  begun_length zero = refl
  begun_length (suc n) = length-set (begun x s n words) (slot_index (s + n)) (codeword_at x n) ∙ begun_length n

  -- a word that is no codeword's place is kept
  pub begun_other : (n k : ℕ) → ((j : ℕ) → j < n → k ≡ slot_index (s + j) → ⊥) → get_or (begun x s n words) k 0 ≡ get_or words k 0
  unfolding begun
  begun_other zero k f = refl
  begun_other (suc n) k f =
      get_or-set_other (begun x s n words) (slot_index (s + n)) k (codeword_at x n) 0 (f n (omega arith))
      ∙ begun_other n k (λ j h. f j (omega arith))

  -- codeword j is in its place
  pub begun_at : (n j : ℕ) → j < n → slot_index (s + j) < length words → get_or (begun x s n words) (slot_index (s + j)) 0 ≡ codeword_at x j
  unfolding begun
  begun_at zero j h l = absurd (omega arith)
  begun_at (suc n) j h l =
      ⊎_elim
      (λ (e : j ≡ n). rw e (get_or-set_same (begun x s n words) (slot_index (s + n)) (codeword_at x n) 0 (rw (begun_length n, ← e) l)))
      (λ (m : j < n).
      get_or-set_other (begun x s n words) (slot_index (s + n)) (slot_index (s + j)) (codeword_at x n) 0 (λ q. omega (arith, slot_index_inj (s + j) (s + n) q))
      ∙ begun_at n j m l)
      (eq-or-lt_of_le (le_of_suc-le-suc h))

  -- the address codeword
  pub begun_first : {k v : ℕ} → k ≡ slot_index s → v ≡ address_of x → set words k v ≡ begun x s 1 words
  unfolding begun codeword_at
  begun_first p q = let e : s + 0 ≡ s = omega arith in rw (p, q, e)

  -- message codeword j
  pub begun_more : (j : ℕ) {l : List ℕ} {k v : ℕ} → l ≡ begun x s (suc j) words → k ≡ slot_index (s + 1 + j) → v ≡ message_of x j
      → set l k v ≡ begun x s (suc (j + 1)) words
  unfolding begun codeword_at
  begun_more j e p q = let i : s + 1 + j ≡ s + suc j = omega arith in rw (e, p, q, i, add-one j, begun)

-- a page's sending, where its text's groups are told by index
pub packed_sending : (identity kind : ℕ) (digits : List ℕ) (n : ℕ) {f : ℕ} {gs : List ℕ} → n ≡ length (sending_from identity kind digits).groups
    → f ≡ function_of kind → gs ≡ tab (group_from kind digits) n → ◌≡◌ {A = Sending} (record { identity = identity; function = f; groups = gs }) (sending_from identity kind digits)
unfolding groups_from
packed_sending identity kind digits n e p q = rw (p, q, e, from_count kind digits)
