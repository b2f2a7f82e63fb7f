-- The state that sendings give, as the placement and the transmission see it: their job and their codewords. Assumes nothing.
use Prim.Native.Nat.{ℕ, zero, suc, ◌+◌, ◌-◌, ◌*◌, ◌/◌, ◌%◌, ◌≤◌, ◌<◌}
use mathlib.Core.Path.{◌≡◌, refl, sym, ap, subst, ◌∙◌}
use mathlib.Core.Bool.{cond}
use mathlib.Core.List.{List, map}
use native.Mathlib.Omega.{arith}
use lib.ListN.{length, get_or}
use lib.Dec.{ltb}
use Rattle.base.specs.Lists.{tab, padded}
use Rattle.base.proofs.ListLaws.{tab-at}
use Rattle.placement.specs.Placement.{Job, Framed, messages, Content}
use Rattle.placement.specs.Promise.{Holds, nothing, its_address, its_message}
use Rattle.placement.proofs.Placed.{placed}
use Rattle.transmission.specs.Sending.{Sending, no_sending, sending_at, frames_of, counts_of, placement_of, AllAllowed}
use Rattle.transmission.specs.Transmission.{Codewords, address_of, message_of, codewords_of, codeword_in, preamble, batch_word, word_at, word_count}
use Rattle.transmission.proofs.Sendings.{pages_are, words_at, sendable}
use Rattle.sender.specs.Step.{job_in, codewords_in}
use Rattle.sender.specs.Start.{words_of, start_at, pages_from}
use Rattle.sender.proofs.WordLaws.{map_at, pad_at, start_le, words_count, word_at_lem}
use Rattle.sender.proofs.Held.{Fit}

module _ (xs : List Sending) (a : AllAllowed xs) where
  job_is : job_in (pages_from xs) ≡ placement_of xs
  unfolding pages_from
  job_is = λ t. record { pages = sym (pages_are xs) t; frame = λ i. pad_at 48 (frames_of xs) i t; words = λ i. pad_at 48 (counts_of xs) i t }

  starts_at : (i : ℕ) → i < length xs → get_or (pages_from xs).starts i 0 ≡ start_at xs i
  unfolding pages_from
  starts_at i h = pad_at 48 (tab (start_at xs) (length xs)) i ∙ tab-at (start_at xs) (length xs) i 0 h

  lengths_at : (i : ℕ) → get_or (pages_from xs).lengths i 0 ≡ length (sending_at xs i).groups
  unfolding pages_from
  lengths_at i = pad_at 48 (counts_of xs) i ∙ words_at xs i

  pub fit_of : Fit (pages_from xs)
  unfolding pages_from
  fit_of =
      record {
        some = a.least;
        few = a.most;
        framed = subst Framed (sym job_is) (sendable a).framed;
        inside = λ i l. omega (arith, starts_at i l, lengths_at i, start_le xs i l, words_count xs, (sendable a).short);
        short = subst (λ (j : Job). messages j ≤ 4032) (sym job_is) (sendable a).short;
      }

  -- the codewords that the state has
  abbrev held : Codewords
  held = codewords_in (pages_from xs) (padded 4032 (words_of xs))

  address_at : (i : ℕ) → i < length xs → held.address i ≡ (codewords_of xs).address i
  unfolding pages_from
  address_at i h = pad_at 48 (map address_of xs) i ∙ map_at address_of xs i 0 no_sending h

  message_at : (i j : ℕ) → i < length xs → j < length (sending_at xs i).groups → held.message i j ≡ (codewords_of xs).message i j
  message_at i j h l =
      pad_at 4032 (words_of xs) (get_or (pages_from xs).starts i 0 + j)
      ∙ ap (λ (k : ℕ). get_or (words_of xs) (k + j) 0) (starts_at i h)
      ∙ word_at_lem xs i j h l
      ∙ tab-at (message_of (sending_at xs i)) (length (sending_at xs i).groups) j 0 l

  same_code : {s : ℕ} {x : Content} → Holds (placement_of xs) s x → codeword_in held x ≡ codeword_in (codewords_of xs) x
  unfolding codeword_in
  same_code nothing = refl
  same_code (its_address i l q) = address_at i (omega (arith, pages_are xs))
  same_code (its_message i j l m q) = message_at i j (omega (arith, pages_are xs)) (omega (arith, words_at xs i))

  same_batch : (q r : ℕ) → batch_word held (placement_of xs) q r ≡ batch_word (codewords_of xs) (placement_of xs) q r
  unfolding batch_word
  same_batch q zero = refl
  same_batch q (suc r) = same_code ((placed (placement_of xs) (sendable a).framed).only (16 * q + r))

  same_word : (k : ℕ) → word_at held (placement_of xs) k ≡ word_at (codewords_of xs) (placement_of xs) k
  unfolding word_at
  same_word k = ap (λ (w : ℕ). cond (ltb k 18) preamble w) (same_batch ((k - 18) / 17) ((k - 18) % 17))

  pub word_is : (k : ℕ) → word_at held (job_in (pages_from xs)) k ≡ word_at (codewords_of xs) (placement_of xs) k
  word_is k = ap (λ (j : Job). word_at held j k) job_is ∙ same_word k

  pub count_is : word_count (job_in (pages_from xs)) ≡ word_count (placement_of xs)
  count_is = ap word_count job_is
