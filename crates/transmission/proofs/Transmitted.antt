-- Demand 3 over the words: `transmitted` proves the record `Transmitted` for the sendings of an accepted job. Assumes nothing.
use mathlib.Core.Path.{◌≡◌, refl, sym, ap, ◌∙◌}
use mathlib.Core.Bool.{Bool, true, false, not, cond, ◌||◌}
use mathlib.Core.Logic.{⊎_elim}
use mathlib.Core.List.{List}
use Prim.Native.Nat.{ℕ, zero, suc, ◌+◌, ◌-◌, ◌*◌, ◌/◌, ◌^◌, ◌≤◌, ◌<◌}
use native.Mathlib.Nat.{eq-or-lt_of_le}
use native.Mathlib.Omega.{arith}
use lib.Dec.{eqb, ltb, leb}
use borrow.Author.Tests.{ltb-true, lt-ltb, le-ltb, leb-true, leb-false, eq-eqb, ne_eqb}
use Rattle.std.specs.Prelude.{Ok}
use Rattle.base.specs.Search.{sum}
use Rattle.base.proofs.Bools.{true_false, and_true, and_both}
use Rattle.base.proofs.SearchLaws.{least_is, sum_cong, sum_zeros, sum_add}
use Rattle.codeword.specs.Code as code
use Rattle.codeword.specs.Code.{codeword, address_bits, message_bits}
use Rattle.codeword.proofs.CodeLaws.{codeword_front}
use Rattle.job.specs.Line.{is_reserved}
use Rattle.job.specs.Submission.{Submission}
use Rattle.job.specs.Job.{job_of}
use Rattle.placement.specs.Placement.{Job, Framed, Content, is_message, state_at, content_at, all_out, ends_with, batches, slot_of}
use Rattle.placement.specs.Promise.{Holds, nothing, its_address, its_message}
use Rattle.placement.proofs.Bounds.{count, none_sent}
use Rattle.placement.proofs.Placed.{placed, some_batch, out_before, addresses, count_next, rank}
use Rattle.transmission.specs.Sending.{Sending, sendings_of, sending_at, placement_of, Allowed, AllAllowed}
use Rattle.transmission.specs.Transmission.{Codewords, address_of, codewords_of, codeword_in, batch_word, word_at}
use Rattle.transmission.specs.Transmitted.{slot_word, is_address, addresses_to, Coded, Transmitted}
use Rattle.transmission.proofs.Sendings.{pages_are, sendable, accepted_sendings}
use Rattle.transmission.proofs.TransmissionLaws.{word_in_lem, slot_word_lem}

-- ---- what the codewords of allowed sendings are

-- an identity that isn't reserved has another upper value than idle and sync
free_upper : (identity : ℕ) → is_reserved identity ≡ false → (identity / 8 ≡ 250958 → ⊥) × (identity / 8 ≡ 255632 → ⊥)
unfolding is_reserved
free_upper identity e = (λ q. true_false (rw (eq-eqb (identity / 8) 250958 q)) e, λ q. true_false (or_right (eqb (identity / 8) 250958) _ (eq-eqb (identity / 8) 255632 q)) e)
  where
    or_right : (a b : Bool) → b ≡ true → a || b ≡ true
    or_right true b q = refl
    or_right false b q = q

-- an address has bit 1 clear and is neither idle nor sync
abbrev Addresses : ℕ → Type 0
Addresses w = (w < 2 ^ 31) × ((w ≡ code.idle → ⊥) × (w ≡ code.sync → ⊥))

address_word : (x : Sending) → Allowed x → Addresses (address_of x)
address_word x a =
    let m = address_bits x.identity x.function in
    let f : codeword m / 2048 ≡ m = codeword_front m (omega arith) in
    let free = free_upper x.identity a.free in
    let range = a.in_range in
    (omega arith, (λ e. free.0 (omega arith), λ e. free.1 (omega arith)))

message_word : (g : ℕ) → 2 ^ 31 ≤ codeword (message_bits g)
message_word g = let f : codeword (message_bits g) / 2048 ≡ message_bits g = codeword_front (message_bits g) (omega arith) in omega arith

pub coded : {xs : List Sending} → AllAllowed xs → Coded (placement_of xs) (codewords_of xs)
coded {xs} a =
    let is : (i : ℕ) → i < (placement_of xs).pages → Addresses ((codewords_of xs).address i)
    = λ i h. address_word (sending_at xs i) (a.each i (omega (arith, pages_are xs))) in
    record {
      clear = λ i h. (is i h).0;
      not_idle = λ i h. (is i h).1.0;
      not_sync = λ i h. (is i h).1.1;
      set = λ i j _ _. message_word _;
    }

-- ---- sums over words

sum_first : (f : ℕ → ℕ) (m : ℕ) → f 0 ≡ 1 → ((k : ℕ) → k < m → f (suc k) ≡ 0) → sum f (suc m) ≡ 1
unfolding sum
sum_first f zero a h = omega arith
sum_first f (suc m) a h =
    let b : sum f m + f m ≡ 1 = sum_first f m a (λ k l. h k (omega arith)) in
    let z : f (suc m) ≡ 0 = h m (omega arith) in
    omega arith

-- ---- the words of any job whose codewords are such

module _ (job : Job) (framed : Framed job) (c : Codewords) (coded : Coded job c) where
  -- by what a slot holds
  by_content : (s : ℕ) (x : Content) → Holds job s x → is_address (codeword_in c x) ≡ true → (i : ℕ) × (i < job.pages) × (s ≡ slot_of job i)
  unfolding codeword_in
  by_content s x nothing e = absurd (true_false e refl)
  by_content s x (its_address i l q) e = (i, l, q)
  by_content s x (its_message i j l m q) e =
      absurd (omega (arith, ltb-true (c.message i j) (2 ^ 31) (and_true (ltb (c.message i j) (2 ^ 31)) (not (eqb (c.message i j) code.idle)) e).0, coded.set i j l m))

  not_sync_lem : (s : ℕ) (x : Content) → Holds job s x → codeword_in c x ≡ code.sync → ⊥
  unfolding codeword_in
  not_sync_lem s x nothing e = omega arith
  not_sync_lem s x (its_address i l q) e = coded.not_sync i l e
  not_sync_lem s x (its_message i j l m q) e = omega (arith, coded.set i j l m)

  idle_else : (s : ℕ) (x : Content) → Holds job s x → ((i j : ℕ) → i < job.pages → j ≤ job.words i → s ≡ slot_of job i + j → ⊥) → codeword_in c x ≡ code.idle
  unfolding codeword_in
  idle_else s x nothing f = refl
  idle_else s x (its_address i l q) f = absurd (f i 0 l (omega arith) (omega arith))
  idle_else s x (its_message i j l m q) f = absurd (f i (j + 1) l (omega arith) (omega arith))

  -- ---- the addresses in slot order

  -- an address word is the word of an address
  address_one : (s : ℕ) (x : Content) → Holds job s x → cond (is_address (codeword_in c x)) 1 0 ≡ addresses x
  unfolding codeword_in
  address_one s x nothing = refl
  address_one s x (its_address i l q) = rw (lt-ltb _ _ (coded.clear i l), ne_eqb _ _ (coded.not_idle i l))
  address_one s x (its_message i j l m q) = rw (le-ltb _ _ (coded.set i j l m))

  -- the addresses before slot s are those of the pages sent before it
  addresses_are : (s : ℕ) → addresses_to (slot_word c job) s ≡ count job (state_at job s)
  unfolding sum state_at
  addresses_are zero = sym (none_sent job)
  addresses_are (suc s) =
      let here : cond (is_address (slot_word c job s)) 1 0 ≡ addresses (content_at job s) = rw slot_word_lem (address_one s _ ((placed job framed).only s)) in
      omega (arith, addresses_are s, here, count_next job framed s)

  -- ---- the end

  -- bit 1 of a slot's word is set exactly where it is a message codeword
  low_word : (s : ℕ) (x : Content) → Holds job s x → not (is_message x) ≡ true → codeword_in c x < 2 ^ 31
  unfolding codeword_in
  low_word s x nothing e = omega arith
  low_word s x (its_address i l q) e = coded.clear i l
  low_word s x (its_message i j l m q) e = absurd (true_false e refl)

  no_message : (s : ℕ) (x : Content) → Holds job s x → codeword_in c x < 2 ^ 31 → not (is_message x) ≡ true
  unfolding codeword_in
  no_message s x nothing h = refl
  no_message s x (its_address i l q) h = refl
  no_message s x (its_message i j l m q) h = absurd (omega (arith, coded.set i j l m))

  closes : slot_word c job (16 * batches job - 1) < 2 ^ 31
  unfolding ends_with
  closes =
      let p = placed job framed in
      let s = 16 * (batches job - 1) + 15 in
      let e : 16 * batches job - 1 ≡ s = omega (arith, some_batch job framed) in
      rw (e, slot_word_lem c job s) (low_word s _ (p.only s) (and_true (all_out job (state_at job (16 * (batches job - 1) + 16))) _ p.ended).1)

  -- behind batch q stands a page's codeword, unless the transmission could end there
  behind : (q : ℕ) → q + 1 < batches job → slot_word c job (16 * q + 15) < 2 ^ 31
      → (i : ℕ) × (i < job.pages) × (16 * q + 16 ≤ slot_of job i + job.words i)
  unfolding ends_with
  behind q l h =
      let p = placed job framed in
      let r = least_is (λ i. leb (16 * q + 16) (slot_of job i + job.words i)) job.pages in
      let last = no_message (16 * q + 15) _ (p.only (16 * q + 15)) (rw slot_word_lem at h) in
      ⊎_elim
      (λ e. absurd (true_false
      (and_both (out_before job framed (16 * q + 16) (λ i m. leb-false _ _ (r.before i (omega arith)))) last)
      (p.soonest q l)))
      (λ m. (_, m, leb-true _ _ (r.here m)))
      (eq-or-lt_of_le r.within)

  -- ---- sync

  one_sync : ℕ → ℕ
  one_sync k = cond (eqb (word_at c job k) code.sync) 1 0

  batch_syncs : (q : ℕ) → sum (λ k. one_sync (18 + 17 * q + k)) 17 ≡ 1
  unfolding one_sync batch_word
  batch_syncs q =
      sum_first (λ k. one_sync (18 + 17 * q + k)) 16
      (rw (word_in_lem c job q 0 (omega arith)))
      (λ k l. rw (word_in_lem c job q (suc k) (omega arith), ne_eqb _ code.sync (not_sync_lem (16 * q + k) _ ((placed job framed).only (16 * q + k)))))

  syncs : (b : ℕ) → sum one_sync (18 + 17 * b) ≡ b
  unfolding one_sync word_at
  syncs zero = sum_cong one_sync (λ _. 0) 18 (λ k l. rw (lt-ltb k 18 l)) ∙ sum_zeros 18
  syncs (suc b) =
      let e : 18 + 17 * suc b ≡ 18 + 17 * b + 17 = omega arith in
      rw e (omega (arith, sum_add one_sync (18 + 17 * b) 17, syncs b, batch_syncs b))

  at_slot : (i : ℕ) → i < job.pages → slot_word c job (slot_of job i) ≡ c.address i
  unfolding codeword_in
  at_slot i l = slot_word_lem c job (slot_of job i) ∙ ap (codeword_in c) ((placed job framed).sent i l)

  words_transmitted : Transmitted job c
  unfolding one_sync codeword_in
  words_transmitted =
      let p = placed job framed in
      record {
        reported = λ s e. by_content s _ (p.only s) (rw slot_word_lem at e);
        its_address = λ i l. (at_slot i l, rw (at_slot i l, lt-ltb _ _ (coded.clear i l), ne_eqb _ _ (coded.not_idle i l)));
        in_turn = λ i l. addresses_are (slot_of job i) ∙ sym (rank job framed (slot_of job i) i (p.sent i l));
        its_message = λ i j l h. slot_word_lem c job _ ∙ ap (codeword_in c) (p.behind i j l h);
        others = λ s f. slot_word_lem c job s ∙ idle_else s _ (p.only s) f;
        closed = closes;
        needed = behind;
        syncs = syncs (batches job);
      }

-- ---- the words of an accepted job

pub sendings_transmitted : {xs : List Sending} → AllAllowed xs → Transmitted (placement_of xs) (codewords_of xs)
sendings_transmitted {xs} a = words_transmitted (placement_of xs) (sendable a).framed (codewords_of xs) (coded a)

pub transmitted : (s : Submission) (n : ℕ) → job_of s ≡ Ok n → Transmitted (placement_of (sendings_of s)) (codewords_of (sendings_of s))
transmitted s n ok = sendings_transmitted (accepted_sendings s n ok)
