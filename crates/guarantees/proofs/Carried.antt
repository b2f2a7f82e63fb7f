-- What a call of `send` that reports leaves in the two lent slices. Assumes nothing.
use mathlib.Core.Path.{◌≡◌, refl, sym, ap, ◌∙◌}
use mathlib.Core.Bool.{cond}
use mathlib.Core.List.{List}
use Prim.Native.Nat.{ℕ, ◌+◌, ◌-◌, ◌*◌, ◌≤◌, ◌<◌}
use native.Mathlib.Omega.{arith}
use lib.ListN.{length, get_or, take, drop, get_or-append}
use lib.Seq.{take_at}
use lib.Dec.{eqb, ltb}
use Rattle.std.specs.Prelude.{Ok}
use Rattle.base.specs.Lists.{over}
use Rattle.base.specs.Search.{sum}
use Rattle.base.proofs.ListLaws.{over_length}
use Rattle.base.proofs.SearchLaws.{sum_cong}
use Rattle.codeword.specs.Code as code
use Rattle.job.specs.Submission.{Submission}
use Rattle.job.specs.Job.{job_of}
use Rattle.placement.specs.Placement.{Job, content_at, slot_of, slots}
use Rattle.placement.specs.Promise.{Placed, earlier}
use Rattle.placement.proofs.Placed.{slots_length, slots_at}
use Rattle.transmission.specs.Sending.{Sending, sendings_of, placement_of}
use Rattle.transmission.specs.Transmission.{Codewords, codewords_of, address_of, message_of, word_at, transmission_of}
use Rattle.transmission.specs.Transmitted.{slot_index, slot_word, is_address, addresses_to, Transmitted}
use Rattle.transmission.specs.Report as report
use Rattle.transmission.proofs.Sendings.{sending_at_lem, words_at, sendings_placed, sendings_count, accepted_sendings}
use Rattle.transmission.proofs.TransmissionLaws.{transmission_length, transmission_at, batches_least}
use Rattle.transmission.proofs.Transmitted.{transmitted}
use Rattle.sender.proofs.Stepping.{job_stepping}
use Rattle.guarantees.specs.Demand3.{Call, page, count, slot, word_in, InTime, AsPlaced, InWords, Carried}
use Rattle.guarantees.proofs.Counts.{groups_count, sent_count, page_count}
use Rattle.guarantees.proofs.Reported.{Reported, reported}

-- what is written over the front of a slice that has room for it stands in the slice
pub front_fits : (old new : List ℕ) {n : ℕ} → length new ≡ n → n ≤ length old → n ≤ length (over old new)
front_fits old new e h = omega (arith, over_length old new (omega arith))

module _ (s : Submission) (n : ℕ) (ok : job_of s ≡ Ok n) where
  abbrev job : Job
  job = placement_of (sendings_of s)

  abbrev codewords : Codewords
  codewords = codewords_of (sendings_of s)

  word_count_lem : (i : ℕ) → i < n → job.words i ≡ count s i
  word_count_lem i l = words_at (sendings_of s) i ∙ sent_count s n ok i l

  placed : Placed job
  placed = sendings_placed (accepted_sendings s n ok)

  all_codewords : sum job.words job.pages ≡ sum (count s) n
  all_codewords = rw (page_count s n ok) (sum_cong job.words (count s) n word_count_lem)

  module _ (w₀ t₀ w t : List ℕ) (b m : ℕ) (call : Call s w₀ t₀ (report.sent b m) w t) where
    says : Reported (job_of s) (sendings_of s) (length w₀) (length t₀) b m
    says = reported s (length w₀) (length t₀) (sym call.answer)

    words_size : length (transmission_of (sendings_of s)) ≡ m
    words_size = transmission_length codewords job ∙ sym says.words_are

    slots_size : length (slots job) ≡ n
    slots_size = slots_length job ∙ page_count s n ok

    word_at_lem : (k : ℕ) → k < m → get_or w k 0 ≡ word_at codewords job k
    word_at_lem k l =
        ap (λ (x : List ℕ). get_or x k 0) call.words
        ∙ get_or-append (transmission_of (sendings_of s)) (drop (length (transmission_of (sendings_of s))) w₀) 0 k (omega (arith, words_size))
        ∙ transmission_at codewords job k (omega (arith, says.words_are))

    slot_at : (i : ℕ) → i < n → slot t i ≡ slot_of job i
    slot_at i l =
        ap (λ (x : List ℕ). get_or x i 0) call.slots
        ∙ get_or-append (slots job) (drop (length (slots job)) t₀) 0 i (omega (arith, slots_size))
        ∙ slots_at job i (omega (arith, page_count s n ok))

    word_in_lem : (p : ℕ) → p < 16 * b → word_in w p ≡ slot_word codewords job p
    word_in_lem p l = word_at_lem (slot_index p) (omega (arith, says.words_are, says.batches_are))

    earlier_is : (f g : ℕ → ℕ) → ((j : ℕ) → j < n → f j ≡ g j) → (i : ℕ) → i < n → earlier (slot t) n f i ≡ earlier (slot_of job) job.pages g i
    unfolding earlier
    earlier_is f g e i l =
        sum_cong _ _ n (λ j h. rw (slot_at j h, slot_at i l, e j h))
        ∙ ap (sum (λ j. cond (ltb (slot_of job j) (slot_of job i)) (g j) 0)) (sym (page_count s n ok))

    before_ones : (i : ℕ) → i < n → earlier (slot t) n (λ _. 1) i ≡ earlier (slot_of job) job.pages (λ _. 1) i
    before_ones i l = earlier_is (λ _. 1) (λ _. 1) (λ _ _. refl) i l

    before_counts : (i : ℕ) → i < n → earlier (slot t) n (count s) i ≡ earlier (slot_of job) job.pages job.words i
    before_counts i l = earlier_is (count s) job.words (λ j h. sym (word_count_lem j h)) i l

    in_pages : {i : ℕ} → i < n → i < job.pages
    in_pages l = omega (arith, page_count s n ok)

    inside : (i : ℕ) → i < n → slot t i + count s i < 16 * b
    inside i l = omega (arith, slot_at i l, word_count_lem i l, placed.inside i (in_pages l), says.batches_are)

    -- the word of the slot that is reported for a page
    first_word : (i : ℕ) → i < n → word_in w (slot t i) ≡ slot_word codewords job (slot_of job i)
    first_word i l = word_in_lem (slot t i) (omega (arith, inside i l)) ∙ ap (slot_word codewords job) (slot_at i l)

    sent : Transmitted job codewords
    sent = transmitted s n ok

    words_front : take m w ≡ transmission_of (sendings_of s)
    words_front = ap (take m) call.words ∙ take_at (transmission_of (sendings_of s)) (drop (length (transmission_of (sendings_of s))) w₀) m words_size

    slots_front : take n t ≡ slots job
    slots_front = ap (take n) call.slots ∙ take_at (slots job) (drop (length (slots job)) t₀) n slots_size

    messages_behind : (i j : ℕ) → i < n → j < count s i → word_in w (slot t i + 1 + j) ≡ message_of (page s i) j
    messages_behind i j l h =
        let e : slot t i + 1 + j ≡ slot_of job i + 1 + j = omega (arith, slot_at i l) in
        word_in_lem (slot t i + 1 + j) (omega (arith, inside i l))
        ∙ ap (slot_word codewords job) e
        ∙ sent.its_message i j (in_pages l) (omega (arith, word_count_lem i l))
        ∙ ap (λ (x : Sending). message_of x j) (sending_at_lem s i)

    -- the addresses in the words before the slot that is reported for a page
    turn : (i : ℕ) → i < n → addresses_to (word_in w) (slot t i) ≡ earlier (slot t) n (λ _. 1) i
    turn i l =
        sum_cong _ _ (slot t i) (λ p h. rw (word_in_lem p (omega (arith, inside i l))))
        ∙ ap (addresses_to (slot_word codewords job)) (slot_at i l)
        ∙ sent.in_turn i (in_pages l)
        ∙ sym (before_ones i l)

    sync_count : sum (λ k. cond (eqb (get_or w k 0) code.sync) 1 0) m ≡ b
    sync_count =
        sum_cong _ _ m (λ k l. rw (word_at_lem k l))
        ∙ ap (sum (λ k. cond (eqb (word_at codewords job k) code.sync) 1 0)) says.words_are
        ∙ sent.syncs
        ∙ sym says.batches_are

    in_time : InTime s n b t
    in_time =
        record {
          some = λ k h l.
              let x = placed.some k h (omega (arith, page_count s n ok)) in
              let lx : x.0 < n = omega (arith, x.1, page_count s n ok) in
              (x.0, lx, ap (λ (y : ℕ). y + 1) (before_ones x.0 lx) ∙ x.2);
          one = λ k i j li lj e f.
              placed.one k i j (in_pages li) (in_pages lj) (omega (arith, before_ones i li)) (omega (arith, before_ones j lj));
          in_time = λ k i l e.
              omega (arith, slot_at i l, before_counts i l, placed.kth k i (in_pages l) (omega (arith, before_ones i l)));
          few = omega (arith, says.batches_are, placed.few, page_count s n ok, all_codewords);
        }

    as_placed : AsPlaced s n b m w t
    as_placed =
        record {
          batches_are = says.batches_are;
          slots_are = slots_front;
          placed = λ i l. ap (content_at job) (slot_at i l) ∙ placed.sent i (in_pages l);
          ended = rw says.batches_are placed.ended;
          soonest = λ q l. placed.soonest q (omega (arith, says.batches_are));
          words_are = omega (arith, says.words_are, says.batches_are);
          card = words_front;
          words_fit = rw call.words (front_fits w₀ (transmission_of (sendings_of s)) words_size (omega (arith, says.words_are, says.word_room)));
          slots_fit = rw call.slots (front_fits t₀ (slots job) slots_size (omega (arith, sendings_count s n ok, says.slot_room)));
        }

    in_words : InWords s n b m w t
    in_words =
        record {
          reported = λ p l e.
              let x = sent.reported p (rw (← word_in_lem p l) e) in
              let lx : x.0 < n = omega (arith, x.1, page_count s n ok) in
              (x.0, lx, x.2 ∙ sym (slot_at x.0 lx));
          addressed = λ i l. ap is_address (first_word i l) ∙ (sent.its_address i (in_pages l)).1;
          its_address = λ i l. first_word i l ∙ (sent.its_address i (in_pages l)).0 ∙ ap address_of (sending_at_lem s i);
          in_turn = λ k i l e. ap (λ (y : ℕ). y + 1) (turn i l) ∙ e;
          counted = groups_count s n ok;
          its_message = messages_behind;
          inside = inside;
          others = λ p l free.
              word_in_lem p l
              ∙ sent.others p (λ i j h k e.
              let h' : i < n = omega (arith, page_count s n ok) in
              free i j h' (omega (arith, word_count_lem i h')) (omega (arith, slot_at i h')));
          closed =
              let e = word_in_lem (16 * b - 1) (omega (arith, says.batches_are, batches_least (accepted_sendings s n ok))) in
              rw (e, says.batches_are) sent.closed;
          needed = λ q l h.
              let x = sent.needed q (omega (arith, says.batches_are)) (rw (← word_in_lem (16 * q + 15) (omega arith)) h) in
              let lx : x.0 < n = omega (arith, x.1, page_count s n ok) in
              (x.0, lx, omega (arith, x.2, slot_at x.0 lx, word_count_lem x.0 lx));
          syncs = sync_count;
        }

    pub carried : Carried s n b m w t
    carried =
        record {
          in_time = in_time;
          as_placed = as_placed;
          in_words = in_words;
          paused = λ i j li lj mi mj e.
              placed.paused i j (in_pages li) (in_pages lj) (omega (arith, word_count_lem i li)) (omega (arith, word_count_lem j lj))
              (omega (arith, slot_at i li, slot_at j lj, word_count_lem i li));
          steps = λ u c. rw words_front (job_stepping s n u c);
        }
