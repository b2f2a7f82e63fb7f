-- Laying out a job page by page: the table of the pages passed, and their message codewords. Assumes nothing.
use Prim.Native.Nat.{ℕ, ◌+◌, ◌-◌, ◌%◌, ◌≤◌, ◌<◌}
use mathlib.Core.Path.{◌≡◌, refl, sym, ap, ◌∙◌}
use mathlib.Core.List.{List, ◌++◌, map}
use native.Mathlib.Numerals.{add-one}
use native.Mathlib.Omega.{arith}
use lib.ListN.{length, set, take, drop, replicate, length-map}
use lib.Seq.{take-length}
use Rattle.base.specs.Lists.{over, tab, padded}
use Rattle.base.proofs.ListLaws.{filled, filled_turn, filled_over, over_zeros, over_behind, over_length, tab-length, tab-at, tab-same}
use Rattle.codeword.specs.Code.{codeword, message_bits}
use Rattle.job.specs.Message.{group_from, count_from, groups_from}
use Rattle.job.proofs.Message.{from_count}
use Rattle.transmission.specs.Sending.{Sending, no_sending, sending_from, sending_at, frames_of, counts_of, AllAllowed}
use Rattle.transmission.specs.Transmission.{address_of, message_of}
use Rattle.transmission.proofs.Sendings.{frame_at, words_at, pages_are, sendable}
use Rattle.sender.specs.declared.PageTable.{PageTable}
use Rattle.sender.specs.Start.{messages_of, words_of, start_at, pages_from}
use Rattle.sender.proofs.WordLaws.{map_at, words_more, start_more, start_most, start_le, words_count}

abbrev zeros : List ℕ
zeros = replicate 48 0

-- what is written for the i pages passed: `at` message codewords, over what the slice held
pub record Laid (xs : List Sending) (old : List ℕ) (i at : ℕ) (addresses starts lengths frames words : List ℕ) : Type 0 where
  pub at_is : at ≡ start_at xs i
  pub addresses_are : addresses ≡ filled zeros (map address_of xs) i
  pub starts_are : starts ≡ filled zeros (tab (start_at xs) (length xs)) i
  pub lengths_are : lengths ≡ filled zeros (counts_of xs) i
  pub frames_are : frames ≡ filled zeros (frames_of xs) i
  pub words_are : words ≡ over old (words_of (take i xs))

-- none yet
pub laid_none : (xs : List Sending) (old : List ℕ) → Laid xs old 0 0 zeros zeros zeros zeros old
unfolding start_at words_of
laid_none xs old = record { at_is = refl; addresses_are = refl; starts_are = refl; lengths_are = refl; frames_are = refl; words_are = refl }

-- the codewords of a text's groups are the message of its sending
pub message_is : (identity kind : ℕ) (digits : List ℕ) (n : ℕ) → n ≡ length (sending_from identity kind digits).groups
    → tab (λ g. codeword (message_bits (group_from kind digits g))) n ≡ messages_of (sending_from identity kind digits)
unfolding groups_from
message_is identity kind digits n e =
    let count = count_from kind (length digits) in
    tab-same (λ g. codeword (message_bits (group_from kind digits g))) (message_of (sending_from identity kind digits)) n
    (λ g h. ap (λ (x : ℕ). codeword (message_bits x)) (sym (tab-at (group_from kind digits) count g 0 (omega (arith, from_count kind digits)))))
    ∙ ap (tab (message_of (sending_from identity kind digits))) e

module _ (xs : List Sending) (a : AllAllowed xs) (old : List ℕ) (room : length old ≡ 4032) where
  short : length (words_of xs) ≤ 4032
  short = omega (arith, words_count xs, (sendable a).short)

  module _ (i at : ℕ) {addresses starts lengths frames words : List ℕ} (so : Laid xs old i at addresses starts lengths frames words) where
    pub laid_at : at ≤ 4032
    laid_at = omega (arith, so.at_is, start_most xs i, short)

    -- the slice keeps its length
    pub laid_room : length words ≡ 4032
    unfolding start_at
    laid_room = ap length so.words_are ∙ over_length old (words_of (take i xs)) (omega (arith, start_most xs i, short)) ∙ room

    -- there is room for page i
    pub laid_fits : i < length xs → at + length (sending_at xs i).groups ≤ 4032
    laid_fits h = omega (arith, so.at_is, start_le xs i h, short)

    -- page i is passed
    pub laid_more : i < length xs → {x : Sending} → x ≡ sending_at xs i → {v g f : ℕ} {part : List ℕ}
        → v ≡ address_of x → g ≡ length (sending_at xs i).groups → f ≡ x.identity % 8 → part ≡ over (take (length words - at) (drop at words)) (messages_of x)
        → Laid xs old (i + 1) (at + g) (set addresses i v) (set starts i at) (set lengths i g) (set frames i f) (take at words ++ (part ++ drop (length words - at) (drop at words)))
    unfolding start_at
    laid_more h {x} e p q r w =
        let low : i < length zeros = omega (arith, a.most) in
        let more : words_of (take i xs) ++ messages_of (sending_at xs i) ≡ words_of (take (i + 1) xs) = rw (add-one i) (sym (words_more xs i h)) in
        record {
          at_is = ap (λ (k : ℕ). at + k) q ∙ rw (so.at_is, add-one i) (sym (start_more xs i h));
          addresses_are = filled_turn zeros (map address_of xs) i so.addresses_are low (omega (arith, length-map xs address_of)) (p ∙ ap address_of e ∙ sym (map_at address_of xs i 0 no_sending h));
          starts_are = filled_turn zeros (tab (start_at xs) (length xs)) i so.starts_are low (omega (arith, tab-length (start_at xs) (length xs))) (so.at_is ∙ sym (tab-at (start_at xs) (length xs) i 0 h));
          lengths_are = filled_turn zeros (counts_of xs) i so.lengths_are low (omega (arith, length-map xs (λ (y : Sending). length y.groups))) (q ∙ sym (words_at xs i));
          frames_are = filled_turn zeros (frames_of xs) i so.frames_are low (omega (arith, pages_are xs)) (r ∙ ap (λ (y : Sending). y.identity % 8) e ∙ sym (frame_at xs i));
          words_are =
              over_behind old (words_of (take i xs)) (messages_of x) at so.words_are (sym so.at_is) (omega (arith, laid_at, laid_room)) w
              ∙ ap (over old) (ap (λ (y : Sending). words_of (take i xs) ++ messages_of y) e ∙ more);
        }

  -- all pages are passed
  module _ (n at : ℕ) {addresses starts lengths frames words : List ℕ} (so : Laid xs old n at addresses starts lengths frames words) (all : length xs ≡ n) where
    whole : (new : List ℕ) → length new ≡ length xs → {l : List ℕ} → l ≡ filled zeros new n → l ≡ padded 48 new
    whole new size e = e ∙ ap (filled zeros new) (sym all ∙ sym size) ∙ filled_over zeros new ∙ over_zeros 48 new

    pub laid_pages : ◌≡◌ {A = PageTable} (record { count = n; addresses = addresses; starts = starts; lengths = lengths; frames = frames }) (pages_from xs)
    unfolding pages_from
    laid_pages =
        λ t.
        record {
          count = sym all t;
          addresses = whole (map address_of xs) (length-map xs address_of) so.addresses_are t;
          starts = whole (tab (start_at xs) (length xs)) (tab-length (start_at xs) (length xs)) so.starts_are t;
          lengths = whole (counts_of xs) (length-map xs (λ (y : Sending). length y.groups)) so.lengths_are t;
          frames = whole (frames_of xs) (pages_are xs) so.frames_are t;
        }

    pub laid_words : words ≡ over old (words_of xs)
    laid_words = so.words_are ∙ ap (λ (l : List Sending). over old (words_of l)) (ap (λ (k : ℕ). take k xs) (sym all) ∙ take-length xs)
