-- The lines so far: one law for each way a slot can go. Assumes nothing.
use mathlib.Core.Path.{◌≡◌, refl, sym, ap, ◌∙◌}
use mathlib.Core.List.{List, [], ◌∷◌, ◌++◌, append-nil, append_assoc}
use Prim.Native.Nat.{ℕ, ◌+◌, ◌-◌, ◌*◌, ◌%◌, ◌≤◌, ◌<◌}
use native.Mathlib.Omega.{arith}
use lib.ListN.{length, take, drop, length-append}
use lib.Seq.{take_at}
use Rattle.base.specs.Lists.{over}
use Rattle.base.proofs.ListLaws.{over_behind, over_length}
use Rattle.reader.specs.Reading.{Hearing, slot_word}
use Rattle.reader.specs.Lines.{line_heard, lines_heard}
use Rattle.reader.proofs.Laws.{lines_more}
use Rattle.follower.specs.Pages.{pages_for}
use Rattle.follower.specs.Following.{own_at, own_from, slot_count}
use Rattle.follower.specs.Progress.{InFrame, page_at, Printed, Kept}
use Rattle.std.specs.declared.option.Option.TheVariants.{Some, None}
use Rattle.follower.specs.declared.Line.{Line}
use Rattle.follower.proofs.Follows.{follows}
use Rattle.follower.proofs.SlotLaws.{none_on, own_on, own_end}
use Rattle.follower.proofs.FrameLaws.{skipped}

-- the pages of identity i that open before slot s are printed, and there is room for those to come
pub record Sofar (i : ℕ) (words old : List ℕ) (count bytes s : ℕ) (lines : List ℕ) : Type 0 where
  pub done : List Hearing
  pub all : own_from i (slot_word words) 0 (slot_count words) ≡ done ++ own_from i (slot_word words) s (slot_count words - s)
  pub counted : count ≡ length done
  pub size : bytes ≡ length (lines_heard done)
  pub is : lines ≡ over old (lines_heard done)
  pub few : count + (slot_count words - s) ≤ slot_count words
  pub short : bytes + 11 * (slot_count words - s) ≤ 11 * slot_count words

module _ (i : ℕ) (words old : List ℕ) where
  pub sofar_none : Sofar i words old 0 0 0 old
  unfolding lines_heard
  sofar_none =
      let z : slot_count words - 0 ≡ slot_count words = omega arith in
      record {
        done = [];
        all = ap (own_from i (slot_word words) 0) (sym z);
        counted = refl;
        size = refl;
        is = refl;
        few = omega arith;
        short = omega arith;
      }

  module _ (count bytes s : ℕ) {lines : List ℕ} (x : Sofar i words old count bytes s lines) where
    -- on at a later slot, with the same pages to come
    later : (r : ℕ) → s ≤ r → own_from i (slot_word words) s (slot_count words - s) ≡ own_from i (slot_word words) r (slot_count words - r) → Sofar i words old count bytes r lines
    later r l e = record {
      done = x.done;
      all = x.all ∙ ap (λ (hs : List Hearing). x.done ++ hs) e;
      counted = x.counted;
      size = x.size;
      is = x.is;
      few = omega (arith, x.few);
      short = omega (arith, x.short);
    }

    -- the slots of other frames are passed over
    pub sofar_skip : (r : ℕ) → InFrame (i % 8) s r → Sofar i words old count bytes r lines
    sofar_skip r f = later r f.on (skipped i (slot_word words) (slot_count words) s r f)

    -- the slot is none of the identity's
    pub sofar_next : s < slot_count words → own_at i (slot_word words) s ≡ None → Sofar i words old count bytes (s + 1) lines
    sofar_next l o = later (s + 1) (omega arith) (none_on (slot_word words) s (slot_count words) l i o)

    module _ (space : 11 * slot_count words ≤ length old) where
      pub sofar_length : length lines ≡ length old
      sofar_length = ap length x.is ∙ over_length old (lines_heard x.done) (omega (arith, x.size, x.short))

      -- there is room for the lines to come
      pub sofar_room : bytes + 11 * (slot_count words - s) ≤ length lines
      sofar_room = omega (arith, x.short, sofar_length)

      -- a page opens in it, and its line is printed behind the others
      pub sofar_page : {f : ℕ} {p : List ℕ} {r : Line} → s < slot_count words → own_at i (slot_word words) s ≡ Some f
          → Printed i f words s (take (length lines - bytes) (drop bytes lines)) p r
          → Sofar i words old (count + 1) (bytes + r.bytes) r.end (take bytes lines ++ (p ++ drop (length lines - bytes) (drop bytes lines)))
      sofar_page {f} {r = r} l o y =
          let h = page_at i f words s in
          let line = lines_more x.done h in
          record {
            done = x.done ++ (h ∷ []);
            all =
                x.all
                ∙ ap (λ (hs : List Hearing). x.done ++ hs) (own_on (slot_word words) s (slot_count words) l i o ∙ ap (λ (hs : List Hearing). h ∷ hs) y.others)
                ∙ sym (append_assoc x.done (h ∷ []) (own_from i (slot_word words) r.end (slot_count words - r.end)));
            counted = omega (arith, x.counted, length-append x.done (h ∷ []));
            size = omega (arith, x.size, y.size, ap length line, length-append (lines_heard x.done) (line_heard h));
            is = over_behind old (lines_heard x.done) (line_heard h) bytes x.is (sym x.size) (omega (arith, x.short, sofar_length)) y.is ∙ ap (over old) (sym line);
            few = omega (arith, x.few, y.on, y.inside);
            short = omega (arith, x.short, y.short, y.on, y.inside);
          }

    -- all slots are passed
    pub sofar_all : slot_count words ≤ s → Kept (pages_for i words) (record { lines = count; bytes = bytes }) lines
    sofar_all l =
        let all : pages_for i words ≡ x.done
        = (follows i words).own ∙ x.all ∙ ap (λ (hs : List Hearing). x.done ++ hs) (own_end (slot_word words) s (slot_count words) l i) ∙ append-nil x.done in
        record {
          count = x.counted ∙ ap length (sym all);
          size = x.size ∙ ap (λ (hs : List Hearing). length (lines_heard hs)) (sym all);
          printed =
              ap (take bytes) x.is
              ∙ take_at (lines_heard x.done) (drop (length (lines_heard x.done)) old) bytes (sym x.size)
              ∙ ap lines_heard (sym all);
        }
