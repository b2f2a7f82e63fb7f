-- A message is followed slot by slot. Assumes nothing.
use mathlib.Core.Path.{◌≡◌, refl, sym, ap, ◌∙◌}
use mathlib.Core.Bool.{Bool}
use mathlib.Core.List.{List, [], ◌∷◌, ◌++◌, append-nil, append_assoc}
use Prim.Native.Nat.{ℕ, suc, ◌+◌, ◌-◌, ◌≤◌, ◌<◌}
use native.Mathlib.Omega.{arith}
use lib.ListN.{length, take, set, length-set}
use lib.Seq.{take-suc-set}
use Rattle.codeword.specs.Nearest.{nearest}
use Rattle.reader.specs.Meaning.{meaning}
use Rattle.reader.specs.Reading.{Hearing, closed_as, slot_word}
use Rattle.reader.specs.declared.Meaning.TheVariants.{Message}
use Rattle.follower.specs.Following.{followed, own_from, slot_count}
use Rattle.follower.specs.Progress.{Ran}
use Rattle.follower.proofs.SlotLaws.{message_on, message_past}

-- the open page h with these groups more
abbrev longer : Hearing → List ℕ → Hearing
longer h gs = record { identity = h.identity; function = h.function; groups = h.groups ++ gs; cut = h.cut }

-- slots s to e hold message words, whose groups are kept
pub record Going (words : List ℕ) (s : ℕ) (old : List ℕ) (e : ℕ) (groups : List ℕ) : Type 0 where
  pub on : s ≤ e
  pub inside : e ≤ slot_count words
  pub room : slot_count words ≤ length groups
  pub size : length groups ≡ length old
  pub page : (h : Hearing) → followed (slot_word words) s (slot_count words - s) h ≡ followed (slot_word words) e (slot_count words - e) (longer h (take (e - s) groups))
  pub others : (i : ℕ) → own_from i (slot_word words) s (slot_count words - s) ≡ own_from i (slot_word words) e (slot_count words - e)

module _ (words : List ℕ) (s : ℕ) (old : List ℕ) where
  pub going_none : s ≤ slot_count words → slot_count words ≤ length old → Going words s old s old
  going_none h r =
      let z : s - s ≡ 0 = omega arith in
      record {
        on = omega arith;
        inside = h;
        room = r;
        size = refl;
        page = λ g. ap (λ (gs : List ℕ). followed (slot_word words) s (slot_count words - s) (record { identity = g.identity; function = g.function; groups = gs; cut = g.cut }))
            (sym (append-nil g.groups) ∙ ap (λ (k : ℕ). g.groups ++ take k old) (sym z));
        others = λ i. refl;
      }

  module _ (e : ℕ) {groups : List ℕ} (g : Going words s old e groups) where
    pub going_more : {b : ℕ} → e < slot_count words → meaning (nearest (slot_word words e)) ≡ Message b → Going words s old (e + 1) (set groups (e - s) b)
    going_more {b} l m =
        let z : e + 1 - s ≡ suc (e - s) = omega (arith, g.on) in
        let front : take (e + 1 - s) (set groups (e - s) b) ≡ take (e - s) groups ++ (b ∷ [])
        = ap (λ (k : ℕ). take k (set groups (e - s) b)) z ∙ take-suc-set groups (e - s) b (omega (arith, g.room, g.on)) in
        record {
          on = omega (arith, g.on);
          inside = omega arith;
          room = omega (arith, g.room, length-set groups (e - s) b);
          size = length-set groups (e - s) b ∙ g.size;
          page = λ h.
              g.page h
              ∙ message_on (slot_word words) e (slot_count words) l (longer h (take (e - s) groups)) m
              ∙ ap (λ (gs : List ℕ). followed (slot_word words) (e + 1) (slot_count words - (e + 1)) (record { identity = h.identity; function = h.function; groups = gs; cut = h.cut }))
              (append_assoc h.groups (take (e - s) groups) (b ∷ []) ∙ ap (λ (gs : List ℕ). h.groups ++ gs) (sym front));
          others = λ i. g.others i ∙ message_past (slot_word words) e (slot_count words) l i m;
        }

    -- any other word, or the end, closes the page
    pub going_closed : (cut : Bool) → ((h : Hearing) → followed (slot_word words) e (slot_count words - e) h ≡ closed_as cut h) → Ran words s groups (record { end = e; cut = cut })
    going_closed cut stop = record {
      on = g.on;
      inside = g.inside;
      room = g.room;
      page = λ h. g.page h ∙ stop (longer h (take (e - s) groups));
      others = g.others;
    }
