-- What is kept goes along with the state: one law for each way a slot can go. Assumes nothing.
use mathlib.Core.Path.{◌≡◌, refl, sym, ap, ap₂, ◌∙◌}
use mathlib.Core.Bool.{Bool, true, false}
use mathlib.Core.List.{List, [], ◌∷◌, ◌++◌, map-append}
use mathlib.Core.Option.{Option, none, some}
use Rattle.std.specs.Prelude.{Option as Slot, None, Some}
use Prim.Native.Nat.{ℕ, suc, ◌+◌, ◌-◌, ◌*◌, ◌/◌, ◌%◌, ◌^◌, ◌≤◌, ◌<◌}
use native.Mathlib.Numerals.{add-one}
use native.Mathlib.Omega.{arith}
use lib.ListN.{length, get_or, take, drop, take-append-drop, length-append, length-drop}
use lib.Seq.{take-suc, get_or-drop}
use Rattle.base.specs.Lists.{over}
use Rattle.base.proofs.ListLaws.{over_behind}
use Rattle.placement.specs.Placement.{frame_of}
use Rattle.reader.specs.Reading as reading
use Rattle.reader.specs.Reading.{Hearing, State, extended, closed_as, close, hear}
use Rattle.reader.specs.Lines.{line_heard, lines_heard}
use Rattle.reader.specs.Symbols.{said, state_by, groups_said, page_in}
use Rattle.reader.specs.Progress.{Held, nothing, page, Kept, closed}
use Rattle.reader.specs.declared.Meaning.{Meaning}
use Rattle.reader.specs.declared.Meaning.TheVariants.{Lost, Idle, Address, Message}
use Rattle.reader.specs.declared.Progress.{Progress}
use Rattle.reader.proofs.Blocks.{lines_more}
use Rattle.reader.proofs.OverLaws.{front_is}
use Rattle.reader.proofs.PageLaws.{page_short}
use Rattle.reader.proofs.SymbolLaws.{said_message, said_address}

none_some : {A : Type 0} {x : A} → none ≡ some x → ⊥
none_some e = let z : ◌≡◌ {A = ℕ} 0 1 = cc in omega arith

shut_open : {a : ℕ} → ◌≡◌ {A = Slot ℕ} None (Some a) → ⊥
shut_open e = let z : ◌≡◌ {A = ℕ} 0 1 = cc in omega arith

-- where no page is open
pub record Shut (s : ℕ) (p : Progress) : Type 0 where
  pub none_open : p.held ≡ None
  pub pages_few : p.pages ≤ s
  pub bytes_few : p.bytes ≤ 11 * s

-- where one is, its address is in slot a
pub record Open (symbols : List ℕ) (s a : ℕ) (p : Progress) (o : Option Hearing) : Type 0 where
  pub behind : a < s
  pub address : get_or symbols a 0 < 2 ^ 20
  pub is : o ≡ some (page_in symbols a s)
  pub pages_few : p.pages ≤ a
  pub bytes_few : p.bytes ≤ 11 * a

-- ---- closing the open page

close_none : (cut : Bool) (hs : List Hearing) {o : Option Hearing} → o ≡ none → close cut hs o ≡ hs
unfolding close
close_none cut hs e = rw e

close_page : (cut : Bool) (hs : List Hearing) {o : Option Hearing} (h : Hearing) → o ≡ some h → close cut hs o ≡ hs ++ (closed_as cut h ∷ [])
unfolding close
close_page cut hs h e = rw e

module _ (symbols : List ℕ) (s : ℕ) where
  shut : {p : Progress} {o : Option Hearing} → o ≡ none → Held symbols s p o → Shut s p
  shut e (nothing z h n b) = record { none_open = z; pages_few = n; bytes_few = b }
  shut e (page a z h l x n b) = absurd (none_some (sym e ∙ h))

  open_at : {p : Progress} {o : Option Hearing} (a : ℕ) → p.held ≡ Some a → Held symbols s p o → Open symbols s a p o
  open_at a one (nothing z h n b) = absurd (shut_open (sym z ∙ one))
  open_at a one (page i z h l x n b) =
      let same : ◌≡◌ {A = Slot ℕ} (Some a) (Some i) = sym one ∙ z in
      let e : a ≡ i = cc in
      rw e (record { behind = l; address = x; is = h; pages_few = n; bytes_few = b })

  module _ (st : State) (p : Progress) {lines : List ℕ} (k : Kept symbols s st p lines) where
    pub open_page : (a : ℕ) → p.held ≡ Some a → Open symbols s a p st.held
    open_page a one = open_at a one k.held

    none_open : p.held ≡ None → Held symbols s p st.held → st.held ≡ none
    none_open z (nothing e h q b) = h
    none_open z (page a e h l x q b) = absurd (shut_open (sym z ∙ e))

    -- no page is open
    pub closed_none : (cut : Bool) → p.held ≡ None → Kept symbols s (closed cut st) p lines
    closed_none cut z =
        let h = none_open z k.held in
        let same = sym (close_none cut st.pages h) in
        let few = shut h k.held in
        record {
          pages = k.pages ∙ ap length same;
          lost = k.lost;
          orphans = k.orphans;
          few_lost = k.few_lost;
          few_orphans = k.few_orphans;
          size = k.size ∙ ap (λ (hs : List Hearing). length (lines_heard hs)) same;
          printed = k.printed ∙ ap lines_heard same;
          held = nothing z refl few.pages_few few.bytes_few;
        }

    -- the open page's line is printed behind the others
    module _ (cut : Bool) (a : ℕ) (one : p.held ≡ Some a) (inside : s ≤ length symbols) (room : p.bytes ≤ length lines) where
      abbrev last : Hearing
      last = page_in symbols a s

      abbrev line : List ℕ
      line = line_heard (closed_as cut last)

      pub closed_page : (n : ℕ) {part : List ℕ} → n ≡ length line → part ≡ over (take (length lines - p.bytes) (drop p.bytes lines)) line
          → Kept symbols s (closed cut st) (record { held = None; pages = p.pages + 1; lost = p.lost; orphans = p.orphans; bytes = p.bytes + n })
          (take p.bytes lines ++ (part ++ drop (length lines - p.bytes) (drop p.bytes lines)))
      closed_page n size q =
          let o = open_page a one in
          let old = lines_heard st.pages in
          let pages : close cut st.pages st.held ≡ st.pages ++ (closed_as cut last ∷ []) = close_page cut st.pages last o.is in
          let more : old ++ line ≡ lines_heard (close cut st.pages st.held) = sym (ap lines_heard pages ∙ lines_more st.pages (closed_as cut last)) in
          let whole : lines ≡ over lines old = sym (take-append-drop p.bytes lines) ∙ ap₂ (λ (x : List ℕ) (m : ℕ). x ++ drop m lines) k.printed k.size in
          let next = over_behind lines old line p.bytes whole (sym k.size) room q in
          let total : p.bytes + n ≡ length (old ++ line) = omega (arith, length-append old line, k.size, size) in
          let short = page_short symbols a s cut o.behind inside in
          record {
            pages = omega (arith, ap length pages, length-append st.pages (closed_as cut last ∷ []), k.pages);
            lost = k.lost;
            orphans = k.orphans;
            few_lost = k.few_lost;
            few_orphans = k.few_orphans;
            size = total ∙ ap length more;
            printed = front_is lines (old ++ line) (p.bytes + n) total next ∙ more;
            held = nothing refl refl (omega (arith, o.pages_few, o.behind)) (omega (arith, o.bytes_few, o.behind, size));
          }

-- ---- one slot on

module _ (symbols : List ℕ) (s : ℕ) where
  abbrev x : ℕ
  x = get_or symbols s 0

  abbrev st : State
  st = state_by symbols s

  state_next : (m : Meaning) → said x ≡ m → state_by symbols (s + 1) ≡ hear s st m
  unfolding state_by
  state_next m e = rw add-one (ap (hear s st) e)

  module _ (q : Progress) {lines : List ℕ} where
    pub lost_next : said x ≡ Lost → Kept symbols s (closed true st) q lines
        → Kept symbols (s + 1) (state_by symbols (s + 1)) (record { held = q.held; pages = q.pages; lost = q.lost + 1; orphans = q.orphans; bytes = q.bytes }) lines
    unfolding hear
    lost_next e k =
        let few = shut symbols s refl k.held in
        rw (state_next Lost e)
        (record {
          pages = k.pages;
          lost = ap (λ (n : ℕ). n + 1) k.lost;
          orphans = k.orphans;
          few_lost = omega (arith, k.few_lost);
          few_orphans = omega (arith, k.few_orphans);
          size = k.size;
          printed = k.printed;
          held = nothing few.none_open refl (omega (arith, few.pages_few)) (omega (arith, few.bytes_few));
        })

    pub idle_next : said x ≡ Idle → Kept symbols s (closed false st) q lines → Kept symbols (s + 1) (state_by symbols (s + 1)) q lines
    unfolding hear
    idle_next e k =
        let few = shut symbols s refl k.held in
        rw (state_next Idle e)
        (record {
          pages = k.pages;
          lost = k.lost;
          orphans = k.orphans;
          few_lost = omega (arith, k.few_lost);
          few_orphans = omega (arith, k.few_orphans);
          size = k.size;
          printed = k.printed;
          held = nothing few.none_open refl (omega (arith, few.pages_few)) (omega (arith, few.bytes_few));
        })

    pub address_next : (u f : ℕ) → said x ≡ Address u f → Kept symbols s (closed false st) q lines
        → Kept symbols (s + 1) (state_by symbols (s + 1)) (record { held = Some s; pages = q.pages; lost = q.lost; orphans = q.orphans; bytes = q.bytes }) lines
    unfolding hear
    address_next u f e k =
        let few = shut symbols s refl k.held in
        let parts = said_address x u f e in
        let none_yet : s + 1 - (s + 1) ≡ 0 = omega arith in
        rw (state_next (Address u f) e)
        (record {
          pages = k.pages;
          lost = k.lost;
          orphans = k.orphans;
          few_lost = omega (arith, k.few_lost);
          few_orphans = omega (arith, k.few_orphans);
          size = k.size;
          printed = k.printed;
          held = page s refl (rw (none_yet, parts.1, parts.2)) (omega arith) parts.0 few.pages_few few.bytes_few;
        })

    module _ (b : ℕ) (e : said x ≡ Message b) (k : Kept symbols s st q lines) where
      pub orphan_next : q.held ≡ None
          → Kept symbols (s + 1) (state_by symbols (s + 1)) (record { held = q.held; pages = q.pages; lost = q.lost; orphans = q.orphans + 1; bytes = q.bytes }) lines
      unfolding hear reading.take
      orphan_next z =
          let h = none_open symbols s st q k z k.held in
          let few = shut symbols s h k.held in
          rw (state_next (Message b) e, h, reading.take)
          (record {
            pages = k.pages;
            lost = k.lost;
            orphans = ap (λ (n : ℕ). n + 1) k.orphans;
            few_lost = omega (arith, k.few_lost);
            few_orphans = omega (arith, k.few_orphans);
            size = k.size;
            printed = k.printed;
            held = nothing z refl (omega (arith, few.pages_few)) (omega (arith, few.bytes_few));
          })

      -- one group more
      longer : (a : ℕ) → a < s → s < length symbols → some (extended (page_in symbols a s) b) ≡ some (page_in symbols a (s + 1))
      longer a l inside = ap (λ (gs : List ℕ). some (record { identity = get_or symbols a 0 / 4 * 8 + frame_of a; function = get_or symbols a 0 % 4; groups = gs; cut = false })) more
        where
          more : groups_said (take (s - (a + 1)) (drop (a + 1) symbols)) ++ (b ∷ []) ≡ groups_said (take (s + 1 - (a + 1)) (drop (a + 1) symbols))
          more =
              let d = drop (a + 1) symbols in
              let n : s + 1 - (a + 1) ≡ suc (s - (a + 1)) = omega arith in
              let here : a + 1 + (s - (a + 1)) ≡ s = omega arith in
              let word : get_or d (s - (a + 1)) 0 ≡ x = get_or-drop (a + 1) symbols (s - (a + 1)) 0 ∙ ap (λ (i : ℕ). get_or symbols i 0) here in
              sym (
              ap groups_said (ap (λ (i : ℕ). take i d) n ∙ take-suc d (s - (a + 1)) 0 (omega (arith, length-drop (a + 1) symbols)))
              ∙ map-append (λ y. y % 2 ^ 20) (take (s - (a + 1)) d) (get_or d (s - (a + 1)) 0 ∷ [])
              ∙ ap (λ (g : ℕ). groups_said (take (s - (a + 1)) d) ++ (g ∷ [])) (ap (λ (y : ℕ). y % 2 ^ 20) word ∙ sym (said_message x b e))
              )

      pub group_next : (a : ℕ) → q.held ≡ Some a → s < length symbols → Kept symbols (s + 1) (state_by symbols (s + 1)) q lines
      unfolding hear reading.take
      group_next a one inside =
          let o = open_page symbols s st q k a one in
          rw (state_next (Message b) e, o.is, reading.take)
          (record {
            pages = k.pages;
            lost = k.lost;
            orphans = k.orphans;
            few_lost = omega (arith, k.few_lost);
            few_orphans = omega (arith, k.few_orphans);
            size = k.size;
            printed = k.printed;
            held = page a one (longer a o.behind inside) (omega (arith, o.behind)) o.address o.pages_few o.bytes_few;
          })

-- before the first slot
pub kept_none : (symbols lines : List ℕ) {p : Progress} → p.held ≡ None → p.pages ≡ 0 → p.lost ≡ 0 → p.orphans ≡ 0 → p.bytes ≡ 0
    → Kept symbols 0 (state_by symbols 0) p lines
unfolding state_by lines_heard
kept_none symbols lines held pages lost orphans bytes = record {
  pages = pages;
  lost = lost;
  orphans = orphans;
  few_lost = omega arith;
  few_orphans = omega arith;
  size = bytes;
  printed = rw bytes;
  held = nothing held refl (omega arith) (omega arith);
}
