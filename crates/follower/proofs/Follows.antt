-- What the full reader hears, and what is heard by following one identity. Assumes nothing.
use mathlib.Core.Path.{◌≡◌, refl, sym, ap, ap₂, ◌∙◌}
use mathlib.Core.Bool.{Bool, true, false, cond}
use mathlib.Core.List.{List, [], ◌∷◌, ◌++◌, append_assoc, append-nil}
use mathlib.Core.Option.{Option, none, some}
use Prim.Native.Nat.{ℕ, zero, suc, ◌+◌, ◌*◌, ◌/◌, ◌%◌}
use native.Mathlib.Omega.{arith}
use lib.Dec.{eqb}
use borrow.Author.Tests.{eq-eqb, ne_eqb, eqb-true, eqb-false}
use Rattle.base.specs.Passing.{passing}
use Rattle.base.proofs.PassingLaws.{passing_append, passing_one}
use Rattle.codeword.specs.Nearest.{nearest}
use Rattle.placement.specs.Placement.{frame_of}
use Rattle.reader.specs.Meaning.{meaning}
use Rattle.reader.specs.Reading as reading
use Rattle.reader.specs.Reading.{Hearing, opened, extended, closed_as, close, hear, read_at, slot_word, heard_stretch, heard_in}
use Rattle.reader.specs.declared.Meaning.{Meaning}
use Rattle.reader.specs.declared.Meaning.TheVariants.{Lost, Idle, Address, Message}
use Rattle.reader.proofs.Laws.{addressed}
use Rattle.follower.specs.Pages.{of_identity, pages_for}
use Rattle.follower.specs.Following.{onward, followed, opened_by, pages_from, own_said, own_at, own_page, own_opened, own_from, slot_count, Follows}
use Rattle.std.specs.declared.option.Option.TheVariants.{Some, None}

-- ---- all pages

module _ (word : ℕ → ℕ) where
  -- the open page, if any, followed over the k slots from slot s on
  abbrev rest : ℕ → ℕ → Option Hearing → List Hearing
  rest s k none = []
  rest s k (some h) = followed word s k h ∷ []

  -- the same where slot s has k slots behind it and its word says this
  abbrev rest_by : ℕ → ℕ → Meaning → Option Hearing → List Hearing
  rest_by s k m none = []
  rest_by s k m (some h) = onward h (followed word (suc s) k) m ∷ []

  rest_by_lem : (s k : ℕ) (o : Option Hearing) → rest s (suc k) o ≡ rest_by s k (meaning (nearest (word s))) o
  unfolding followed
  rest_by_lem s k none = refl
  rest_by_lem s k (some h) = refl

  -- one slot: what was open, and what opens
  turn : (s k : ℕ) (ps : List Hearing) (l q : ℕ) (tail : List Hearing) (m : Meaning) (o : Option Hearing) →
      let r = hear s (record { pages = ps; held = o; lost = l; orphans = q }) m in
      r.pages ++ (rest (suc s) k r.held ++ tail) ≡ ps ++ (rest_by s k m o ++ (opened_by word s k m ++ tail))
  unfolding hear close reading.take
  turn s k ps l q tail Lost none = refl
  turn s k ps l q tail Lost (some h) = append_assoc ps (closed_as true h ∷ []) tail
  turn s k ps l q tail Idle none = refl
  turn s k ps l q tail Idle (some h) = append_assoc ps (closed_as false h ∷ []) tail
  turn s k ps l q tail (Address u f) none = refl
  turn s k ps l q tail (Address u f) (some h) = append_assoc ps (closed_as false h ∷ []) (followed word (suc s) k (opened s u f) ∷ tail)
  turn s k ps l q tail (Message b) none = refl
  turn s k ps l q tail (Message b) (some h) = refl

  -- the end
  last : (s : ℕ) (ps : List Hearing) (o : Option Hearing) → close false ps o ≡ ps ++ (rest s 0 o ++ [])
  unfolding close followed
  last s ps none = sym (append-nil ps)
  last s ps (some h) = refl

  along : (n k s : ℕ) → s + k ≡ n
      → close false (read_at word n).pages (read_at word n).held ≡ (read_at word s).pages ++ (rest s k (read_at word s).held ++ pages_from word s k)
  unfolding read_at pages_from
  along n zero s e =
      let z : n ≡ s = omega arith in
      rw z (last s (read_at word s).pages (read_at word s).held)
  along n (suc k) s e =
      let r = read_at word s in
      let m = meaning (nearest (word s)) in
      along n k (suc s) (omega arith)
      ∙ turn s k r.pages r.lost r.orphans (pages_from word (suc s) k) m r.held
      ∙ ap (λ (x : List Hearing). r.pages ++ (x ++ (opened_by word s k m ++ pages_from word (suc s) k))) (sym (rest_by_lem s k r.held))

  all_pages : (n : ℕ) → close false (read_at word n).pages (read_at word n).held ≡ pages_from word 0 n
  unfolding read_at
  all_pages n = along n n 0 (omega arith)

-- ---- the pages of one identity

module _ (word : ℕ → ℕ) where
  -- a page keeps its identity
  pub same_identity : (k s : ℕ) (h : Hearing) → (followed word s k h).identity ≡ h.identity
  unfolding followed
  same_identity zero s h = refl
  same_identity (suc k) s h = go (λ g. same_identity k (suc s) g) (meaning (nearest (word s)))
    where
      go : ((g : Hearing) → (followed word (suc s) k g).identity ≡ g.identity) → (m : Meaning) → (onward h (followed word (suc s) k) m).identity ≡ h.identity
      go more Lost = refl
      go more Idle = refl
      go more (Address u f) = refl
      go more (Message b) = more (extended h b)

  -- the page of an address, by its frame and its upper bits
  module _ (i s k u f : ℕ) where
    abbrev page : Hearing
    page = followed word (suc s) k (opened s u f)

    is : page.identity ≡ u + frame_of s
    is = same_identity k (suc s) (opened s u f)

    one : {b : Bool} → eqb page.identity i ≡ b → of_identity i (page ∷ []) ≡ cond b (page ∷ []) []
    one e = passing_one (λ (h : Hearing). eqb h.identity i) page e

    address_own : u % 8 ≡ 0 → (frame upper : Bool) → eqb (frame_of s) (i % 8) ≡ frame → eqb u (i / 8 * 8) ≡ upper
        → of_identity i (page ∷ []) ≡ own_opened i word s k (cond frame (cond upper (Some f) None) None)
    address_own low true true p q =
        let e : u + frame_of s ≡ i = omega (arith, eqb-true (frame_of s) (i % 8) p, eqb-true u (i / 8 * 8) q) in
        one (eq-eqb page.identity i (is ∙ e)) ∙ ap (λ (j : ℕ). followed word (suc s) k (own_page j f) ∷ []) e
    address_own low true false p q = one (ne_eqb page.identity i (λ e. omega (arith, is, eqb-true (frame_of s) (i % 8) p, eqb-false u (i / 8 * 8) q)))
    address_own low false upper p q = one (ne_eqb page.identity i (λ e. omega (arith, is, eqb-false (frame_of s) (i % 8) p)))

  -- the page of a slot
  module _ (i s k : ℕ) where
    nothing_own : (frame : Bool) → [] ≡ own_opened i word s k (cond frame None None)
    nothing_own true = refl
    nothing_own false = refl

    opened_own : (m : Meaning) → ((u f : ℕ) → m ≡ Address u f → u % 8 ≡ 0)
        → of_identity i (opened_by word s k m) ≡ own_opened i word s k (cond (eqb (frame_of s) (i % 8)) (own_said i m) None)
    unfolding passing
    opened_own Lost low = nothing_own (eqb (frame_of s) (i % 8))
    opened_own Idle low = nothing_own (eqb (frame_of s) (i % 8))
    opened_own (Address u f) low = address_own i s k u f (low u f refl) (eqb (frame_of s) (i % 8)) (eqb u (i / 8 * 8)) refl refl
    opened_own (Message b) low = nothing_own (eqb (frame_of s) (i % 8))

  own_pages : (i k s : ℕ) → of_identity i (pages_from word s k) ≡ own_from i word s k
  unfolding pages_from own_from own_at passing
  own_pages i zero s = refl
  own_pages i (suc k) s =
      let m = meaning (nearest (word s)) in
      passing_append (λ (h : Hearing). eqb h.identity i) (opened_by word s k m) (pages_from word (suc s) k)
      ∙ ap₂ ◌++◌ (opened_own i s k m (λ u f e. (addressed (nearest (word s)) u f e).low)) (own_pages i k (suc s))

pub follows : (i : ℕ) (words : List ℕ) → Follows i words
unfolding heard_stretch pages_for
follows i words =
    let all : (heard_in words).pages ≡ pages_from (slot_word words) 0 (slot_count words) = all_pages (slot_word words) (slot_count words) in
    record { all = all; own = ap (of_identity i) all ∙ own_pages (slot_word words) i (slot_count words) 0 }
