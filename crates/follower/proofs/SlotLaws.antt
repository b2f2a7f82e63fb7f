-- One slot at a time, as the code goes. Assumes nothing.
use mathlib.Core.Path.{◌≡◌, refl}
use mathlib.Core.Bool.{Bool, true, false, cond}
use mathlib.Core.List.{[], ◌∷◌}
use Rattle.std.specs.Prelude.{Option}
use Prim.Native.Nat.{ℕ, suc, ◌+◌, ◌-◌, ◌*◌, ◌/◌, ◌%◌, ◌≤◌, ◌<◌}
use native.Mathlib.Numerals.{add-one}
use native.Mathlib.Omega.{arith}
use lib.Dec.{eqb}
use borrow.Author.Tests.{eq-eqb, ne_eqb}
use Rattle.codeword.specs.Nearest.{nearest}
use Rattle.placement.specs.Placement.{frame_of}
use Rattle.reader.specs.Meaning.{meaning}
use Rattle.reader.specs.Reading.{Hearing, extended, closed_as}
use Rattle.reader.specs.declared.Meaning.{Meaning}
use Rattle.reader.specs.declared.Meaning.TheVariants.{Lost, Idle, Address, Message}
use Rattle.reader.proofs.Laws.{addressed}
use Rattle.follower.specs.Following.{followed, own_said, own_at, own_page, own_from}
use Rattle.std.specs.declared.option.Option as option
use Rattle.std.specs.declared.option.Option.TheVariants.{Some, None}

-- ---- what a slot is to the identity

-- by an address's upper bits
pub upper_own : (i u f : ℕ) → u ≡ i / 8 * 8 → Some f ≡ own_said i (Address u f)
upper_own i u f e = rw (eq-eqb u (i / 8 * 8) e)

pub upper_other : (i u f : ℕ) → (u ≡ i / 8 * 8 → ⊥) → None ≡ own_said i (Address u f)
upper_other i u f e = rw (ne_eqb u (i / 8 * 8) e)

-- its function has two bits
said_bits : (i f : ℕ) (m : Meaning) → ((u g : ℕ) → m ≡ Address u g → g < 4) → own_said i m ≡ Some f → f < 4
said_bits i f Lost h e = let z : ◌≡◌ {A = ℕ} 0 1 = cc in absurd (omega arith)
said_bits i f Idle h e = let z : ◌≡◌ {A = ℕ} 0 1 = cc in absurd (omega arith)
said_bits i f (Message b) h e = let z : ◌≡◌ {A = ℕ} 0 1 = cc in absurd (omega arith)
said_bits i f (Address u g) h e = go (eqb u (i / 8 * 8)) (h u g refl) e
  where
    go : (b : Bool) → g < 4 → cond b (Some g) None ≡ Some f → f < 4
    go true l e = let same : g ≡ f = cc in omega arith
    go false l e = let z : ◌≡◌ {A = ℕ} 0 1 = cc in absurd (omega arith)

pub said_function : (i : ℕ) (o : Option ℕ) (f : ℕ) → own_said i (meaning o) ≡ Some f → f < 4
said_function i o f e = said_bits i f (meaning o) (λ u g q. (addressed o u g q).function) e

module _ (i : ℕ) (word : ℕ → ℕ) (s : ℕ) where
  -- a slot of the identity's frame is what its word says
  pub own_frame : frame_of s ≡ i % 8 → own_at i word s ≡ own_said i (meaning (nearest (word s)))
  unfolding own_at
  own_frame e = rw (eq-eqb (frame_of s) (i % 8) e)

  -- one of another frame is nothing
  pub other_frame : (frame_of s ≡ i % 8 → ⊥) → own_at i word s ≡ None
  unfolding own_at
  other_frame n = rw (ne_eqb (frame_of s) (i % 8) n)

  -- a message word is nothing in any frame
  pub message_none : {b : ℕ} → meaning (nearest (word s)) ≡ Message b → own_at i word s ≡ None
  unfolding own_at
  message_none m = rw m (same (eqb (frame_of s) (i % 8)))
    where
      same : (b : Bool) → ◌≡◌ {A = option.Option ℕ} (cond b None None) None
      same true = refl
      same false = refl

  pub own_function : (f : ℕ) → own_at i word s ≡ Some f → f < 4
  unfolding own_at
  own_function f = go (eqb (frame_of s) (i % 8))
    where
      go : (b : Bool) → cond b (own_said i (meaning (nearest (word s)))) None ≡ Some f → f < 4
      go true e = said_function i (nearest (word s)) f e
      go false e = let z : ◌≡◌ {A = ℕ} 0 1 = cc in absurd (omega arith)

-- ---- from slot e on, of n slots

module _ (word : ℕ → ℕ) (e n : ℕ) where
  module _ (l : e < n) where
    abbrev behind : ℕ
    behind = n - (e + 1)

    more : n - e ≡ suc behind
    more = omega arith

    -- the open page h goes on
    pub message_on : (h : Hearing) {b : ℕ} → meaning (nearest (word e)) ≡ Message b → followed word e (n - e) h ≡ followed word (e + 1) behind (extended h b)
    unfolding followed
    message_on h m = rw (more, add-one e, m)

    -- it closes
    pub lost_on : (h : Hearing) → meaning (nearest (word e)) ≡ Lost → followed word e (n - e) h ≡ closed_as true h
    unfolding followed
    lost_on h m = rw (more, m)

    pub idle_on : (h : Hearing) → meaning (nearest (word e)) ≡ Idle → followed word e (n - e) h ≡ closed_as false h
    unfolding followed
    idle_on h m = rw (more, m)

    pub address_on : (h : Hearing) {u f : ℕ} → meaning (nearest (word e)) ≡ Address u f → followed word e (n - e) h ≡ closed_as false h
    unfolding followed
    address_on h m = rw (more, m)

    -- no page of identity i opens
    pub none_on : (i : ℕ) → own_at i word e ≡ None → own_from i word e (n - e) ≡ own_from i word (e + 1) behind
    unfolding own_from
    none_on i o = rw (more, add-one e, o)

    pub message_past : (i : ℕ) {b : ℕ} → meaning (nearest (word e)) ≡ Message b → own_from i word e (n - e) ≡ own_from i word (e + 1) behind
    message_past i m = none_on i (message_none i word e m)

    -- one opens
    pub own_on : (i : ℕ) {f : ℕ} → own_at i word e ≡ Some f → own_from i word e (n - e) ≡ followed word (e + 1) behind (own_page i f) ∷ own_from i word (e + 1) behind
    unfolding own_from
    own_on i o = rw (more, add-one e, o)

  -- no slot is left
  module _ (l : n ≤ e) where
    none : n - e ≡ 0
    none = omega arith

    pub end_on : (h : Hearing) → followed word e (n - e) h ≡ closed_as false h
    unfolding followed
    end_on h = rw none

    pub own_end : (i : ℕ) → own_from i word e (n - e) ≡ []
    unfolding own_from
    own_end i = rw none
