-- What the code keeps of a reading before a slot, and what holds of it. No public promise needs this. `Progress` is src/lib.rt's struct.
use Rattle.std.specs.Prelude.{◌≡◌, Bool, List, ℕ, ◌+◌, ◌*◌, ◌/◌, ◌^◌, ◌≤◌, ◌<◌, length, get_or, take, Option as Slot, None, Some}
use Rattle.std.proofs.Math.Option.{Option, none, some}
use Rattle.codeword.specs.Code.{idle}
use Rattle.reader.specs.Reading.{Hearing, State, close}
use Rattle.reader.specs.Lines.{lines_heard}
use Rattle.reader.specs.Answers.{first_unsynced}
use Rattle.reader.specs.Symbols.{state_by, page_in}
use Rattle.reader.specs.declared.Progress.{Progress}

-- at most 300 batches, and room for ten digits a slot and eleven bytes a slot
pub record Buffers (symbols digits lines : List ℕ) : Type 0 where
  pub slots : length symbols ≤ 4800
  pub room : 10 * length symbols ≤ length digits
  pub space : 11 * length symbols ≤ length lines

-- at most 300 batches, which all begin with sync, with room for their symbols, digits and lines
pub record Room (words : List ℕ) (symbols digits lines : ℕ) : Type 0 where
  pub few : length words ≤ 5100
  pub synced : length words / 17 ≤ first_unsynced words
  pub slots : 16 * (length words / 17) ≤ symbols
  pub room : 160 * (length words / 17) ≤ digits
  pub space : 176 * (length words / 17) ≤ lines

-- The open page before slot s, by its address's slot. The closed pages, so many with so many bytes of lines, fill no more slots than
-- there are before it.
pub data Held (symbols : List ℕ) (s : ℕ) (p : Progress) (held : Option Hearing) : Type 0 where
  nothing : p.held ≡ None → held ≡ none → p.pages ≤ s → p.bytes ≤ 11 * s → Held symbols s p held
  page : (a : ℕ) → p.held ≡ Some a → held ≡ some (page_in symbols a s) → a < s → get_or symbols a 0 < 2 ^ 20 → p.pages ≤ a
      → p.bytes ≤ 11 * a → Held symbols s p held

-- the numbers kept are those of the state before slot s, and the lines of its closed pages are printed
pub record Kept (symbols : List ℕ) (s : ℕ) (st : State) (p : Progress) (lines : List ℕ) : Type 0 where
  pub pages : p.pages ≡ length st.pages
  pub lost : p.lost ≡ st.lost
  pub orphans : p.orphans ≡ st.orphans
  pub few_lost : p.lost ≤ s
  pub few_orphans : p.orphans ≤ s
  pub size : p.bytes ≡ length (lines_heard st.pages)
  pub printed : take p.bytes lines ≡ lines_heard st.pages
  pub held : Held symbols s p st.held

-- the state once the open page, if any, is closed
abbrev pub closed : Bool → State → State
closed cut st = record { pages = close cut st.pages st.held; held = none; lost = st.lost; orphans = st.orphans }

-- the symbols of the slots from s to e are such
pub record Run (P : ℕ → Type 0) (symbols : List ℕ) (s e : ℕ) : Type 0 where
  pub on : s ≤ e
  pub inside : e ≤ length symbols
  pub each : (i : ℕ) → s ≤ i → i < e → P (get_or symbols i 0)

-- the slots from s to e hold message words
abbrev pub Messages : List ℕ → ℕ → ℕ → Type 0
Messages = Run (λ x. (2 ^ 20 ≤ x) × (x < 2 ^ 21))

-- the slots from s to e hold idle
abbrev pub Idles : List ℕ → ℕ → ℕ → Type 0
Idles = Run (λ x. x ≡ idle / 2048)

-- what n message words add: they are orphans where no page is open
abbrev pub orphans_with : Slot ℕ → ℕ → ℕ → ℕ
orphans_with None orphans n = orphans + n
orphans_with (Some a) orphans n = orphans

abbrev pub with_messages : Progress → ℕ → Progress
with_messages p n = record { held = p.held; pages = p.pages; lost = p.lost; orphans = orphans_with p.held p.orphans n; bytes = p.bytes }

-- the slots from s to e change nothing: there are none, or no page is open and they hold idle
pub record Quiet (p : Progress) (symbols : List ℕ) (s e : ℕ) : Type 0 where
  pub idles : Idles symbols s e
  pub shut : s < e → p.held ≡ None

-- all slots are heard, and the end has closed the open page, cut short or not
abbrev pub KeptAll : Bool → List ℕ → Progress → List ℕ → Type 0
KeptAll cut symbols p lines = Kept symbols (length symbols) (closed cut (state_by symbols (length symbols))) p lines
