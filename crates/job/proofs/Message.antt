-- Laws of kinds, and of the groups of a page's text: how many they are, and their bits. Assumes nothing.
use Prim.Native.Nat.{ℕ, ◌/◌, ◌^◌, ◌≤◌, ◌<◌}
use mathlib.Core.Path.{◌≡◌, refl, sym, ap, ◌∙◌}
use mathlib.Core.Bool.{Bool, true, false, cond}
use mathlib.Core.List.{List}
use native.Mathlib.Omega.{arith}
use lib.Dec.{leb, eqb}
use lib.ListN.{length, get_or}
use borrow.Author.Tests.{le-leb, lt-leb, leb-true, eqb-true}
use Rattle.base.specs.Hex.{bytes_of}
use Rattle.base.specs.Lists.{tab}
use Rattle.base.proofs.Bools.{and_true, and_false}
use Rattle.base.proofs.HexLaws.{bytes_length}
use Rattle.base.proofs.ListLaws.{tab-length}
use Rattle.text.specs.Coding.{group_of, groups_of, groups_in}
use Rattle.text.specs.Fives.{five_at, fives_in}
use Rattle.text.proofs.FivesBack.{fives_small}
use Rattle.text.proofs.GroupLaws.{groups_small}
use Rattle.job.specs.Line.{is_data, coding_of, kind_sent}
use Rattle.job.specs.Message.{group_from, count_from, groups_from}

-- ---- which kinds are data

pub is_data_lem : (kind : ℕ) → 6 ≤ kind → kind ≤ 7 → is_data kind ≡ true
unfolding is_data
is_data_lem kind low high = simp (le-leb 6 kind low, le-leb kind 7 high)

pub no_data : (kind : ℕ) → kind ≤ 5 → is_data kind ≡ false
unfolding is_data
no_data kind low = simp (lt-leb 6 kind (omega arith))

pub over_data : (kind : ℕ) → 7 < kind → is_data kind ≡ false
unfolding is_data
over_data kind high = rw (lt-leb kind 7 high) (and_false (leb 6 kind))

pub data_kind : (kind : ℕ) → is_data kind ≡ true → (6 ≤ kind) × (kind ≤ 7)
unfolding is_data
data_kind kind e = let x = and_true (leb 6 kind) (leb kind 7) e in (leb-true 6 kind x.0, leb-true kind 7 x.1)

-- ---- a phrase is sent as an alphanumeric text

pub data_sent : (kind : ℕ) → is_data (kind_sent kind) ≡ is_data kind
unfolding is_data kind_sent
data_sent kind = go (eqb kind 9) refl
  where
    go : (t : Bool) → eqb kind 9 ≡ t → is_data (cond t 5 kind) ≡ is_data kind
    go true e = let nine : kind ≡ 9 = eqb-true kind 9 e in rw nine
    go false e = refl

pub coding_sent : (kind : ℕ) → coding_of (kind_sent kind) ≡ coding_of kind
unfolding coding_of kind_sent
coding_sent kind = go (eqb kind 9) refl
  where
    go : (t : Bool) → eqb kind 9 ≡ t → coding_of (cond t 5 kind) ≡ coding_of kind
    go true e = let nine : kind ≡ 9 = eqb-true kind 9 e in rw nine
    go false e = refl

-- ---- the groups of a text, by its kind

-- the first n groups, where it is known whether they are data
abbrev told : ℕ → List ℕ → ℕ → Bool → List ℕ
told kind digits n d = tab (λ g. cond d (five_at digits g) (group_of (coding_of kind) (bytes_of digits) g)) n

pub told_data : (kind : ℕ) (digits : List ℕ) (n : ℕ) → is_data kind ≡ true → tab (five_at digits) n ≡ tab (group_from kind digits) n
told_data kind digits n e = ap (told kind digits n) (sym e)

pub told_text : (kind : ℕ) (digits : List ℕ) (n : ℕ) → is_data kind ≡ false → tab (group_of (coding_of kind) (bytes_of digits)) n ≡ tab (group_from kind digits) n
told_text kind digits n e = ap (told kind digits n) (sym e)

pub count_data : (kind n : ℕ) → is_data kind ≡ true → count_from kind n ≡ n / 5
unfolding count_from
count_data kind n e = rw e

pub count_text : (kind n : ℕ) → is_data kind ≡ false → count_from kind n ≡ groups_of (coding_of kind) (n / 2)
unfolding count_from
count_text kind n e = rw e

-- all of them
pub from_data : (kind : ℕ) (digits : List ℕ) → is_data kind ≡ true → groups_from kind digits ≡ fives_in digits
unfolding groups_from fives_in
from_data kind digits e = ap (tab (group_from kind digits)) (count_data kind (length digits) e) ∙ sym (told_data kind digits (length digits / 5) e)

pub from_text : (kind : ℕ) (digits : List ℕ) → is_data kind ≡ false → groups_from kind digits ≡ groups_in (coding_of kind) (bytes_of digits)
unfolding groups_from groups_in
from_text kind digits e =
    let n : count_from kind (length digits) ≡ groups_of (coding_of kind) (length (bytes_of digits)) = count_text kind (length digits) e ∙ ap (groups_of (coding_of kind)) (sym (bytes_length digits)) in
    ap (tab (group_from kind digits)) n ∙ sym (told_text kind digits (groups_of (coding_of kind) (length (bytes_of digits))) e)

-- ---- the groups of any text

pub from_count : (kind : ℕ) (digits : List ℕ) → length (groups_from kind digits) ≡ count_from kind (length digits)
unfolding groups_from
from_count kind digits = tab-length (group_from kind digits) (count_from kind (length digits))

pub from_small : (kind : ℕ) (digits : List ℕ) (i : ℕ) → get_or (groups_from kind digits) i 0 < 2 ^ 20
from_small kind digits i = go (is_data kind) refl
  where
    go : (d : Bool) → is_data kind ≡ d → get_or (groups_from kind digits) i 0 < 2 ^ 20
    go true e = rw (from_data kind digits e) (fives_small digits i)
    go false e = rw (from_text kind digits e) (groups_small (coding_of kind) (bytes_of digits) i)
