-- The texts' half of demand 2: a page that is heard as it was sent has its line of the job. What its groups say is what R-9 needs too.
-- Assumes nothing.
use mathlib.Core.Path.{◌≡◌, ap, ap₂, ◌∙◌}
use mathlib.Core.Bool.{true, false}
use mathlib.Core.List.{List, [], ◌∷◌, ◌++◌}
use mathlib.Core.Logic.{⊎_elim}
use Prim.Native.Nat.{ℕ, ◌/◌, ◌≤◌, ◌<◌}
use native.Mathlib.Omega.{arith}
use lib.ListN.{length}
use borrow.Author.Tests.{ne_eqb}
use Rattle.std.specs.Prelude.{Ok}
use Rattle.base.specs.Hex.{pairs_of}
use Rattle.base.proofs.HexLaws.{pairs_back}
use Rattle.base.proofs.SearchLaws.{le_or_lt}
use Rattle.text.specs.Coding.{groups_of}
use Rattle.text.specs.declared.Coding.{Coding}
use Rattle.text.specs.declared.Coding.TheVariants.{Numeric, Alphanumeric}
use Rattle.text.proofs.FivesBack.{fives_count, fives_back}
use Rattle.text.proofs.GroupLaws.{groups_length}
use Rattle.text.proofs.TextBack.{text_back}
use Rattle.job.specs.Submission.{Submission}
use Rattle.job.specs.Line.{is_data, coding_of, function_of, identity_of, kind_of, text_digits, text_of}
use Rattle.job.specs.Message.{groups_from}
use Rattle.job.specs.Pages.{kind_at, digits_at, plain_at}
use Rattle.job.specs.Print.{printed}
use Rattle.job.specs.Job.{job_of}
use Rattle.job.specs.Accepted.{Sound}
use Rattle.job.proofs.Accepted.{accepted_job}
use Rattle.job.proofs.Laws.{text_even, text_hex}
use Rattle.job.proofs.Message.{is_data_lem, no_data, from_data, from_text}
use Rattle.job.proofs.Printed.{line_printed}
use Rattle.transmission.specs.Sending.{sending_from}
use Rattle.transmission.proofs.Sendings.{sending_at_lem}
use Rattle.reader.specs.Lines.{kind_heard, line_heard}
use Rattle.guarantees.specs.Transport.{hearing_of}
use Rattle.guarantees.specs.Demand2.{LineBack}
use Rattle.guarantees.proofs.Digits.{digits_from, shown}

-- ---- the groups of a page's text

tone_function : (kind : ℕ) → kind ≤ 3 → function_of kind ≡ kind
unfolding function_of
tone_function kind h =
    rw (ne_eqb kind 4 (λ e. omega arith), ne_eqb kind 5 (λ e. omega arith), ne_eqb kind 6 (λ e. omega arith), ne_eqb kind 7 (λ e. omega arith))

none_or_some : (c : Coding) (n : ℕ) → (n ≡ 0 → groups_of c n ≡ 0) × (1 ≤ n → 1 ≤ groups_of c n)
none_or_some Numeric n = (λ e. omega arith, λ h. omega arith)
none_or_some Alphanumeric n = (λ e. omega arith, λ h. omega arith)

-- what is known of a page by its sound line: a tone has no groups, any other page has, and its digits are heard from the groups
pub record HeardBack (kind : ℕ) (digits : List ℕ) : Type 0 where
  pub known : kind ≤ 7
  pub tone : kind ≤ 3 → length (groups_from kind digits) ≡ 0
  pub some : 4 ≤ kind → 1 ≤ length (groups_from kind digits)
  pub back : digits_from kind (groups_from kind digits) ≡ digits

module _ (l : List ℕ) (s : Sound l) where
  abbrev kind : ℕ
  kind = kind_of l

  abbrev digits : List ℕ
  digits = text_digits l

  coded_back : kind ≤ 5 → HeardBack kind digits
  coded_back h =
      let t = s.text h in
      let d : is_data kind ≡ false = no_data kind h in
      let size : length (groups_from kind digits) ≡ groups_of (coding_of kind) (length (text_of l)) =
      ap length (from_text kind digits d) ∙ groups_length (coding_of kind) (text_of l) in
      let n = none_or_some (coding_of kind) (length (text_of l)) in
      record {
        known = s.known;
        tone = λ z. size ∙ n.0 (t.tone z);
        some = λ z. rw size (n.1 (t.some z));
        back = rw (from_text kind digits d, d) (ap pairs_of (text_back (coding_of kind) (text_of l) t.chars t.unspaced) ∙ pairs_back digits (text_even l d s.formed) (text_hex l s.formed));
      }

  data_back : 5 < kind → HeardBack kind digits
  data_back h =
      let t = s.grouped h in
      let d : is_data kind ≡ true = is_data_lem kind h s.known in
      let size : length (groups_from kind digits) ≡ length digits / 5 = ap length (from_data kind digits d) ∙ fives_count digits in
      record {
        known = s.known;
        tone = λ z. absurd (omega arith);
        some = λ _. omega (arith, size, t.whole, t.some);
        back = rw (from_data kind digits d, d) (fives_back digits t.whole (text_hex l s.formed));
      }

  heard_back : HeardBack kind digits
  heard_back = ⊎_elim coded_back data_back (le_or_lt kind 5)

pub page_back : (s : Submission) (n : ℕ) → job_of s ≡ Ok n → (p : ℕ) → p < n → HeardBack (kind_at s p) (digits_at s p)
page_back s n ok p h =
    let a = accepted_job s n ok in
    let r = a.page p h in
    rw (r.kind_is, r.digits_are) (heard_back (plain_at s p) (a.sound p h))

-- ---- the line

line_heard_lem : (l : List ℕ) → Sound l → line_heard (hearing_of (sending_from (identity_of l) (kind_of l) (text_digits l))) ≡ l ++ (10 ∷ [])
line_heard_lem l s =
    let gs = groups_from (kind_of l) (text_digits l) in
    let t = heard_back l s in
    let h = shown (kind_of l) gs t.known t.tone in
    let kind : kind_heard (function_of (kind_of l)) gs ≡ kind_of l =
    ⊎_elim
    (λ e. h.tone_is (t.tone e) ∙ tone_function (kind_of l) e)
    (λ e. h.kind_is (t.some e))
    (le_or_lt (kind_of l) 3) in
    ap₂ (λ (k : ℕ) (ds : List ℕ). printed (identity_of l) k ds false) kind (h.digits_are ∙ t.back)
    ∙ line_printed l s

pub line_back : LineBack
line_back s n ok p h =
    let a = accepted_job s n ok in
    let r = a.page p h in
    rw (sending_at_lem s p, r.identity_is, r.kind_is, r.digits_are) (line_heard_lem (plain_at s p) (a.sound p h))
