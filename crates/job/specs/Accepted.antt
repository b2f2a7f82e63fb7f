-- What is known of an accepted job. `accepted_job` in proofs/Accepted.antt proves it.
use Rattle.std.specs.Prelude.{ℕ, ◌%◌, ◌≤◌, ◌<◌, ◌≡◌, List, true, false, length, get_or}
use Rattle.base.specs.Leading.{leading}
use Rattle.base.specs.Lines.{split, line_at}
use Rattle.text.specs.Coding.{char_ok, ends_in_space}
use Rattle.job.specs.Line.{well_formed, is_reserved, longest_of, coding_of, function_of, identity_of, kind_of, text_digits, text_of}
use Rattle.job.specs.Message.{count_from}
use Rattle.phrases.specs.Book.{phrase_of}
use Rattle.job.specs.Submission.{Submission}
use Rattle.job.specs.Pages.{pages_of, no_page, page_at, kind_at, digits_at, plain_at}
use Rattle.job.specs.Job.{reading_of}

-- a text of kinds 0 to 5: how many characters it has, each of them the kind's, and no space at the end of a numeric one
pub record TextSound (kind : ℕ) (bytes : List ℕ) : Type 0 where
  pub tone : kind ≤ 3 → length bytes ≡ 0
  pub some : 4 ≤ kind → 1 ≤ length bytes
  pub most : length bytes ≤ longest_of kind
  pub chars : length bytes ≤ leading (char_ok (coding_of kind)) bytes
  pub unspaced : ends_in_space (coding_of kind) bytes ≡ false

-- the digits of kinds 6 and 7: 1 to 84 whole groups of five
pub record DataSound (digits : List ℕ) : Type 0 where
  pub whole : length digits % 5 ≡ 0
  pub some : 1 ≤ length digits
  pub most : length digits ≤ 420

-- what a line stands for that is not refused
pub record Sound (l : List ℕ) : Type 0 where
  -- the form, the identity, the kind, the text
  pub formed : well_formed l ≡ true
  pub in_range : identity_of l ≤ 0x1FFFFF
  pub free : is_reserved (identity_of l) ≡ false
  pub known : kind_of l ≤ 7
  pub text : kind_of l ≤ 5 → TextSound (kind_of l) (text_of l)
  pub grouped : 6 ≤ kind_of l → DataSound (text_digits l)
  -- so the function fits its two bits, the text takes at most 84 message codewords and has at most 480 digits
  pub function : function_of (kind_of l) < 4
  pub brief : count_from (kind_of l) (length (text_digits l)) ≤ 84
  pub short : length (text_digits l) ≤ 480

-- the page at index p of a job
pub record PageRead (s : Submission) (p : ℕ) : Type 0 where
  -- it is what its line stands for, and reading the job returns it
  pub identity_is : (page_at s p).identity ≡ identity_of (plain_at s p)
  pub kind_is : kind_at s p ≡ kind_of (plain_at s p)
  pub digits_are : digits_at s p ≡ text_digits (plain_at s p)
  pub length_is : (page_at s p).length ≡ length (digits_at s p)
  pub read : get_or (reading_of s).pages p no_page ≡ page_at s p
  -- its kind is its line's; where that is 9, it is sent as kind 5 with the phrase that the line names
  pub line_kind : (page_at s p).kind ≡ kind_of (line_at p (split s.job))
  pub phrased : (page_at s p).kind ≡ 9 → (kind_at s p ≡ 5) × (digits_at s p ≡ phrase_of s.book (text_digits (line_at p (split s.job))))

-- a job of n pages: 1 to 48, each of a line that stands for a sound one
pub record AcceptedJob (s : Submission) (n : ℕ) : Type 0 where
  pub least : 1 ≤ n
  pub most : n ≤ 48
  pub pages : length (pages_of s) ≡ n
  pub sound : (p : ℕ) → p < n → Sound (plain_at s p)
  pub page : (p : ℕ) → p < n → PageRead s p
