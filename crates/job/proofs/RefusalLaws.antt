-- The numbers and second places of a refusal. Assumes nothing.
use Prim.Native.Nat.{ℕ}
use mathlib.Core.Path.{◌≡◌, refl, ap, ◌∙◌}
use mathlib.Core.Bool.{true, false}
use Rattle.base.proofs.Bools.{true_false}
use Rattle.job.specs.Refusal.{number_of, position_of, declines_job}
use Rattle.job.specs.declared.Refusal.{Refusal}
use Rattle.job.specs.declared.Refusal.TheVariants.{Malformed, IdentityRange, IdentityReserved, UnknownKind, PartialGroup, ToneWithText, TextMissing, TextTooLong, NoPhrase, Character, TrailingSpace, TooManyLines, EmptyJob, BadBook}

pub refused_number : (why : Refusal) → declines_job (number_of why) ≡ true
refused_number Malformed = refl
refused_number IdentityRange = refl
refused_number IdentityReserved = refl
refused_number UnknownKind = refl
refused_number PartialGroup = refl
refused_number ToneWithText = refl
refused_number TextMissing = refl
refused_number TextTooLong = refl
refused_number NoPhrase = refl
refused_number (Character position) = refl
refused_number TrailingSpace = refl
refused_number TooManyLines = refl
refused_number EmptyJob = refl
refused_number BadBook = refl

-- so it is no other number
pub refused_not : (n : ℕ) → declines_job n ≡ false → (why : Refusal) → number_of why ≡ n → ⊥
refused_not n f why e = true_false (refused_number why) (ap declines_job e ∙ f)

-- only number 6 has a second place
pub refused_position : (why : Refusal) → (number_of why ≡ 6 → ⊥) → position_of why ≡ 0
refused_position Malformed h = refl
refused_position IdentityRange h = refl
refused_position IdentityReserved h = refl
refused_position UnknownKind h = refl
refused_position PartialGroup h = refl
refused_position ToneWithText h = refl
refused_position TextMissing h = refl
refused_position TextTooLong h = refl
refused_position NoPhrase h = refl
refused_position (Character position) h = absurd (h refl)
refused_position TrailingSpace h = refl
refused_position TooManyLines h = refl
refused_position EmptyJob h = refl
refused_position BadBook h = refl
