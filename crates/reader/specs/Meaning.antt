-- What a received word says, once corrected (document 01, "Codewords" and "Listings and reading"). `Meaning` is src/lib.rt's enum.
use Rattle.std.specs.Prelude.{Bool, false, cond, ℕ, ◌*◌, ◌/◌, ◌%◌, ◌^◌, eqb, ltb, Option, None, Some}
use Rattle.codeword.specs.Code.{sync, idle}
use Rattle.job.specs.Line.{is_reserved}
use Rattle.reader.specs.declared.Meaning.{Meaning}
use Rattle.reader.specs.declared.Meaning.TheVariants.{Lost, Idle, Address, Message}

-- bit 1 is 0: an address, whose bits 2 to 19 are the upper bits of the identity and bits 20 and 21 the function;
-- where that upper value is reserved it is idle itself, or lost
unfoldable pub flag_clear : ℕ → Meaning
flag_clear c = cond (is_reserved (c / 8192 * 8)) (cond (eqb c idle) Idle Lost) (Address (c / 8192 * 8) (c / 2048 % 4))

-- what a codeword says; bit 1 is 1: a message codeword, whose bits 2 to 21 are a group
unfoldable pub codeword_meaning : ℕ → Meaning
codeword_meaning c = cond (ltb c (2 ^ 31)) (flag_clear c) (Message (c / 2048 % 1048576))

-- what a received word says, by its nearest codeword: a word that can't be corrected is lost
abbrev pub meaning : Option ℕ → Meaning
meaning None = Lost
meaning (Some c) = codeword_meaning c

-- a word that corrects to sync
abbrev pub is_sync : Option ℕ → Bool
is_sync None = false
is_sync (Some c) = eqb c sync
