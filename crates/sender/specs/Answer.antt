-- Document 01's number and place for each answer of a step, and its values.
use Rattle.std.specs.Prelude.{ℕ}
use Rattle.sender.specs.declared.Answer.{Answer}
use Rattle.sender.specs.declared.Answer.TheVariants.{Word, Done, Refused}

-- 11 where the state is none of a sender; 0 where nothing is declined
abbrev pub number_of : Answer → ℕ
number_of (Word w) = 0
number_of Done = 0
number_of Refused = 11

-- a state has no line or batch: the place is 0
abbrev pub place_of : Answer → ℕ
place_of a = 0

-- the word, 0 where there is none
abbrev pub word_said : Answer → ℕ
word_said (Word w) = w
word_said Done = 0
word_said Refused = 0

-- 1 where all words are out
abbrev pub done_said : Answer → ℕ
done_said (Word w) = 0
done_said Done = 1
done_said Refused = 0
