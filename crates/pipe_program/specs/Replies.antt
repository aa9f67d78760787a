-- The bytes of replies.
use Rattle.std.specs.Prelude.{ℕ, ℤ, List, [], ◌++◌, codes, decimal, length, Option, None, Some, Result, Ok, Err}
use Rattle.std.specs.Fmt.{signed_decimal}
use Rattle.rule_text.specs.RuleText.{canonical_text}
use Rattle.plane.specs.Refusal.{name_of, number_of}
use Rattle.plane.specs.declared.fault.Fault.{Fault}
use Rattle.pipe_requests.specs.Bad.{word_of}
use Rattle.pipe_program.specs.declared.answering.Answer.{Answer}
use Rattle.pipe_program.specs.declared.answering.Answer.TheVariants as answer
use Rattle.pipe_program.specs.declared.answering.Failure.{Failure}
use Rattle.pipe_program.specs.declared.answering.Failure.TheVariants as failure

-- what a reply says
abbrev pub Reply : Type 0
Reply = Result Answer Failure

-- a blank, and the number
abbrev pub number_word : ℕ → List ℕ
number_word number = codes " " ++ decimal number

abbrev pub signed_word : ℤ → List ℕ
signed_word number = codes " " ++ signed_decimal number

-- what stands behind `ok` in the line
abbrev pub answer_words : Answer → List ℕ
answer_words answer.Done = []
answer_words (answer.Generation number) = number_word number
answer_words (answer.Rule rule) = codes " " ++ canonical_text rule
answer_words (answer.Population count) = number_word count
answer_words (answer.Bounds None) = codes " empty"
answer_words (answer.Bounds (Some bounds)) =
    signed_word bounds.left ++ signed_word bounds.top ++ signed_word bounds.right
    ++ signed_word bounds.bottom
answer_words (answer.Period None) = codes " none"
answer_words (answer.Period (Some period)) =
    number_word period.generations ++ signed_word period.right ++ signed_word period.down
answer_words (answer.Moved None) = codes " none"
answer_words (answer.Moved (Some by)) = signed_word by.0 ++ signed_word by.1
answer_words (answer.Bytes bytes) = number_word (length bytes.items)

-- the block behind the line
abbrev pub answer_block : Answer → List ℕ
answer_block (answer.Bytes bytes) = bytes.items
answer_block other = []

-- a blank and the place, if there is one
abbrev pub place_word : Option ℕ → List ℕ
place_word None = []
place_word (Some place) = number_word place

-- number, name and place of a refusal
abbrev pub refused_line : Fault → List ℕ
refused_line fault =
    codes "refused " ++ decimal (number_of fault.refusal) ++ codes " " ++ name_of fault.refusal
    ++ place_word fault.place ++ codes "\n"

-- the bytes of a reply
abbrev pub reply_text : Reply → List ℕ
reply_text (Ok answer) = codes "ok" ++ answer_words answer ++ codes "\n" ++ answer_block answer
reply_text (Err (failure.Refused fault)) = refused_line fault
reply_text (Err (failure.Bad why)) = codes "bad " ++ word_of why ++ codes "\n"
