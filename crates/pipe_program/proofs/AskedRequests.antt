-- What lines ask for can be asked.
use Rattle.std.proofs.Common.{List, ℕ}
use Rattle.pipe_requests.specs.Meaning.{Ask}
use Rattle.pipe_requests.specs.declared.request.Request.{Request}
use Rattle.pipe_requests.specs.declared.request.Request.TheVariants as request
use Rattle.pipe_program.specs.Answers.{CanBeAsked}

pub can_be_asked : (words : List (List ℕ)) (asked : Request) → Ask words asked → CanBeAsked asked
can_be_asked words (request.Picture left top right bottom size)
    (first, second, third, fourth, fifth, is, left_is, top_is, right_is, bottom_is, size_is) =
    record { least = size_is.at_least; most = size_is.at_most }
can_be_asked words (request.Period most) (word, is, number) = number.at_least
can_be_asked words (request.Multiple whole) (word, is, number) = number.at_least
can_be_asked words other asks = tt
