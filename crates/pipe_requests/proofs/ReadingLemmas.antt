-- How many words stand behind a name.
use Rattle.std.proofs.Common.{◌≡◌, ◌≢◌, ℕ, ◌≤◌, List, length, Option, Some, ap, arith}
use Rattle.pipe_requests.specs.Words.{words, words_behind}
use Rattle.pipe_requests.proofs.WordLemmas.{words_some}

-- behind a blank are other than one word only where there are more
pub two_or_more : (rest : Option (List ℕ)) (text : List ℕ) → rest ≡ Some text → length (words_behind rest) ≢ 1 → 2 ≤ length (words_behind rest)
two_or_more rest text is other =
    let same : length (words_behind rest) ≡ length (words text) = ap (λ (r : Option (List ℕ)). length (words_behind r)) is in
    let some : length (words text) ≢ 0 = words_some text in
    omega arith
