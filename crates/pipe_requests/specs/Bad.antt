-- The words by which lines are bad.
use Rattle.std.specs.Prelude.{ℕ, List, codes}
use Rattle.pipe_requests.specs.declared.bad.Bad.{Bad}
use Rattle.pipe_requests.specs.declared.bad.Bad.TheVariants as bad

abbrev pub word_of : Bad → List ℕ
word_of bad.Cut = codes "cut"
word_of bad.Long = codes "long"
word_of bad.Name = codes "name"
word_of bad.Words = codes "words"
word_of bad.Format = codes "format"
word_of bad.Number = codes "number"
word_of bad.Closed = codes "closed"
