use Rattle.std.proofs.Common.{◌∙◌, ap}
use Rattle.std.specs.Option.{option_map}
use Rattle.std.proofs.Common.{pos, neg_ℤ, min, ℕ, Option}
use Rattle.rle_reader.proofs.NumberLemmas.{integer_of-minus, integer_of-plain}
use Rattle.rle_reader.proofs.number.integer.Goals as goal

pub returns-in-Some : goal.returns-in-Some
returns-in-Some c =
    c.negative.ensures
    ∙ ap (λ (size : Option ℕ). option_map (λ size. neg_ℤ (pos (min size 9223372036854775807))) size) c.number.ensures
    ∙ integer_of-minus c.args.text.now c.in-Some.digits.now c.in-Some.ensures.cases.0 c.in-Some.ensures.cases.1

pub returns-in-None : goal.returns-in-None
returns-in-None c =
    c.positive.ensures
    ∙ ap (λ (size : Option ℕ). option_map (λ size. pos (min size 9223372036854775807)) size) c.number-in-None.ensures
    ∙ integer_of-plain c.args.text.now c.in-None.ensures.cases
