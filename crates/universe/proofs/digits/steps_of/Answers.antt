use Rattle.std.proofs.Common.{arith, ◌≡◌, ◌∙◌, ◌^◌, ℕ, length, drop, ap}
use Rattle.std.specs.Prelude.{sum_by}
use Rattle.std.proofs.lemmas.List.{take-append-le, take_all}
use Rattle.std.proofs.lemmas.List.Sorted.{sum_by-IsPermutation}
use Rattle.universe.specs.declared.digits.Step.{Step}
use Rattle.universe.proofs.digits.steps_of.Goals as goal

pub returns-then-matches : goal.returns-then-matches
returns-then-matches c =
    let size : Step → ℕ = λ step. 2 ^ step.exponent in
    let turned = c.reverse.new.self in
    let steps = c.rising_steps-steps.result.items in
    let len : length turned ≡ length steps = c.reverse.ensures.len ∙ ap length c.as_mut_slice.ensures.value in
    let whole = take-append-le (length steps) turned (drop (length turned) steps) (omega (arith, len)) ∙ take_all (length steps) turned (omega (arith, len)) in
    ap (sum_by size) whole ∙ sum_by-IsPermutation size c.as_mut_slice.result.now turned c.reverse.ensures.permutation
    ∙ ap (sum_by size) c.as_mut_slice.ensures.value ∙ c.rising_steps-steps.ensures
