use Rattle.std.proofs.Common.{◌≤◌, ◌<◌, ℕ, ◌-◌, ◌*◌, ◌/◌, ◌%◌, ◌^◌, ap, subst, arith}
use Rattle.table_core.specs.Layout.{first}
use Rattle.table_core.proofs.Ways.{first_fits, first_below}
use Rattle.table_core.proofs.shape.Shape.first.Goals as goal

fits : (b word : ℕ) → b ≤ 28 → word * 11400714819323198485 % 18446744073709551616 / 2 ^ (64 - b) < 2 ^ 28
unfolding first
fits b word h = first_fits b word h

b_first : ℕ → ℕ → ℕ
b_first b word = word * 11400714819323198485 % 18446744073709551616 / 2 ^ (64 - b)

is_below : (b word : ℕ) → b ≤ 64 → b_first b word < 2 ^ b
unfolding first b_first
is_below b word h = first_below b word h

pub overflow_cast-result-2 : goal.overflow_cast-result-2
overflow_cast-result-2 c = let f = fits c.slot_bits.result c.args.word c.slot_bits.ensures.range.1 in omega arith

pub returns-clause-slot : goal.returns-clause-slot
unfolding first
returns-clause-slot c = ap (λ b. c.args.word * 11400714819323198485 % 18446744073709551616 / 2 ^ (64 - b)) c.slot_bits.ensures.value

pub returns-clause-range : goal.returns-clause-range
unfolding b_first
returns-clause-range c =
    let low = c.slot_bits.ensures.range.1 in
    subst (λ b. b_first c.slot_bits.result c.args.word < 2 ^ b) c.slot_bits.ensures.value (is_below c.slot_bits.result c.args.word (omega arith))
