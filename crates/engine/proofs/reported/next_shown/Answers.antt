use Rattle.std.proofs.Common.{◌≡◌, ◌+◌, ◌*◌, ◌/◌, ◌<◌, rules, arith, pos_of_ne-zero}
use Rattle.engine.proofs.Steps.{next_fits, none_between, multiple_shown}
use Rattle.engine.proofs.reported.next_shown.Goals as goal

pub overflow_add-done : goal.overflow_add-done
overflow_add-done c = let small = next_fits c.args.done c.args.options.now.step c.args.options.now.gens c.requires (search rules) in search rules

pub returns-in-Some-clause-shown : goal.returns-in-Some-clause-shown
returns-in-Some-clause-shown c =
    let step = c.args.options.now.step in
    let is : c.in-Some.next ≡ (c.args.done / step + 1) * step = search rules in
    rw is (multiple_shown c.args.options.now (c.args.done / step + 1) (pos_of_ne-zero c.if-options-eq0.false))

pub returns-in_default-clause-between : goal.returns-in_default-clause-between
returns-in_default-clause-between c = λ number later before.
    let step = c.args.options.now.step in
    let is : c.in-Some.next ≡ (c.args.done / step + 1) * step = search rules in
    let below : number < (c.args.done / step + 1) * step = omega (arith, is, before, c.if-next-gens.false) in
    none_between c.args.options.now c.args.done number later before below
