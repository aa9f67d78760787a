use Rattle.std.proofs.Common.{◌^◌, ◌∙◌, ap, arith, refl}
use Rattle.table_core.specs.declared.key.Key.{Key}
use Rattle.table_core.specs.declared.shape.Shape.{Shape}
use Rattle.universe.specs.Sums.{pair_sum}
use Rattle.universe.proofs.Evicting.{taken_few, taken_sum}
use Rattle.universe.proofs.Onward.{result_again}
use Rattle.universe.proofs.Staying.{same_square}
use Rattle.universe.proofs.universe.Universe.move_beside.Goals as goal

pub invariant_of-self : goal.invariant_of-self
invariant_of-self g c =
    let few = taken_few c.take_out.result c.args.self.others.tables.items c.take_out.new.self.tables.items c.take_out.ensures.taken c.take_out.ensures.none in
    let same = ap (λ (s : Shape). 2 ^ s.bits) c.take_out.ensures.limit in
    let all = c.args.self.within in
    record { known = c.args.self.known; level = c.args.self.level; within = omega (arith, few, same, all) }

pub move_to-requires-clause-room : goal.move_to-requires-clause-room
move_to-requires-clause-room g c κs within =
    let sum = taken_sum c.args.self.others.tables.items c.take_out.new.self.tables.items c.in-Some.table c.in-Some.ensures.taken in
    let same = ap (λ (s : Shape). 2 ^ s.bits) c.take_out.ensures.limit in
    let all = c.args.self.within in
    omega (arith, sum, same, all)

pub move_to-requires-clause-rule : goal.move_to-requires-clause-rule
move_to-requires-clause-rule g c κs within = c.in-Some.ensures.under.1 ∙ ap (λ (k : Key). k.rule) c.key.ensures

pub invariant_of-self-in-None : goal.invariant_of-self-in-None
invariant_of-self-in-None g c =
    let sum = ap pair_sum c.in-None.ensures.none in
    let same = ap (λ (s : Shape). 2 ^ s.bits) c.take_out.ensures.limit in
    let all = c.args.self.within in
    record { known = c.args.self.known; level = c.args.self.level; within = omega (arith, sum, same, all) }

pub returns-in-Some : goal.returns-in-Some
returns-in-Some g c =
    result_again {first = c.args.self} _ c.args.exponent c.move_to.result c.move_to.ensures (same_square refl refl c.take_out.ensures.limit) c.in-Some.ensures.under.0

pub returns-in-None : goal.returns-in-None
returns-in-None g c =
    result_again {first = c.args.self} _ c.args.exponent c.move_to_fresh.result c.move_to_fresh.ensures (same_square refl refl c.take_out.ensures.limit) refl
