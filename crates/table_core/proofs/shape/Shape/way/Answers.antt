use Rattle.std.proofs.Common.{◌≡◌, ℕ, ◌+◌, ◌*◌, ◌/◌, ◌%◌, ap, arith}
use Rattle.table_core.specs.Layout.{first, slot_on_way, slot_bits}
use Rattle.table_core.proofs.Ways.{on_way_below}
use Rattle.table_core.proofs.shape.Shape.way.Goals as goal

same : (b word place f : ℕ) → f ≡ first b word → 256 * (f / 256) + (f + place) % 256 ≡ slot_on_way b word place
unfolding slot_on_way
same b word place f e = ap (λ n. 256 * (n / 256) + (n + place) % 256) e

pub returns-clause-slot : goal.returns-clause-slot
returns-clause-slot c = same (slot_bits c.args.self.bits c.args.kind) c.args.word c.args.place c.first-first.result c.first-first.ensures.slot

pub returns-clause-range : goal.returns-clause-range
returns-clause-range c =
    let e = same (slot_bits c.args.self.bits c.args.kind) c.args.word c.args.place c.first-first.result c.first-first.ensures.slot in
    let low = on_way_below c.args.self.bits c.args.kind c.args.word c.args.place c.args.self.range.0 (let r = c.args.self.range.1 in omega arith) in omega arith
