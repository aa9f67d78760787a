use Rattle.std.proofs.Common.{◌≡◌, ℕ, ◌<◌, ◌+◌, ◌^◌, sym, subst, arith}
use Rattle.table_core.specs.declared.shape.Kind.{Kind}
use Rattle.table_core.specs.Layout.{start, slot_bits, size}
use Rattle.table_core.proofs.Ways.{slot_below, power_fits, le_few, start_fits}
use Rattle.table_core.proofs.shape.Shape.index.Goals as goal

pub overflow_add-result : goal.overflow_add-result
overflow_add-result c =
    let s = start_fits c.args.self.bits c.args.kind c.args.self.range.1 in
    let p = power_fits (slot_bits c.args.self.bits c.args.kind) (le_few c.args.self.bits c.args.kind c.args.self.range.1) in omega arith

below_size : (bits : ℕ) (kind : Kind) (begin slot : ℕ) → begin ≡ start bits kind → slot < 2 ^ slot_bits bits kind → begin + slot < size bits
below_size bits kind begin slot e low = subst (λ n. n + slot < size bits) (sym e) (slot_below bits kind (start bits kind + slot) (record { from = omega arith; below = omega arith }))

pub returns-clause-range : goal.returns-clause-range
returns-clause-range c = below_size c.args.self.bits c.args.kind c.start.result c.args.slot c.start.ensures c.requires
