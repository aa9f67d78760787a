use Rattle.std.proofs.Common.{◌≡◌, ℕ, ◌+◌, ◌∙◌, ap}
use Rattle.table_core.specs.declared.shape.Kind.{Kind}
use Rattle.table_core.specs.Layout.{start, slot_bits, slot_on_way, way}
use Rattle.table_core.proofs.shape.Shape.way_index.Goals as goal

same : (bits : ℕ) (kind : Kind) (word place slot index : ℕ) → index ≡ start bits kind + slot → slot ≡ slot_on_way (slot_bits bits kind) word place → index ≡ way bits kind word place
unfolding way
same bits kind word place slot index e s = e ∙ ap (λ n. start bits kind + n) s

pub returns-clause-index : goal.returns-clause-index
returns-clause-index c = same c.args.self.bits c.args.kind c.args.word c.args.place c.way.result c.index.result c.index.ensures.index c.way.ensures.slot
