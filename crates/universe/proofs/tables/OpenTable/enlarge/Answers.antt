use Rattle.std.proofs.Common.{Option, ◌^◌, ◌∙◌, ap, subst}
use Rattle.std.specs.Prelude.{IfSome}
use Rattle.table_core.specs.declared.key.Key.{Key}
use Rattle.table_core.specs.declared.shape.Shape.{Shape}
use Rattle.universe.specs.Stills.{IsCopied}
use Rattle.universe.specs.declared.rooted_still.RootedStill.{RootedStill}
use Rattle.universe.proofs.tables.OpenTable.enlarge.Goals as goal

pub returns-clause-pairs : goal.returns-clause-pairs
returns-clause-pairs g c =
    let copied = subst (λ (o : Option RootedStill). IfSome o (IsCopied c.close.result (2 ^ c.in_ok-planned.planned.shape.bits))) c.in-Some.is c.in_ok-still.ensures in
    ap (λ (k : Key). 2 ^ k.shape.bits) c.in_ok-table.ensures.opens.key ∙ copied.resized.pair_count ∙ ap (λ (s : Shape). 2 ^ s.bits) c.in_ok-planned.ensures.shape
