use Rattle.std.proofs.Common.{◌^◌, subst, sym}
use Rattle.std.specs.Prelude.{IfOk}
use Rattle.plane.specs.Plane.{after}
use Rattle.node_table.specs.Desks.{book_at}
use Rattle.squares.specs.Book.{Book, IsKnown}
use Rattle.squares.specs.Roots.{IsRootOf, square_plane}
use Rattle.universe.proofs.tables.OpenTable.step.Goals as goal

pub step-desk-requires-clause-known : goal.step-desk-requires-clause-known
step-desk-requires-clause-known g c κs within =
    subst (λ (b : Book). IsKnown b c.args.root.level c.args.root) (sym c.split_off-second.ensures.same_other) c.requires.known

pub returns-clause-ok : goal.returns-clause-ok
returns-clause-ok g c =
    let root = c.args.root in
    let later = book_at c.args.self.now.table c.step-desk.result.0 in
    subst (λ (b : Book). IfOk c.step-desk.result.1 (IsRootOf later (after b.rule (square_plane b root) (2 ^ b.exponent)))) c.split_off-second.ensures.same_other c.step-desk.ensures.ok
