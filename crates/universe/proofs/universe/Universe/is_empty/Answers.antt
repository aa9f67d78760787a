use Rattle.node_table.specs.Desks.{store_of}
use Rattle.universe.specs.Tables.{known_at}
use Rattle.universe.proofs.Roots.{is_without_cells}
use Rattle.universe.proofs.universe.Universe.is_empty.Goals as goal

pub returns : goal.returns
returns c =
    let universe = c.args.self.now in
    let here = universe.here in
    let book = (here.desk.sound here.table.key here.of_table.same_key).book (store_of here.table) in
    let both = is_without_cells (known_at here) universe.root book universe.known in
    (λ is. both.0 (c.is_empty.ensures.0 is), λ none. c.is_empty.ensures.1 (both.1 none))
