use Rattle.std.proofs.Common.{inr, refl, sym, subst, arith}
use Rattle.plane.specs.Square.{bits_plane}
use Rattle.squares.specs.declared.sq.Sq.{Sq}
use Rattle.squares.specs.Book.{Shows, numbered}
use Rattle.table_core.specs.declared.shape.Kind.TheVariants.{Leaf}
use Rattle.node_table.specs.Desks.{work_store}
use Rattle.node_table.specs.DesksAtWork.{book_here}
use Rattle.node_table.specs.Refusals.{known_by}
use Rattle.node_table.proofs.Working.{squares_added}
use Rattle.node_table.proofs.Books.{shows_of}
use Rattle.node_table.proofs.Desks.{coherent_here, shard_full, way_full}
use Rattle.node_table.proofs.at.AtSquares.leaf.Goals as goal

pub returns-in_default-clause-refusal : goal.returns-in_default-clause-refusal
returns-in_default-clause-refusal c =
    let new = c.number.new.self in
    inr (refl, shard_full new.table.now.key (known_by new.desk) (way_full new.table.now.key (known_by new.desk) Leaf c.args.word c.in_default.ensures.none.way))

pub returns-in_default-clause-adds : goal.returns-in_default-clause-adds
returns-in_default-clause-adds c = squares_added c.number.ensures.learns

pub returns-clause-ok : goal.returns-clause-ok
returns-clause-ok c =
    let new = c.number.new.self in
    subst (λ (s : Sq). Shows (book_here new) 3 (bits_plane c.args.word) s) (sym c.square.ensures)
    (shows_of (work_store new.expansions new.table.now) new.table.now.key (known_by new.desk) (numbered 3 c.in-Some.number) (bits_plane c.args.word) (coherent_here new) (omega arith) (omega arith) (c.in-Some.ensures.some.leaf refl))

pub returns-clause-adds : goal.returns-clause-adds
returns-clause-adds c = squares_added c.number.ensures.learns
