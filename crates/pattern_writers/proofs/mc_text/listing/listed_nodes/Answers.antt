use Rattle.std.proofs.Common.{ap}
use Rattle.std.proofs.lemmas.Result.{IfOk-weaker}
use Rattle.plane.specs.Centred.{centred}
use Rattle.squares.specs.declared.sq.Sq.{Sq}
use Rattle.squares.specs.Noted.{is_same_key}
use Rattle.std.specs.Map.{lookup}
use Rattle.pattern_writers.proofs.RootNodes.{nodes_of_root}
use Rattle.pattern_writers.proofs.mc_text.listing.listed_nodes.Goals as goal

pub returns : goal.returns
returns g c =
    let book = g.B.Look.book c.args.book.now in
    let plane = centred c.args.sq.level (book.cells c.args.sq) in
    IfOk-weaker c.with_root.result _ _
    (λ nodes grown.
    nodes_of_root book (g.met.B.Look.is_book c.args.book.now) plane c.of-root.result (record { nodes = c.new.result; numbers = c.new-2.result }) c.numbers.new.list c.in_ok-quarters.quarters nodes.items
    c.of-root.ensures c.new.ensures.items (λ (sq : Sq). ap (λ entries. lookup (is_same_key (sq.level, sq.num.0)) entries) c.new-2.ensures.empty) c.in_ok-quarters.ensures grown)
    c.with_root.ensures
