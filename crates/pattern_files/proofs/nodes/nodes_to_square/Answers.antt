use Rattle.std.proofs.Common.{◌≡◌, ◌-◌, None, Some, length, map, subst, sym, arith, rules}
use Rattle.std.specs.Prelude.{slice_get}
use Rattle.std.proofs.lemmas.Result.{IfOk-weaker}
use Rattle.macrocell_reader.specs.Nodes.{WrittenNode}
use Rattle.macrocell_reader.specs.Planes.{root_plane}
use Rattle.squares.specs.Roots.{IsRootOf}
use Rattle.pattern_files.proofs.NodeSquares.{both_ok, empty_root, last_shown, no_nodes, root_high, root_shown, trimmed_root}
use Rattle.pattern_files.proofs.nodes.nodes_to_square.Goals as goal

pub returns-in-Some-clause-ok : goal.returns-in-Some-clause-ok
returns-in-Some-clause-ok g c =
    let nodes = map (λ (line : WrittenNode). line.node) c.args.lines in
    let squares = c.in_ok-squares.squares.items in
    let found : slice_get squares (length squares - 1) ≡ Some c.in-Some.root.now = search rules in
    let root = last_shown _ nodes squares c.in-Some.root.now c.in_ok-squares.ensures.ok found in
    let is = root_shown _ nodes c.in-Some.root.now root in
    both_ok c.trim.result _ _ _ (λ sq cells smallest. trimmed_root (g.S.Squares.book c.squares_of.new.book) (g.S.Squares.book c.trim.new.book) nodes c.in-Some.root.now sq is cells smallest) c.trim.ensures.cells c.trim.ensures.level

pub returns-in-Some-clause-high : goal.returns-in-Some-clause-high
returns-in-Some-clause-high g c =
    let nodes = map (λ (line : WrittenNode). line.node) c.args.lines in
    let squares = c.in_ok-squares.squares.items in
    let found : slice_get squares (length squares - 1) ≡ Some c.in-Some.root.now = search rules in
    let high = root_high _ nodes squares c.in-Some.root.now c.requires c.in_ok-squares.ensures.ok found in
    IfOk-weaker c.trim.result _ _ (λ sq low. omega (arith, high, low)) c.trim.ensures.no_rise

pub returns-clause-ok : goal.returns-clause-ok
returns-clause-ok g c =
    let nodes = map (λ (line : WrittenNode). line.node) c.args.lines in
    let squares = c.in_ok-squares.squares.items in
    let none : slice_get squares (length squares - 1) ≡ None = search rules in
    subst (IsRootOf (g.S.Squares.book c.squares_of.new.book) (root_plane nodes)) (sym c.empty.ensures)
    (empty_root _ (g.met.S.Squares.is_book c.squares_of.new.book) nodes (no_nodes _ nodes squares c.in_ok-squares.ensures.ok none))
