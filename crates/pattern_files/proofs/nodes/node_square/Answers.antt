use Rattle.std.proofs.Common.{◌≡◌, ◌+◌, None, Some, arith, subst, sym}
use Rattle.std.specs.List.{AllByRecursion}
use Rattle.std.proofs.lemmas.Result.{IfOk-weaker}
use Rattle.macrocell_reader.specs.NodeFaults.{fault_among}
use Rattle.macrocell_reader.specs.Nodes.{level_of}
use Rattle.macrocell_reader.specs.Planes.{node_plane}
use Rattle.macrocell_reader.specs.declared.node.Node.TheVariants.{Inner}
use Rattle.squares.specs.Book.{IsKnown, Shows, joined_squares, nth}
use Rattle.pattern_files.specs.NodeSquares.{levels_of, shown_planes}
use Rattle.pattern_files.proofs.NodeSquares.{inner_level, inner_quarter, inner_shown, quarters_known, quarters_level}
use Rattle.pattern_files.proofs.nodes.node_square.Goals as goal

pub overflow_sub-level : goal.overflow_sub-level
overflow_sub-level g c =
    let book = g.S.Squares.book c.args.book.now in
    let squares = c.args.squares.now in
    let lawful : fault_among (levels_of squares) (Some (Inner c.in-Inner.level c.in-Inner.kids)) ≡ None = subst (λ n. fault_among (levels_of squares) (Some n) ≡ None) c.in-Inner.is c.requires.lawful in
    let low = (inner_level book (g.met.S.Squares.is_book c.args.book.now) squares c.in-Inner.level c.in-Inner.kids c.requires.known lawful).0 in
    omega (arith, low)

pub quarters-requires : goal.quarters-requires
quarters-requires g c =
    let book = g.S.Squares.book c.args.book.now in
    let squares = c.args.squares.now in
    let lawful : fault_among (levels_of squares) (Some (Inner c.in-Inner.level c.in-Inner.kids)) ≡ None = subst (λ n. fault_among (levels_of squares) (Some n) ≡ None) c.in-Inner.is c.requires.lawful in
    λ i. (inner_quarter book (g.met.S.Squares.is_book c.args.book.now) squares c.in-Inner.level c.in-Inner.kids i c.requires.known lawful).within

pub quad-requires-clause-level : goal.quad-requires-clause-level
quad-requires-clause-level g c =
    let book = g.S.Squares.book c.args.book.now in
    let squares = c.args.squares.now in
    let lawful : fault_among (levels_of squares) (Some (Inner c.in-Inner.level c.in-Inner.kids)) ≡ None = subst (λ n. fault_among (levels_of squares) (Some n) ≡ None) c.in-Inner.is c.requires.lawful in
    let high = (inner_level book (g.met.S.Squares.is_book c.args.book.now) squares c.in-Inner.level c.in-Inner.kids c.requires.known lawful).1 in
    let level = quarters_level book (g.met.S.Squares.is_book c.args.book.now) squares c.in-Inner.level c.in-Inner.kids c.requires.known lawful in
    rw c.quarters.ensures (omega (arith, high, level))

pub quad-requires-clause-known : goal.quad-requires-clause-known
quad-requires-clause-known g c =
    let book = g.S.Squares.book c.args.book.now in
    let squares = c.args.squares.now in
    let lawful : fault_among (levels_of squares) (Some (Inner c.in-Inner.level c.in-Inner.kids)) ≡ None = subst (λ n. fault_among (levels_of squares) (Some n) ≡ None) c.in-Inner.is c.requires.lawful in
    subst (λ qs. AllByRecursion (IsKnown book (nth qs 0).level) qs) (sym c.quarters.ensures)
    (quarters_known book (g.met.S.Squares.is_book c.args.book.now) squares c.in-Inner.level c.in-Inner.kids c.requires.known lawful)

pub returns-in-Inner-clause-ok : goal.returns-in-Inner-clause-ok
returns-in-Inner-clause-ok g c =
    let book = g.S.Squares.book c.args.book.now in
    let new = g.S.Squares.book c.quad.new.self in
    let squares = c.args.squares.now in
    let lawful : fault_among (levels_of squares) (Some (Inner c.in-Inner.level c.in-Inner.kids)) ≡ None = subst (λ n. fault_among (levels_of squares) (Some n) ≡ None) c.in-Inner.is c.requires.lawful in
    IfOk-weaker c.quad.result _ _ (λ sq shown.
    subst (λ n. Shows new (level_of n) (node_plane (shown_planes book squares) n) sq) (sym c.in-Inner.is)
    (inner_shown book (g.met.S.Squares.is_book c.args.book.now) squares c.in-Inner.level c.in-Inner.kids c.requires.known lawful new sq
    (subst (λ qs. Shows new ((nth qs 0).level + 1) (joined_squares book (nth qs 0).level qs) sq) c.quarters.ensures shown)))
    c.quad.ensures.ok
