use Rattle.std.proofs.Common.{◌≡◌, length, rules}
use Rattle.std.proofs.lemmas.Result.{IfOk-weaker}
use Rattle.squares.proofs.FourLeaves.{leaves_centre_shown, leaves_known}
use Rattle.squares.proofs.subsquares.centre_of_leaves.Goals as goal

pub leaf_centre-requires : goal.leaf_centre-requires
leaf_centre-requires g c =
    let four : length c.read_parts-leaves.result ≡ 4 = search rules in
    record { known = leaves_known (g.S.Squares.book c.read_parts-leaves.new.self) c.args.sq.level _ c.read_parts-leaves.result four c.requires.level c.read_parts-leaves.ensures.value }

pub returns-clause-ok : goal.returns-clause-ok
returns-clause-ok g c =
    let book = g.S.Squares.book in
    IfOk-weaker c.leaf_centre.result _ _
    (λ middle shown. leaves_centre_shown (book c.read_parts-leaves.new.self) (book c.leaf_centre.new.book) c.args.sq.level ((book c.args.book.now).cells c.args.sq) c.read_parts-leaves.result middle
    c.requires.level ((g.met.S.Squares.is_book c.args.book.now).square c.args.sq c.requires.known.known) c.read_parts-leaves.ensures.value shown)
    c.leaf_centre.ensures.ok
