use Rattle.std.proofs.lemmas.Result.{IfOk-weaker}
use Rattle.plane.specs.Square.{IsSame, bits_plane, centre_of}
use Rattle.plane.proofs.Same.{plane_equal}
use Rattle.squares.specs.Book.{joined_squares}
use Rattle.squares.proofs.Centres.{shows_as}
use Rattle.std.proofs.Common.{refl, subst}
use Rattle.squares.proofs.leaves.leaf_centre.Goals as goal

pub returns-clause-ok : goal.returns-clause-ok
returns-clause-ok g c =
    let book = g.S.Squares.book in
    let same : IsSame (bits_plane c.centre16.result) (centre_of 4 (joined_squares (book c.args.book.now) 3 c.args.four)) =
    subst (λ p. IsSame (bits_plane c.centre16.result) (centre_of 4 p)) (plane_equal _ _ c.read_four-leaves.ensures.value) c.centre16.ensures in
    IfOk-weaker c.leaf.result _ _ (λ next shown. shows_as (book c.leaf.new.self) 3 3 _ _ next refl same shown) c.leaf.ensures.ok
