use Rattle.std.proofs.lemmas.Result.{IfOk-weaker}
use Rattle.squares.proofs.NineSquares.{make_middle, middle_is_centre}
use Rattle.squares.proofs.subsquares.centre_of_parts.Goals as goal

pub returns-clause-ok : goal.returns-clause-ok
returns-clause-ok g c =
    let book = g.S.Squares.book in
    let middle = make_middle c.requires.level c.requires.known.high c.read_twice-parts.ensures.value in
    IfOk-weaker c.quad.result _ _ (λ sq joined. middle_is_centre c.args.sq.level ((book c.args.book.now).cells c.args.sq) sq (middle.shown (book c.quad.new.self) sq joined)) c.quad.ensures.ok
