use Rattle.std.proofs.lemmas.Result.{IfOk-weaker}
use Rattle.std.proofs.Common.{◌≡◌, ◌∙◌, arith, min, subst}
use Rattle.leaf_kernels.specs.Rows.{four_fours_plane, four_sixteens_plane}
use Rattle.plane.specs.Square.{IsSame, future}
use Rattle.squares.proofs.Kept.{keeps_trans}
use Rattle.hashlife_step.proofs.LeafSquares.{future_later, kernel_future}
use Rattle.hashlife_step.proofs.leaf_squares.base_future.Goals as goal

pub returns-clause-ok : goal.returns-clause-ok
returns-clause-ok g c =
    let book = g.S.Squares.book in
    let old = book c.args.book.now in
    let k = c.read_quarters-quarters.ensures.adds.keeps in
    let rule : c.rule.result.now ≡ old.rule = c.rule.ensures ∙ k.rule in
    let time : c.min-exponent.result ≡ min old.exponent 4 = let is = c.exponent.ensures ∙ k.exponent in let level = c.requires.level in let least = c.min-exponent.ensures in omega arith in
    let made : IsSame (four_fours_plane c.result64-middle.result) (future old.rule c.min-exponent.result 6 (four_sixteens_plane c.read_quarters-quarters.result)) =
    subst (λ r. IsSame (four_fours_plane c.result64-middle.result) (future r c.min-exponent.result 6 (four_sixteens_plane c.read_quarters-quarters.result))) rule c.result64-middle.ensures in
    IfOk-weaker c.join_quarters.result _ _
    (λ next shown. future_later old (book c.join_quarters.new.book) c.args.sq next (keeps_trans c.read_quarters-quarters.ensures.adds.keeps c.join_quarters.ensures.adds.keeps) c.requires.known
    (kernel_future (book c.join_quarters.new.book) old.rule 6 old.exponent c.min-exponent.result c.args.sq.level (four_fours_plane c.result64-middle.result) (old.cells c.args.sq) (four_sixteens_plane c.read_quarters-quarters.result) next
    c.requires.level time c.read_quarters-quarters.ensures.value made shown))
    c.join_quarters.ensures.ok
