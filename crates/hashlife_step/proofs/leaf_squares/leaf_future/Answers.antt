use Rattle.std.proofs.lemmas.Result.{IfOk-weaker}
use Rattle.std.proofs.Common.{◌≡◌, ◌∙◌, arith, min, subst}
use Rattle.plane.specs.Leaves.{leaves_plane}
use Rattle.plane.specs.Square.{IsSame, bits_plane, future}
use Rattle.squares.proofs.Kept.{keeps_trans}
use Rattle.hashlife_step.proofs.LeafSquares.{future_later, kernel_future}
use Rattle.hashlife_step.proofs.leaf_squares.leaf_future.Goals as goal

pub returns-clause-ok : goal.returns-clause-ok
returns-clause-ok g c =
    let book = g.S.Squares.book in
    let old = book c.args.book.now in
    let k = c.read_leaves-leaves.ensures.adds.keeps in
    let rule : c.rule.result.now ≡ old.rule = c.rule.ensures ∙ k.rule in
    let time : c.min-exponent.result ≡ min old.exponent 2 = let is = c.exponent.ensures ∙ k.exponent in let level = c.requires.level in let least = c.min-exponent.ensures in omega arith in
    let made : IsSame (bits_plane c.result16-word.result) (future old.rule c.min-exponent.result 4 (leaves_plane c.read_leaves-leaves.result)) =
    subst (λ r. IsSame (bits_plane c.result16-word.result) (future r c.min-exponent.result 4 (leaves_plane c.read_leaves-leaves.result))) rule c.result16-word.ensures in
    IfOk-weaker c.leaf.result _ _
    (λ next shown. future_later old (book c.leaf.new.self) c.args.sq next (keeps_trans c.read_leaves-leaves.ensures.adds.keeps c.leaf.ensures.adds.keeps) c.requires.known
    (kernel_future (book c.leaf.new.self) old.rule 4 old.exponent c.min-exponent.result c.args.sq.level (bits_plane c.result16-word.result) (old.cells c.args.sq) (leaves_plane c.read_leaves-leaves.result) next
    c.requires.level time c.read_leaves-leaves.ensures.value made shown))
    c.leaf.ensures.ok
