use Rattle.std.proofs.Common.{◌∙◌, ap, Some, ◌∷◌, [], ◌-◌, subst, sym}
use Rattle.squares.specs.declared.sq.Sq.{Sq}
use Rattle.squares.specs.Book.{AreQuarters}
use Rattle.squares.specs.Nodes.{plain_book, plane_at, nodes_of}
use Rattle.squares.proofs.PlainLaws.{zero_quarters, node_quarters}
use Rattle.squares.proofs.plain_book.PlainBookLook.parts.Goals as goal

pub returns-then-is_empty : goal.returns-then-is_empty
returns-then-is_empty c =
    let at = c.args.self.now in
    subst (λ (q : Sq). AreQuarters (plain_book at.rule at.exponent at.records.items) c.args.sq.level (plane_at (nodes_of at.records.items) (c.args.sq.level - 3) c.args.sq.num.0) (q ∷ q ∷ q ∷ q ∷ [])) (sym c.empty.ensures)
    (zero_quarters at.rule at.exponent at.records.items at.good c.args.sq.level c.args.sq.num.0 c.requires.level c.requires.known.high (c.is_empty.ensures.0 c.if-is_empty.true))

pub returns : goal.returns
returns c =
    let at = c.args.self.now in
    node_quarters at.rule at.exponent at.records.items at.good c.args.sq.level c.args.sq.num.0 c.in-Inner.quarters c.requires.level c.requires.known.known (c.record.ensures.node ∙ ap (λ x. Some x) c.in-Inner.is)
