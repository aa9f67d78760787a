use Rattle.std.proofs.Common.{◌≡◌, ◌∙◌, ◌-◌, subst, sym, inl, refl, arith}
use Rattle.std.specs.Prelude.{IfNone}
use Rattle.std.proofs.lemmas.Bool.{false≢true}
use Rattle.squares.specs.Book.{HasResult, Shows}
use Rattle.squares.specs.Nodes.{nodes_of, level_of, plane_at, plain_book}
use Rattle.plane.specs.Square.{IsSame, empty, future}
use Rattle.plane.proofs.Same.{same_sym, same_trans}
use Rattle.squares.proofs.EmptyFutures.{future_empty}
use Rattle.squares.proofs.Kept.{keeps_none}
use Rattle.squares.proofs.KeptResults.{has_result, no_result, future_is}
use Rattle.squares.proofs.NodeLaws.{zero_plane}
use Rattle.squares.proofs.NodeLists.{level_at}
use Rattle.squares.proofs.PlainLaws.{is_known, zero_known}
use Rattle.squares.proofs.plain_book.PlainBookSquares.recall.Goals as goal

pub returns-then-is_empty-clause-some : goal.returns-then-is_empty-clause-some
returns-then-is_empty-clause-some c =
    let at = c.args.self.now in
    let nodes = nodes_of at.records.items in
    let level = c.args.sq.level in
    let plane = plane_at nodes (level - 3) c.args.sq.num.0 in
    let above = c.requires.level in
    let high = c.requires.known.high in
    let none : IsSame plane empty = subst (λ n. IsSame (plane_at nodes (level - 3) n) empty) (sym (c.is_empty.ensures.0 c.if-is_empty.true)) (zero_plane nodes (level - 3)) in
    subst (Shows (plain_book at.rule at.exponent at.records.items) (level - 1) (future at.rule at.exponent level plane)) (sym c.empty.ensures) (record {
      known = is_known at.rule at.exponent at.records.items at.good (level - 1) 0 (zero_known nodes (level - 1) (omega arith) (omega arith));
      cells = same_trans (zero_plane nodes (level - 1 - 3)) (same_sym (future_empty at.rule at.is_book.rule at.exponent level plane none));
    })

pub returns-in_err-num-clause-none : goal.returns-in_err-num-clause-none
returns-in_err-num-clause-none c =
    let at = c.args.self.now in
    subst (λ o. IfNone o (¬ HasResult (plain_book at.rule at.exponent at.records.items) c.args.sq)) (sym c.from_residual.ensures)
    (no_result at.records.items at.rule at.exponent c.args.sq c.record.result (λ e. false≢true (sym c.if-is_empty.false ∙ c.is_empty.ensures.1 e)) c.record.ensures.record c.in_err-num.was)

pub returns-clause-some : goal.returns-clause-some
returns-clause-some c =
    let at = c.args.self.now in
    let level : level_of c.record.result.node ≡ c.args.sq.level = level_at (nodes_of at.records.items) c.args.sq.level c.args.sq.num.0 c.record.result.node c.requires.known.known c.record.ensures.node in
    future_is at.records.items at.rule at.exponent c.args.sq c.record.result c.in_ok-num.num at.futures (λ e. false≢true (sym c.if-is_empty.false ∙ c.is_empty.ensures.1 e)) c.record.ensures.record level c.in_ok-num.was

pub returns-clause-results : goal.returns-clause-results
returns-clause-results c =
    let at = c.args.self.now in
    let level : level_of c.record.result.node ≡ c.args.sq.level = level_at (nodes_of at.records.items) c.args.sq.level c.args.sq.num.0 c.record.result.node c.requires.known.known c.record.ensures.node in
    record {
      known = has_result at.records.items at.rule at.exponent c.args.sq c.record.result c.in_ok-num.num (λ e. false≢true (sym c.if-is_empty.false ∙ c.is_empty.ensures.1 e)) c.record.ensures.record level c.in_ok-num.was;
      told = inl (record { results = refl; learned = refl });
    }

pub returns-then-is_empty-clause-keeps : goal.returns-then-is_empty-clause-keeps
returns-then-is_empty-clause-keeps c = keeps_none _

pub returns-in_err-num-clause-keeps : goal.returns-in_err-num-clause-keeps
returns-in_err-num-clause-keeps c = keeps_none _

pub returns-clause-keeps : goal.returns-clause-keeps
returns-clause-keeps c = keeps_none _
