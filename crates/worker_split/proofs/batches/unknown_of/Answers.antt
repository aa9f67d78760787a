use Rattle.std.proofs.Common.{All, subst, sym, Vec, Global}
use Rattle.squares.specs.declared.sq.Sq.{Sq}
use Rattle.squares.specs.Book.{IsKnown}
use Rattle.squares.proofs.Kept.{keeps_trans, known_kept}
use Rattle.node_table.specs.DesksAtWork.{book_here}
use Rattle.worker_split.proofs.Books.{all_known_kept}
use Rattle.worker_split.proofs.Places.{pushed}
use Rattle.worker_split.proofs.batches.unknown_of.Goals as goal
use Rattle.worker_split.proofs.batches.unknown_of.Goals.{then-is_none+in_ok-insert+then-branch+in_ok-push, else-is_none}

pub returns-in_err-insert-clause-keeps : goal.returns-in_err-insert-clause-keeps
returns-in_err-insert-clause-keeps c = keeps_trans c.loop-k.invariant.0 c.recall.ensures.keeps

pub returns-in_err-push-clause-keeps : goal.returns-in_err-push-clause-keeps
returns-in_err-push-clause-keeps c = keeps_trans c.loop-k.invariant.0 c.recall.ensures.keeps

pub loop-k-preserved : goal.loop-k-preserved
loop-k-preserved c =
    let new = book_here c.recall.new.self in
    let keeps = keeps_trans c.loop-k.invariant.0 c.recall.ensures.keeps in
    let kept = all_known_kept (book_here c.loop-k.at) new c.args.level c.loop-k.unknown.items c.recall.ensures.keeps c.loop-k.invariant.1 in
    let known = known_kept keeps (c.requires.known c.loop-k.k _ c.loop-k-test.true) in
    let P = λ (v : Vec Sq Global). All (IsKnown new c.args.level) v.items in (
      keeps,
      elim c.if-is_none.branch [
        | then-is_none+in_ok-insert+then-branch+in_ok-push w ↦ subst P (sym w.unknown-is) (pushed (IsKnown new c.args.level) _ _ _ _ w.push.ensures.items kept known)
        | else-is_none w ↦ subst P (sym w.unknown-is) kept
      ],
    )
